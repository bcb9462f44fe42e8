pub mod Rules
pub mod Geometry
