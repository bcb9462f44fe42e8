pub mod Lines
pub mod Rectangles
