pub mod Cameras
pub mod Lenses
pub mod Texts
