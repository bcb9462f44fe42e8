pub mod Shallow
pub mod Keeping
