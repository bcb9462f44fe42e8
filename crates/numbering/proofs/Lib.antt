pub mod Halves
pub mod Keeping
