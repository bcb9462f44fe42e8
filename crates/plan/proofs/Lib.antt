pub mod Parting
pub mod Meeting
pub mod Touching
