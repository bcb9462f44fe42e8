pub mod Forests
pub mod SplitSets
pub mod Rules
pub mod Steps
pub mod Laws
