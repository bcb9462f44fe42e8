pub mod Invariant
pub mod TriangleSet
pub mod Sets
pub mod Faults
pub mod Calls
pub mod IndexList
pub mod Views
pub mod Laws
