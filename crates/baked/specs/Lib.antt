pub mod Bytes
pub mod Format
pub mod Reading
pub mod Faults
pub mod Texts
pub mod Views
pub mod Laws
