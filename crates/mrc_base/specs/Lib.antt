pub mod Disposition
pub mod NameRight
pub mod Limits
pub mod Reading
pub mod Faults
