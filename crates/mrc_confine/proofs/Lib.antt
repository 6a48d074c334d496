pub mod Guarding
pub mod Meaning
pub mod Safe
