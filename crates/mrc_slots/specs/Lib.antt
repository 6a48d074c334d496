pub mod Passing
pub mod Masks
