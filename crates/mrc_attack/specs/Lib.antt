pub mod Leaks
pub mod Attacks
pub mod Refuting
