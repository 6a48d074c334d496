pub mod Ends
pub mod Leaking
pub mod Forced
