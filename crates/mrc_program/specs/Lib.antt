pub mod Runs
pub mod Writing
