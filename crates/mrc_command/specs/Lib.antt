pub mod Lines
pub mod CommandLine
pub mod Meaning
