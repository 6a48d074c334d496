pub mod Demands
pub mod Trusted
pub mod Verdict
pub mod Texts
