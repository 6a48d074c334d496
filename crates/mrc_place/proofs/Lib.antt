pub mod LineLemmas
pub mod SpotLemmas
mod Worked
