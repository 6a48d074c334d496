pub mod Heads
pub mod Silence
