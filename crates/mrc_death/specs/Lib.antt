pub mod Heads
pub mod Losing
pub mod Plans
pub mod Removing
pub mod Rights
pub mod Search
pub mod Taking
