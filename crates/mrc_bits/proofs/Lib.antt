pub mod Words
pub mod Counts
pub mod Fresh
pub mod Both
pub mod Less
