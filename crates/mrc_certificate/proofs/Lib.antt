pub mod Fields
pub mod Six
pub mod Series
pub mod Ends
pub mod Whole
pub mod Sets
pub mod Runs
