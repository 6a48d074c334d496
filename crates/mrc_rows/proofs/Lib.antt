pub mod Rows
pub mod Wholes
pub mod Kept
pub mod Joins
pub mod Groups
pub mod Iterating
pub mod Behind
