pub mod Bounds
pub mod Changes
pub mod Giving
pub mod Leaving
pub mod Listings
pub mod Refusals
pub mod Takes
