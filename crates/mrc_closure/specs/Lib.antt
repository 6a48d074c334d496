pub mod Merging
pub mod Least
pub mod Laws
pub mod Chains
pub mod Orders
pub mod Dealing
pub mod Working
pub mod Barred
