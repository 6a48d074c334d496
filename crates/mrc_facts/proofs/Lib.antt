pub mod Derived
pub mod Keys
pub mod Total
pub mod Bytes
pub mod Members
pub mod Comparing
pub mod Removing
pub mod Walking
