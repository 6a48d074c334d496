pub mod Places
pub mod Meeting
pub mod Laws
pub mod Examples
