pub mod Asking
pub mod Dead
pub mod Searching
pub mod Laws
