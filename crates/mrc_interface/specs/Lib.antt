pub mod Bodies
pub mod Subsystems
pub mod View
pub mod Reading
pub mod Left
pub mod Written
pub mod Laws
pub mod Examples
