pub mod Accepted
pub mod Exposed
pub mod TextLaws
mod Worked
