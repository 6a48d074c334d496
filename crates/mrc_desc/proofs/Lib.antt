pub mod Words
pub mod Steps
pub mod Descriptors
pub mod Bodies
pub mod Whole
pub mod Walks
pub mod Others
