pub mod Words
pub mod Reading
pub mod Arguments
pub mod Examples
