pub mod Words
pub mod Reading
pub mod Laws
pub mod Numbers
