pub mod Descriptor
pub mod Lawful
pub mod View
pub mod Spelling
pub mod Reading
pub mod Laws
pub mod Examples
