pub mod Mending
pub mod Causes
pub mod Judging
pub mod Texts
