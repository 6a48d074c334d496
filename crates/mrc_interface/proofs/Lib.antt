mod Finding
mod Slots
pub mod ReadingLaws
pub mod LeftLaws
pub mod WrittenLaws
