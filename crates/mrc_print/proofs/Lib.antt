pub mod HeadLaws
pub mod EmptyLaws
pub mod SilenceLaws
pub mod ShownLaws
