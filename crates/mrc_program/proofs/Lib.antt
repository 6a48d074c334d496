pub mod WritingLaws
pub mod ChangeLaws
