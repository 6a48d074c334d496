pub mod ItemLemmas
pub mod ItemLaws
pub mod SlotLaws
pub mod LineLaws
pub mod LineLemmas
pub mod NameLemmas
pub mod BodyLemmas
pub mod HeadingLemmas
pub mod HeadingLaws
pub mod TextLaws
pub mod OtherLaws
mod Examples
mod LineExamples
