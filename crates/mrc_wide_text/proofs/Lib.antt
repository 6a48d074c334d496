mod HeadingLemmas
mod ListLemmas
mod ItemLemmas
mod TextLaws
mod OtherLaws
mod OlderLaws
mod WideLaws
pub mod SaidLaws
