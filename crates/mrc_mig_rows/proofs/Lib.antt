pub mod EndLemmas
pub mod HeadingLemmas
pub mod FirstLemmas
pub mod PartLemmas
pub mod StatementLemmas
pub mod CarriedLemmas
