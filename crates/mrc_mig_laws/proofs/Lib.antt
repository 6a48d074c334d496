pub mod EndLemmas
pub mod PartLemmas
pub mod RowLemmas
pub mod HeadingLemmas
pub mod WholeLemmas
pub mod DeclarationLemmas
pub mod FileLemmas
pub mod TextLemmas
