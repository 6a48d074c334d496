pub mod PieceLaws
pub mod LexingLaws
pub mod SpanLaws
pub mod PartLaws
pub mod FoundLaws
