pub mod Rights
pub mod TableLaws
