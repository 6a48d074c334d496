pub mod StreamLemmas
pub mod FileLaws
pub mod PathLaws
mod PartLaws
mod Examples
