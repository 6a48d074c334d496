pub mod FirstLemmas
pub mod LawLemmas
pub mod ListedLemmas
