mod QuoteLemmas
mod LineLemmas
mod TextLemmas
mod OtherLemmas
mod FactLemmas
mod OneLemmas
pub mod StandLemmas
