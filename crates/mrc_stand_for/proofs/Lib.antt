pub mod EachLemmas
pub mod KindLemmas
pub mod StoodLemmas
pub mod ProductLemmas
pub mod ListLemmas
pub mod TextLemmas
pub mod OldLemmas
mod PolicyLemmas
