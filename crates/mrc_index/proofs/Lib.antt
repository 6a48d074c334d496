pub mod PairLaws
pub mod IndexLaws
pub mod FadeLaws
pub mod PerishLaws
pub mod SetLaws
pub mod LeftLaws
pub mod UndoLaws
pub mod ReplacingLaws
