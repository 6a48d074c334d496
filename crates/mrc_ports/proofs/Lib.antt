pub mod Dropping
pub mod SlotLaws
pub mod TableLaws
pub mod Turning
