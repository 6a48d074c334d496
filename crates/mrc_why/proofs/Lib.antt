pub mod Members
pub mod Steps
pub mod Verdicts
pub mod GivenBy
pub mod Routines
pub mod Labels
pub mod SlotSorts
pub mod TextLaws
