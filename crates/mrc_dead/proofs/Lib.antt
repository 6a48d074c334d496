pub mod Numbers
pub mod Quiet
pub mod SlotSteps
pub mod Written
