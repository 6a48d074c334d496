pub mod Cuts
pub mod ClassWords
pub mod FactWords
mod WorkedNumbers
