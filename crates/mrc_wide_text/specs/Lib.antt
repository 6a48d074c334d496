pub mod WideWords
pub mod WideItems
pub mod WideLines
pub mod WideReading
pub mod WideTexts
pub mod WideLaws
pub mod Worked
pub mod Wirings
