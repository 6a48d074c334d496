pub mod CommandLaws
pub mod AskedLaws
mod Escapes
mod ShownExamples
mod ShownLaws
mod MeaningExamples
