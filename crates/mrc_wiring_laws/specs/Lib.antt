pub mod ClashLaw
pub mod GivenLines
pub mod GivenExamples
pub mod TrustedLines
pub mod TrustedExamples
