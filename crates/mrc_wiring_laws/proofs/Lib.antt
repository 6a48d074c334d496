pub mod ClashLaws
pub mod GivenLines
pub mod GivenOnes
pub mod GivenRows
pub mod GivenSteps
pub mod SortLaws
pub mod TrustedLines
pub mod TrustedOnes
