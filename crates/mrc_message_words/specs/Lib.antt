pub mod Values
pub mod Spoken
pub mod Fitting
pub mod Laws
pub mod Examples
