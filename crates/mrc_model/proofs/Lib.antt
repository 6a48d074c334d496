pub mod Maps
pub mod Tries
pub mod Spaces
pub mod KeptSpaces
pub mod KeptCalls
pub mod KeptTasks
pub mod Dying
pub mod FirstHeld
pub mod Few
pub mod Members
pub mod Deriving
pub mod HoldingLists
pub mod Added
mod Samples
mod SampleRuns
mod SampleTrust
mod SampleTypes
