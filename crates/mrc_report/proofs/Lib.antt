pub mod NameLemmas
pub mod ScriptLaws
pub mod OutputLaws
pub mod ReplayLaws
pub mod ByteLaws
mod Examples
mod WorkedCalls
mod WorkedReplay
pub mod Asking
pub mod NextLines
pub mod Joining
pub mod JournalLaws
