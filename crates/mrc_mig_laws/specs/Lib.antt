pub mod Routines
pub mod RowGrammar
pub mod FileGrammar
pub mod Texts
pub mod Laws
pub mod Worked
pub mod WorkedFiles
