pub mod Tokens
pub mod Characters
pub mod Pieces
pub mod Lexing
pub mod Examples
pub mod Parts
