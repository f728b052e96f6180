pub mod Lexical
pub mod Pieces
pub mod Lexing
pub mod Cutting
