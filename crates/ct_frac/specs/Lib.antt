pub mod Written
pub mod Normal
pub mod Code
pub mod Arithmetic
pub mod Symbols
pub mod FractionLaws
