pub mod ValueArithmetic
pub mod Value
pub mod ValueLaws
