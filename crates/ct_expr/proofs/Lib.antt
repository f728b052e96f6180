pub mod Base
pub mod Turns
pub mod Answering
pub mod ValueArithmetic
pub mod ValueSteps
pub mod OverOne
pub mod ExactValues
mod ExactPowers
pub mod Values
pub mod CoefficientOfOne
pub mod ValueInduction
pub mod PolynomialValues
pub mod LowestValues
