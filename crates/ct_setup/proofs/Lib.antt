pub mod Base
mod NoLets
mod NumberedFromZero
mod KnownExpressions
mod OperatorsActing
mod GivenPolynomials
mod ValuesKnown
mod DensFit
