pub mod Rational
pub mod Limits
pub mod RationalLaws
pub mod Divisors
pub mod DivisorLaws
