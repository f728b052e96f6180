pub mod Arrays
pub mod ExponentLaws
pub mod ListPairs
pub mod LowerMonomials
pub mod ListingLaws
pub mod ListingSteps
