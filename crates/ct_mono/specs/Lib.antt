pub mod Equal
pub mod Division
pub mod Listing
pub mod Rank
pub mod Exponents
