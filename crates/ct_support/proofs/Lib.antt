pub mod Base
pub mod EvenLists
pub mod SupportsListed
pub mod MonomialsListed
pub mod Binomials
