pub mod Reduction
pub mod ReductionLaws
pub mod Views
