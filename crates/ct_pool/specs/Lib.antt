pub mod FirstDecided
pub mod Passes
pub mod Notes
pub mod ClaimRule
pub mod Found
