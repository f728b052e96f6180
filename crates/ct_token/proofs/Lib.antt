pub mod Scanning
pub mod Spellings
pub mod TokenPlaces
pub mod Gaps
pub mod Cuts
