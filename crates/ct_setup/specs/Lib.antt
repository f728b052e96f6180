pub mod Setup
pub mod SetupMeans
pub mod SetupViews
