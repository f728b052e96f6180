pub mod Build
pub mod BuildMeans
pub mod BuildViews
pub mod FormLaws
pub mod Known
pub mod Modules
pub mod Staircase
pub mod StaircaseMeans
