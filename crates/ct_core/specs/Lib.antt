pub mod Machine
pub mod Steps
pub mod Runs
pub mod Counting
pub mod CompleteList
pub mod Kept
