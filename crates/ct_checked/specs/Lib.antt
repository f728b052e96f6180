pub mod Limits
pub mod Checked
pub mod Loop
pub mod Traversal
