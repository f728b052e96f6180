pub mod Traversals
