pub mod Supports
pub mod ColumnCount
pub mod SupportLaws
