-- In reading order.
pub mod Rows
pub mod Elimination
-- rows that are found in cells
pub mod DividedRow
-- what the result is
pub mod EchelonForm
pub mod Refuting
pub mod Products
pub mod Slimming
pub mod NullVector
-- what the code's types stand for
pub mod Views
pub mod EchelonViews
