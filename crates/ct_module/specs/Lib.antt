-- In reading order.

-- what modules and settings are, and what fits an algebra
pub mod Modules
pub mod Fitting
-- the steps
pub mod Action
pub mod Columns
pub mod Combination
pub mod Systems
-- what they mean
pub mod Values
pub mod Denominators
pub mod Tested
pub mod ColumnLaws
-- what the code's lists stand for
pub mod Views
