-- In reading order.

-- vectors, and the module of a staircase
pub mod Vector
pub mod RowAction
pub mod VectorModule
pub mod StaircaseModule
pub mod Staircase
pub mod Tested
-- elimination and refutation
pub mod Elimination
pub mod Echelon
pub mod EntriesFree
pub mod Refutation
-- what is refuted
pub mod Rising
pub mod NoTelescoper
pub mod Columns
pub mod Assembly
pub mod ColumnVectors
pub mod System
pub mod Task
-- what the laws say that the functions of src/laws.rt prove
pub mod EliminationLaws
pub mod StaircaseLaws
pub mod SupportLaws
-- an example
pub mod Example
-- tools of the proofs
pub mod Laws
