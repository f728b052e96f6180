pub mod Base
-- lists, monomials in order, names, coefficients
pub mod ListParts
pub mod OrderedLists
pub mod RisingLists
pub mod MonomialInduction
pub mod NamesIn
pub mod NameSums
pub mod CoefficientsKnown
-- elimination
pub mod Multipliers
pub mod RowsKept
pub mod PivotLists
pub mod EchelonKept
pub mod Eliminated
pub mod TopCoefficients
pub mod FreeFactors
pub mod EntriesFree
pub mod NullVectors
-- the module of a staircase
pub mod PairsCommute
pub mod StaircaseUnits
pub mod RestIsZero
pub mod StaircaseGrows
-- tested generators
pub mod StillNames
pub mod SymbolsBackward
pub mod TestedModule
pub mod TestsSuffice
pub mod Reducers
pub mod MovedOver
pub mod NormalFormsUnique
pub mod MovedGenerators
pub mod NormalFormsExist
-- what is refuted, and what is assembled
pub mod ColumnSums
pub mod CertificateVectors
pub mod RefutedHasNone
pub mod ColumnTerms
pub mod ShapeWeights
pub mod ResidualDies
pub mod AssembledCertifies
-- columns and systems
pub mod ColumnsListed
pub mod SystemReads
pub mod SystemMade
pub mod SystemComplete
pub mod SystemUnique
-- the laws of src/laws.rt
pub mod EliminationLawProofs
pub mod StaircaseLawProofs
pub mod SupportLawProofs
pub mod ExampleProofs
