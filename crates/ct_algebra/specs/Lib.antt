-- In reading order. Above the line `laws` of a file stand its definitions; what follows is proved, and asks for no belief.

-- monomials and polynomials
pub mod Monomial
pub mod Names
pub mod Polynomial
pub mod Substitution
pub mod Derivative
-- what the symbols of an algebra do, and its operators
pub mod Actions
pub mod Ore
pub mod Operators
pub mod OnPolynomials
pub mod FreeOf
pub mod Leading
pub mod Membership
pub mod Coefficients
-- the field of fractions
pub mod Fractions
pub mod Field
-- what a certificate shows
pub mod Certificate
pub mod Restriction
pub mod FieldOperators
pub mod Telescoping
-- what the laws say that the functions of src/laws.rt prove
pub mod MonomialLaws
pub mod PolynomialLaws
pub mod SymbolLaws
pub mod OperatorLaws
pub mod TermLaws
pub mod CoefficientLaws
pub mod FieldLaws
pub mod Determined
pub mod CertificateLaws
-- how these values are made: the laws above say all that is meant of them
pub mod Group
pub mod Ring
pub mod Domain
pub mod WholeNumbers
pub mod Terms
pub mod Sums
pub mod Products
pub mod OreAlgebra
pub mod FractionRing
pub mod Division
pub mod FractionOre
pub mod RangeSum
-- tools of the proofs
pub mod RingTactic
pub mod Laws
