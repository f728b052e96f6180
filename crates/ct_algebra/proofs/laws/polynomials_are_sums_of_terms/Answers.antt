use Rattle.ct_algebra.proofs.PolynomialLawProofs.{sums_of_terms}
use Rattle.ct_algebra.proofs.laws.polynomials_are_sums_of_terms.Goals as goal

pub returns : goal.returns
returns c = sums_of_terms
