use Rattle.ct_algebra.proofs.OperatorLawProofs.{sums_of_terms}
use Rattle.ct_algebra.proofs.laws.operators_are_sums_of_terms.Goals as goal

pub returns : goal.returns
returns c = sums_of_terms
