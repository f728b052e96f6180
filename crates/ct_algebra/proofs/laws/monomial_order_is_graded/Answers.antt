use Rattle.ct_algebra.proofs.MonomialLawProofs.{graded_order}
use Rattle.ct_algebra.proofs.laws.monomial_order_is_graded.Goals as goal

pub returns : goal.returns
returns c = graded_order
