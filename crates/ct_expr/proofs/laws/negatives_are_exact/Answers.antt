use Rattle.ct_expr.proofs.ExactValues as exact
use Rattle.ct_expr.proofs.laws.negatives_are_exact.Goals as goal

pub returns : goal.returns
returns c = exact.negatives_are_exact
