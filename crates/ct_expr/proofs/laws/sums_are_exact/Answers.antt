use Rattle.ct_expr.proofs.ExactValues as exact
use Rattle.ct_expr.proofs.laws.sums_are_exact.Goals as goal

pub returns : goal.returns
returns c = exact.sums_are_exact
