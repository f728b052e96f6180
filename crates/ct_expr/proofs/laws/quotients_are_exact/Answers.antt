use Rattle.ct_expr.proofs.ExactValues as exact
use Rattle.ct_expr.proofs.laws.quotients_are_exact.Goals as goal

pub returns : goal.returns
returns c = exact.quotients_are_exact
