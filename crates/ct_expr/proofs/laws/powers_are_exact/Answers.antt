use Rattle.ct_expr.proofs.ExactPowers as exact
use Rattle.ct_expr.proofs.laws.powers_are_exact.Goals as goal

pub returns : goal.returns
returns c = exact.powers_are_exact
