use Rattle.ct_expr.proofs.LowestValues as values
use Rattle.ct_expr.proofs.laws.values_are_lowest.Goals as goal

pub returns : goal.returns
returns c = values.values_are_lowest
