use Rattle.ct_poly.proofs.Within.{shifts_within}
use Rattle.ct_poly.proofs.laws.shifts_are_within_measures.Goals as goal

pub returns : goal.returns
returns c = shifts_within
