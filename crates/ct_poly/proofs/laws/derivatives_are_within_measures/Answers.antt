use Rattle.ct_poly.proofs.Within.{derivatives_within}
use Rattle.ct_poly.proofs.laws.derivatives_are_within_measures.Goals as goal

pub returns : goal.returns
returns c = derivatives_within
