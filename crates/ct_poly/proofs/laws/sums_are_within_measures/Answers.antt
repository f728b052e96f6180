use Rattle.ct_poly.proofs.Within.{sums_within, differences_within}
use Rattle.ct_poly.proofs.laws.sums_are_within_measures.Goals as goal

pub returns : goal.returns
returns c = record { sums = sums_within; differences = differences_within }
