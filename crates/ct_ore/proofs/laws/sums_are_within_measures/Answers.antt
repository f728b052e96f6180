use Rattle.ct_ore.proofs.OperatorSums.{sum_within, difference_within}
use Rattle.ct_ore.proofs.laws.sums_are_within_measures.Goals as goal

pub returns : goal.returns
returns c = λ p q. (sum_within p q, difference_within p q)
