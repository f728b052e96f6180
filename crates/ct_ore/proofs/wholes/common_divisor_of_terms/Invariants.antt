use Rattle.ct_ore.proofs.Base.{length}
use Rattle.ct_ore.proofs.WholeDivisors.{Gathers}
use Rattle.ct_ore.proofs.wholes.common_divisor_of_terms.Given as goal

abbrev pub invariant-gathering : goal.invariant-gathering
invariant-gathering l = Gathers l.fn.ops l.fn.n l.divisor l.rest

abbrev pub decreases-gathering : goal.decreases-gathering
decreases-gathering l = length l.rest
