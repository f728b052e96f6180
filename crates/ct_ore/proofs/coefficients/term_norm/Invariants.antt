use Rattle.ct_ore.proofs.Base.{◌≡◌, ◌+◌, length}
use Rattle.ct_ore.specs.Terms.{op_entries}
use Rattle.ct_ore.specs.TermSums.{entries_norm}
use Rattle.ct_ore.proofs.coefficients.term_norm.Given as goal

abbrev pub invariant-adding : goal.invariant-adding
invariant-adding l = l.sum + entries_norm (op_entries l.rest) ≡ entries_norm (op_entries l.fn.ops)

abbrev pub decreases-adding : goal.decreases-adding
decreases-adding l = length l.rest
