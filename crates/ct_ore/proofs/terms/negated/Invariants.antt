use Rattle.ct_ore.proofs.Base.{◌≡◌, ◌++◌, length}
use Rattle.ct_ore.specs.Terms.{op_entries}
use Rattle.ct_ore.specs.TermSums.{negatives}
use Rattle.ct_ore.proofs.terms.negated.Given as goal

abbrev pub invariant-negating : goal.invariant-negating
invariant-negating l = op_entries l.out.items ++ negatives (op_entries l.rest) ≡ negatives (op_entries l.fn.ts)

abbrev pub decreases-negating : goal.decreases-negating
decreases-negating l = length l.rest
