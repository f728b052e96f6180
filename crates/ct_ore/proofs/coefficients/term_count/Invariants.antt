use Rattle.ct_ore.proofs.Base.{◌≡◌, ◌+◌, length}
use Rattle.ct_ore.specs.Terms.{op_entries}
use Rattle.ct_ore.specs.CoefficientTerms.{all_terms}
use Rattle.ct_ore.proofs.coefficients.term_count.Given as goal

abbrev pub invariant-counting : goal.invariant-counting
invariant-counting l = l.count + length (all_terms (op_entries l.rest)) ≡ length (all_terms (op_entries l.fn.ops))

abbrev pub decreases-counting : goal.decreases-counting
decreases-counting l = length l.rest
