use Rattle.ct_ore.proofs.Base.{◌≡◌, ◌++◌, length}
use Rattle.ct_ore.specs.Terms.{op_entries}
use Rattle.ct_ore.specs.CoefficientTerms.{all_terms}
use Rattle.ct_ore.proofs.coefficients.parts_of.Given as goal

abbrev pub invariant-listing : goal.invariant-listing
invariant-listing l = l.out.items ++ all_terms (op_entries l.rest) ≡ all_terms (op_entries l.fn.ops)

abbrev pub decreases-listing : goal.decreases-listing
decreases-listing l = length l.rest
