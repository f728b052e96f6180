use Rattle.ct_ore.proofs.Base.{◌≡◌, ◌++◌, length, entries}
use Rattle.ct_ore.specs.CoefficientTerms.{row_of}
use Rattle.ct_ore.proofs.coefficients.append_row.Given as goal

abbrev pub invariant-appending : goal.invariant-appending
invariant-appending l = l.out.items ++ row_of l.m (entries l.rest) ≡ l.initial.out.items ++ row_of l.m (entries l.fn.ts)

abbrev pub decreases-appending : goal.decreases-appending
decreases-appending l = length l.rest
