use Rattle.ct_poly.proofs.Base.{◌≡◌, max, length}
use Rattle.ct_poly.specs.Terms.{greatest_exp}
use Rattle.ct_poly.proofs.shift.greatest_exp_of_terms.Given as goal

-- the greatest so far and that of the rest are the greatest of all
abbrev pub invariant-climbing : goal.invariant-climbing
invariant-climbing l = max l.greatest (greatest_exp l.i l.rest) ≡ greatest_exp l.i l.fn.ts

abbrev pub decreases-climbing : goal.decreases-climbing
decreases-climbing l = length l.rest
