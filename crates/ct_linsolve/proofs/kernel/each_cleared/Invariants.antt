use Rattle.ct_linsolve.proofs.Base.{◌≡◌, length, behind}
use Rattle.ct_checked.specs.Traversal.{checked_each}
use Rattle.ct_frac.specs.Arithmetic.{checked_cleared}
use Rattle.ct_frac.specs.FractionLaws.{EachDivides}
use Rattle.ct_linsolve.proofs.kernel.each_cleared.Given as goal

abbrev pub invariant-clearing : goal.invariant-clearing
invariant-clearing l =
    (checked_each (λ w. checked_cleared w l.den) l.list ≡ behind (λ _ w. checked_cleared w l.den) l.done.items l.rest) × EachDivides l.rest l.den

abbrev pub decreases-clearing : goal.decreases-clearing
decreases-clearing l = length l.rest
