use Rattle.ct_linsolve.proofs.Base.{◌≡◌, All, length}
use Rattle.ct_linsolve.proofs.tests.are_long.Given as goal

abbrev pub invariant-measuring : goal.invariant-measuring
invariant-measuring l = All (λ row. length row.items ≡ l.width) l.rest → All (λ row. length row.items ≡ l.width) l.fn.rows

abbrev pub decreases-measuring : goal.decreases-measuring
decreases-measuring l = length l.rest
