use Rattle.ct_frac.proofs.Base.{◌≡◌, ◌++◌, length}
use Rattle.ct_frac.proofs.same.copy_of_factors.Given as goal

abbrev pub invariant-copying : goal.invariant-copying
invariant-copying l = l.out.items ++ l.rest ≡ l.fn.factors

abbrev pub decreases-copying : goal.decreases-copying
decreases-copying l = length l.rest
