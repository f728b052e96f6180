use Rattle.ct_frac.proofs.Base.{◌≡◌, length}
use Rattle.ct_frac.specs.Arithmetic.{checked_joined_all}
use Rattle.ct_frac.proofs.sum.all_joined.Given as goal

abbrev pub invariant-joining : goal.invariant-joining
invariant-joining l = checked_joined_all l.fn.mine.items l.fn.its ≡ checked_joined_all l.factors.items l.rest

abbrev pub decreases-joining : goal.decreases-joining
decreases-joining l = length l.rest
