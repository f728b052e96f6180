use Rattle.ct_frac.proofs.Base.{◌≡◌, length}
use Rattle.ct_frac.specs.Arithmetic.{all_greatest}
use Rattle.ct_frac.proofs.common.greatest_of_all.Given as goal

abbrev pub invariant-joining : goal.invariant-joining
invariant-joining l = all_greatest l.fn.mine.items l.fn.its ≡ all_greatest l.factors.items l.rest

abbrev pub decreases-joining : goal.decreases-joining
decreases-joining l = length l.rest
