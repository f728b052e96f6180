use Rattle.ct_border.proofs.Base.{◌≡◌, length}
use Rattle.ct_border.specs.Staircase.{is_left}
use Rattle.ct_border.proofs.remaining.is_left.Given as goal

abbrev pub invariant-dividing : goal.invariant-dividing
invariant-dividing l = is_left l.leading l.m ≡ is_left l.rest l.m

abbrev pub decreases-dividing : goal.decreases-dividing
decreases-dividing l = length l.rest
