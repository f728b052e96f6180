use Rattle.ct_frac.proofs.Base.{◌≡◌}
use Rattle.ct_frac.specs.Arithmetic.{checked_often}
use Rattle.ct_frac.proofs.clear.times_often.Given as goal

abbrev pub invariant-multiplying : goal.invariant-multiplying
invariant-multiplying l = checked_often l.by l.fn.times l.fn.n ≡ checked_often l.by l.left l.product

abbrev pub decreases-multiplying : goal.decreases-multiplying
decreases-multiplying l = l.left
