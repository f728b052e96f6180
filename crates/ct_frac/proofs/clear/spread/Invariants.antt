use Rattle.ct_frac.proofs.Base.{◌≡◌, length}
use Rattle.ct_frac.specs.Arithmetic.{checked_spread}
use Rattle.ct_frac.proofs.clear.spread.Given as goal

abbrev pub invariant-spreading : goal.invariant-spreading
invariant-spreading l = checked_spread l.fn.n l.from l.fn.to ≡ checked_spread l.product l.from l.rest

abbrev pub decreases-spreading : goal.decreases-spreading
decreases-spreading l = length l.rest
