use Rattle.ct_frac.proofs.Base.{◌≡◌, length}
use Rattle.ct_frac.specs.Symbols.{checked_once}
use Rattle.ct_frac.proofs.delta.times_once.Given as goal

abbrev pub invariant-multiplying : goal.invariant-multiplying
invariant-multiplying l = checked_once l.fn.p l.fn.factors ≡ checked_once l.product l.rest

abbrev pub decreases-multiplying : goal.decreases-multiplying
decreases-multiplying l = length l.rest
