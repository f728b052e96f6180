use Rattle.ct_frac.proofs.Base.{◌≡◌, length}
use Rattle.ct_frac.specs.Arithmetic.{checked_common}
use Rattle.ct_frac.specs.Written.{one_den}
use Rattle.ct_frac.proofs.common.common_denominator.Given as goal

abbrev pub invariant-widening : goal.invariant-widening
invariant-widening l = checked_common one_den l.fn.list ≡ checked_common l.den l.rest

abbrev pub decreases-widening : goal.decreases-widening
decreases-widening l = length l.rest
