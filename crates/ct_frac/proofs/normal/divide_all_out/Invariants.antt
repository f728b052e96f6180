use Rattle.ct_frac.proofs.Base.{◌≡◌, [], length}
use Rattle.ct_frac.specs.Normal.{lowered}
use Rattle.ct_frac.specs.Written.{AreFactors}
use Rattle.ct_frac.proofs.normal.divide_all_out.Given as goal

abbrev pub invariant-lowering : goal.invariant-lowering
invariant-lowering l = (lowered l.fn.n [] l.fn.factors ≡ lowered l.numerator l.kept.items l.rest) × AreFactors l.rest

abbrev pub decreases-lowering : goal.decreases-lowering
decreases-lowering l = length l.rest
