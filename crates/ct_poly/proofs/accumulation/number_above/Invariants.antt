use Rattle.ct_poly.proofs.Base.{length}
use Rattle.ct_poly.proofs.MergedMultiples.{IsCounting}
use Rattle.ct_poly.proofs.accumulation.number_above.Given as goal

abbrev pub invariant-skipping : goal.invariant-skipping
invariant-skipping l = IsCounting l.mono l.fn.p l.number l.rest

abbrev pub decreases-skipping : goal.decreases-skipping
decreases-skipping l = length l.rest
