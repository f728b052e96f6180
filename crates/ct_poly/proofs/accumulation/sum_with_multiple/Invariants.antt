use Rattle.ct_poly.proofs.Base.{length}
use Rattle.ct_poly.proofs.MergedMultiples.{IsAccumulating}
use Rattle.ct_poly.proofs.accumulation.sum_with_multiple.Given as goal

abbrev pub invariant-merging : goal.invariant-merging
invariant-merging l = IsAccumulating l.ps l.t l.qs l.out.items l.p l.q

abbrev pub decreases-merging : goal.decreases-merging
decreases-merging l = length l.q
