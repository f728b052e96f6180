use Rattle.ct_poly.proofs.Base.{length}
use Rattle.ct_poly.proofs.Termwise.{IsMaking}
use Rattle.ct_poly.proofs.Negatives.{negative}
use Rattle.ct_poly.proofs.sum.negative_of_terms.Given as goal

abbrev pub invariant-negating : goal.invariant-negating
invariant-negating l = IsMaking negative l.fn.ts l.out.items l.rest

abbrev pub decreases-negating : goal.decreases-negating
decreases-negating l = length l.rest
