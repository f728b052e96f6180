use Rattle.ct_poly.proofs.Base.{length}
use Rattle.ct_poly.proofs.Termwise.{IsMaking}
use Rattle.ct_poly.proofs.Derivatives.{derivative}
use Rattle.ct_poly.proofs.derivative.derivative_of_terms.Given as goal

abbrev pub invariant-lowering : goal.invariant-lowering
invariant-lowering l = IsMaking (derivative l.i) l.fn.ts l.out.items l.rest

abbrev pub decreases-lowering : goal.decreases-lowering
decreases-lowering l = length l.rest
