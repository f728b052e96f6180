use Rattle.ct_poly.proofs.Base.{length}
use Rattle.ct_poly.proofs.DividedTerms.{IsDividing}
use Rattle.ct_poly.proofs.content.divided_terms.Given as goal

abbrev pub invariant-dividing : goal.invariant-dividing
invariant-dividing l = IsDividing l.mono l.fn.divisor l.fn.ts l.out.items l.rest

abbrev pub decreases-dividing : goal.decreases-dividing
decreases-dividing l = length l.rest
