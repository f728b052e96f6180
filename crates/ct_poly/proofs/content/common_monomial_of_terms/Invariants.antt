use Rattle.ct_poly.proofs.Base.{length}
use Rattle.ct_poly.proofs.CommonMonomials.{IsLowering}
use Rattle.ct_poly.proofs.content.common_monomial_of_terms.Given as goal

abbrev pub invariant-lowering : goal.invariant-lowering
invariant-lowering l = IsLowering l.fn.ts l.common l.rest

abbrev pub decreases-lowering : goal.decreases-lowering
decreases-lowering l = length l.rest
