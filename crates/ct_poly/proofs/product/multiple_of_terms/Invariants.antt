use Rattle.ct_poly.proofs.Base.{length}
use Rattle.ct_poly.proofs.Termwise.{IsMaking}
use Rattle.ct_poly.proofs.Products.{product}
use Rattle.ct_poly.proofs.product.multiple_of_terms.Given as goal

abbrev pub invariant-multiplying : goal.invariant-multiplying
invariant-multiplying l = IsMaking (product l.t) l.fn.qs l.out.items l.rest

abbrev pub decreases-multiplying : goal.decreases-multiplying
decreases-multiplying l = length l.rest
