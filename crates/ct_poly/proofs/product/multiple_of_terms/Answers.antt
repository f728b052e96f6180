use Rattle.ct_poly.proofs.Termwise.{making_ended}
use Rattle.ct_poly.proofs.Products.{multiple_is}
use Rattle.ct_poly.proofs.product.multiple_of_terms.Goals as goal

pub returns : goal.returns
returns c = multiple_is c.args.t.now c.args.qs.now c.multiplying.out.items c.requires
    (making_ended c.in_default.ensures.cases c.multiplying.invariant)
