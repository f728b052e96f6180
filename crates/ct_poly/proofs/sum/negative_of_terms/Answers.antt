use Rattle.ct_poly.proofs.Termwise.{making_ended}
use Rattle.ct_poly.proofs.Negatives.{negative_is}
use Rattle.ct_poly.proofs.sum.negative_of_terms.Goals as goal

pub returns : goal.returns
returns c = negative_is c.args.ts.now c.negating.out.items c.requires.falling (making_ended c.in_default.ensures.cases c.negating.invariant)
