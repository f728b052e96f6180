use Rattle.ct_poly.proofs.Parts.{quotient_tied}
use Rattle.ct_poly.proofs.part.is_product.Goals as goal

pub returns-in-None : goal.returns-in-None
returns-in-None c = (λ wrong. cc, λ product. absurd (c.in-None.ensures.divides (c.args.n.now, product)))

pub returns-in-Some : goal.returns-in-Some
returns-in-Some c =
    rw c.is_eq.ensures (quotient_tied c.args.whole.now c.args.m.now c.args.n.now c.in-Some.quotient c.cmp.result c.in-Some.ensures.divides
    c.cmp.ensures)
