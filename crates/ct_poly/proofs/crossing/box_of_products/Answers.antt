use Rattle.ct_poly.proofs.Base.{IfSome_then}
use Rattle.ct_poly.proofs.crossing.box_of_products.Goals as goal

pub returns-clause-first : goal.returns-clause-first
returns-clause-first c =
    IfSome_then c.common_multiple.result c.common_multiple.ensures (λ w divides. c.in_ok-first.ensures w divides.0)

pub returns-clause-second : goal.returns-clause-second
returns-clause-second c =
    IfSome_then c.common_multiple.result c.common_multiple.ensures (λ w divides. c.in_ok-second.ensures w divides.1)
