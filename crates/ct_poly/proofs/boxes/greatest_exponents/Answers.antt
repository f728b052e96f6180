use Rattle.ct_poly.proofs.BoundingBoxes.{bounding_more, bounding_all, divides_self}
use Rattle.ct_poly.proofs.boxes.greatest_exponents.Goals as goal

pub raising-preserved : goal.raising-preserved
raising-preserved c = bounding_more c.in-Some.ensures.cases.0 c.in_ok-greatest.ensures c.raising.invariant

pub returns : goal.returns
returns c = bounding_all c.in_default.ensures.cases c.raising.invariant c.raising.greatest (divides_self c.raising.greatest)
