use Rattle.ct_poly.proofs.Base.{ap, ◌∙◌}
use Rattle.ct_poly.specs.Terms.{entries}
use Rattle.ct_poly.proofs.TermLists.{terms_of}
use Rattle.ct_poly.proofs.poly.Poly.terms.Goals as goal

pub returns : goal.returns
returns c = ap entries c.as_slice.ensures.value ∙ terms_of c.self.inside.terms.items c.self.invariant.0 c.self.view_is
