use Rattle.ct_poly.proofs.Base.{sym, ◌∙◌, ap}
use Rattle.ct_poly.specs.Terms.{size_of}
use Rattle.ct_poly.proofs.TermLists.{norm_of-terms}
use Rattle.ct_poly.proofs.poly.Poly.norm.Goals as goal

pub returns-clause-value : goal.returns-clause-value
returns-clause-value c =
    c.norm_of_terms.ensures ∙ ap size_of c.as_slice.ensures.value
    ∙ sym (norm_of-terms c.self.inside.terms.items c.self.invariant.0 c.self.view_is)
