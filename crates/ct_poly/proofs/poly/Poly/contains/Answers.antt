use Rattle.ct_poly.proofs.Base.{◌≡◌, ap, ◌∙◌, subst₂, sym, ◌↔◌, false, exp, EachTerm}
use Rattle.ct_poly.specs.Terms.{entries}
use Rattle.ct_poly.proofs.TermLists.{terms_of, place-name_with}
use Rattle.ct_poly.proofs.poly.Poly.contains.Goals as goal

pub returns : goal.returns
returns c =
    subst₂ (λ k es. (c.some_term_has.result ≡ false) ↔ EachTerm (λ m d. exp m k ≡ 0) es) (sym (place-name_with c.args.i c.requires))
    (ap entries c.as_slice.ensures.value ∙ terms_of c.self.inside.terms.items c.self.invariant.0 c.self.view_is)
    c.some_term_has.ensures
