use Rattle.ct_ore.proofs.Base.{◌∙◌, sym, ap, degree, degree_of, entries, no_length}
use Rattle.ct_ore.proofs.degrees.degree_of_poly.Goals as goal

pub returns-in_default-clause-value : goal.returns-in_default-clause-value
unfolding degree
returns-in_default-clause-value c =
    ap (λ ts. degree_of (entries ts)) (sym (no_length c.terms.result.now c.in_default.ensures.cases)) ∙ ap degree_of c.terms.ensures

pub returns-clause-value : goal.returns-clause-value
unfolding degree
returns-clause-value c =
    c.total.ensures.value ∙ ap (λ ts. degree_of (entries ts)) (sym c.in-Some.ensures.cases.0) ∙ ap degree_of c.terms.ensures
