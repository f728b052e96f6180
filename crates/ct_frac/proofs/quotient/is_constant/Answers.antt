use Rattle.ct_frac.proofs.Base.{◌∙◌, ap, eqb, degree, degree_of}
use Rattle.ct_frac.proofs.quotient.is_constant.Goals as goal

pub returns : goal.returns
unfolding degree
returns c = c.is_first_constant.ensures ∙ ap (λ es. eqb (degree_of es) 0) c.terms.ensures
