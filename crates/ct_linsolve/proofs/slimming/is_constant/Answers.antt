use Rattle.ct_linsolve.proofs.Base.{◌∙◌, ap, eqb}
use Rattle.ct_algebra.specs.Polynomial.{degree, degree_of}
use Rattle.ct_linsolve.proofs.slimming.is_constant.Goals as goal

pub returns : goal.returns
unfolding degree
returns c = c.is_first_constant.ensures ∙ ap (λ es. eqb (degree_of es) 0) c.terms.ensures
