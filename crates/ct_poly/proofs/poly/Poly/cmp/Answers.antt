use Rattle.ct_poly.proofs.Base.{◌∙◌, ap₂, slice_cmp}
use Rattle.ct_poly.specs.Order.{poly_cmp, term_cmp}
use Rattle.ct_poly.proofs.poly.Poly.cmp.Goals as goal

pub returns : goal.returns
unfolding poly_cmp
returns c = c.cmp_of_terms.ensures ∙ ap₂ (slice_cmp term_cmp) c.terms.ensures c.terms-2.ensures
