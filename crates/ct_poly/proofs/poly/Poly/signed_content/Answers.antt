use Rattle.ct_poly.proofs.Base.{◌∙◌, ap, ap₂, FitsSigned, rules, w128, to_z-of_z}
use Rattle.ct_poly.specs.Content.{is_negative, leads_below_zero, signed, signed_content}
use Rattle.ct_poly.proofs.poly.Poly.signed_content.Goals as goal

pub returns : goal.returns
unfolding signed_content is_negative
returns c =
    let fits : FitsSigned w128 c.signed_number.result = search rules in
    to_z-of_z w128 _ fits ∙ c.signed_number.ensures
    ∙ ap₂ signed (c.is_first_negative.ensures ∙ ap leads_below_zero c.terms.ensures) c.content.ensures.value
