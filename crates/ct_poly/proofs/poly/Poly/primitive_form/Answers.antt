use Rattle.ct_poly.proofs.Base.{◌∙◌, sym, ap₂, subst₂, FitsSigned, rules, w128, to_z-of_z, IfOk-weaker, EachTerm}
use Rattle.ct_poly.specs.Content.{TermDivides, divided, primitive_form}
use Rattle.ct_poly.proofs.PrimitiveParts.{form_goes}
use Rattle.ct_poly.proofs.poly.Poly.primitive_form.Goals as goal

pub divided-requires : goal.divided-requires
divided-requires c =
    let fits : FitsSigned w128 c.signed_content.result = search rules in
    subst₂ (λ m d. EachTerm (TermDivides m d) c.args.self.now.terms) (sym c.one.ensures) (sym (to_z-of_z w128 _ fits ∙ c.signed_content.ensures))
    (form_goes c.args.self.now)

pub returns : goal.returns
unfolding primitive_form
returns c =
    let fits : FitsSigned w128 c.signed_content.result = search rules in
    record {
      value = IfOk-weaker c.divided.result _ _
          (λ p value. value ∙ ap₂ (λ m d. divided m d c.args.self.now) c.one.ensures (to_z-of_z w128 _ fits ∙ c.signed_content.ensures))
          c.divided.ensures;
    }
