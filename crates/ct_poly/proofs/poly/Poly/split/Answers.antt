use Rattle.ct_poly.proofs.Base.{◌≡◌, ◌∙◌, sym, ap, ap₂, subst₂, FitsSigned, rules, w128, to_z-of_z, mono, EachTerm}
use Rattle.ct_poly.specs.Content.{TermDivides, divided, is_negative, leads_below_zero, least_exp, common_monomial, primitive_part}
use Rattle.ct_poly.proofs.PrimitiveParts.{part_goes}
use Rattle.ct_poly.proofs.poly.Poly.split.Goals as goal

pub divided-requires : goal.divided-requires
unfolding common_monomial
divided-requires c =
    let fits : FitsSigned w128 c.signed_content.result = search rules in
    let monomial : c.common_monomial_of_terms-mono.result ≡ common_monomial c.args.self.now =
    c.common_monomial_of_terms-mono.ensures ∙ ap (λ es. mono (λ i. least_exp i es)) c.terms.ensures in
    subst₂ (λ m d. EachTerm (TermDivides m d) c.args.self.now.terms) (sym monomial) (sym (to_z-of_z w128 _ fits ∙ c.signed_content.ensures))
    (part_goes c.args.self.now)

pub returns-clause-negative : goal.returns-clause-negative
unfolding is_negative
returns-clause-negative c = c.is_first_negative.ensures ∙ ap leads_below_zero c.terms-2.ensures

pub returns-clause-mono : goal.returns-clause-mono
unfolding common_monomial
returns-clause-mono c = c.common_monomial_of_terms-mono.ensures ∙ ap (λ es. mono (λ i. least_exp i es)) c.terms.ensures

pub returns-clause-primitive : goal.returns-clause-primitive
unfolding primitive_part
returns-clause-primitive c =
    let fits : FitsSigned w128 c.signed_content.result = search rules in
    let monomial : c.common_monomial_of_terms-mono.result ≡ common_monomial c.args.self.now = unfold common_monomial in
    (c.common_monomial_of_terms-mono.ensures ∙ ap (λ es. mono (λ i. least_exp i es)) c.terms.ensures) in
    c.in_ok-primitive.ensures ∙ ap₂ (λ m d. divided m d c.args.self.now) monomial (to_z-of_z w128 _ fits ∙ c.signed_content.ensures)
