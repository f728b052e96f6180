use Rattle.ct_poly.proofs.Base.{◌≡◌, ◌∙◌, ap₂, subst, FitsSigned, int_div, rules, Some, MatchOption, w128, to_z-of_z, ◌·◌, Divides}
use Rattle.ct_poly.proofs.CommonMonomials.{without_is}
use Rattle.ct_poly.proofs.content.divided_term.Goals as goal

pub returns : goal.returns
returns c =
    let found : c.over.result ≡ Some c.unwrap.result = search rules in
    let whole : c.unwrap.result · c.args.mono.now ≡ c.args.t.now.mono =
    subst (λ o. MatchOption o (¬ Divides c.args.mono.now c.args.t.now.mono) (λ m. m · c.args.mono.now ≡ c.args.t.now.mono)) found
    c.over.ensures.divides in
    let mine : FitsSigned w128 c.args.t.now.coef = search rules in
    let its : FitsSigned w128 c.args.divisor = search rules in
    let quotient : c.quotient_of_coefs.result ≡ int_div c.args.t.now.coef c.args.divisor = simp to_z-of_z at c.quotient_of_coefs.ensures in
    let fits : FitsSigned w128 c.quotient_of_coefs.result = search rules in
    ap₂ (λ m q. (m, q)) (without_is c.args.mono.now c.args.t.now.mono c.unwrap.result whole) (to_z-of_z w128 _ fits ∙ quotient)
