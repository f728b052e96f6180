use Rattle.ct_poly.proofs.Base.{◌≡◌, sym, ◌∙◌, ap, rules, pos, [], ◌∷◌, zero_term, term}
use Rattle.ct_poly.proofs.Values.{list_of_term_is}
use Rattle.ct_poly.proofs.poly.Poly.of_term.Goals as goal

pub returns-then-coef-eq0 : goal.returns-then-coef-eq0
returns-then-coef-eq0 c =
    let none : c.args.coef ≡ pos 0 = search rules in
    c.zero.ensures ∙ sym (ap (term c.args.mono.now) none ∙ zero_term c.args.mono.now)

pub returns : goal.returns
returns c =
    let some : c.args.coef ≡ pos 0 → ⊥ = search rules in
    let made : c.in_ok-terms.terms.items ≡ record { mono = c.args.mono.now; coef = c.args.coef } ∷ [] = search rules in
    (list_of_term_is c.args.mono.now c.args.coef c.in_ok-terms.terms.items some made).value
