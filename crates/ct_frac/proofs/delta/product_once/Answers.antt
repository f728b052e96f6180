use Rattle.ct_frac.proofs.Base.{◌≡◌, ◌++◌, ◌∙◌, ap, sym, subst, rules, polys, one_is, Answers, ◌>>=◌}
use Rattle.ct_frac.specs.Symbols.{checked_once}
use Rattle.ct_frac.proofs.DerivedFractions.{once_both}
use Rattle.ct_frac.proofs.delta.product_once.Goals as goal

pub returns-in_err-product : goal.returns-in_err-product
returns-in_err-product c =
    let one : c.in_ok-one.one ≡ polys.one = c.in_ok-one.ensures.value ∙ sym one_is in
    subst (λ d. Answers d c.from_residual-in_err-product.result)
    (sym (once_both c.in_ok-one.one c.args.first.now c.args.second.now) ∙ ap (λ p. checked_once p (c.args.first.now ++ c.args.second.now)) one)
    (search rules)

pub returns : goal.returns
returns c =
    let one : c.in_ok-one.one ≡ polys.one = c.in_ok-one.ensures.value ∙ sym one_is in
    subst (λ d. Answers d c.times_once-2.result)
    (ap (λ d. d >>= (λ q. checked_once q c.args.second.now)) (sym c.in_ok-product.ensures)
    ∙ sym (once_both c.in_ok-one.one c.args.first.now c.args.second.now) ∙ ap (λ p. checked_once p (c.args.first.now ++ c.args.second.now)) one)
    c.times_once-2.ensures
