use Rattle.ct_module.proofs.Base.{◌≡◌, ◌≤◌, ◌∙◌, refl, ap, sym, subst, arith, IfOk-weaker}
use Rattle.ct_algebra.specs.Monomial.{total}
use Rattle.ct_algebra.specs.Polynomial.{polys}
use Rattle.ct_algebra.specs.Substitution.{one_is}
use Rattle.ct_checked.specs.Limits.{largest_degree}
use Rattle.ct_frac.proofs.QuotientLaws.{parts_den}
use Rattle.ct_frac.specs.Normal.{quotient_of, factors_of}
use Rattle.ct_frac.specs.Written.{value_over}
use Rattle.ct_poly.specs.Content.{content, common_monomial}
use Rattle.ct_module.specs.Denominators.{IsSignedProduct}
use Rattle.ct_module.proofs.OneOver.{one_over, some_terms, common_low}
use Rattle.ct_module.proofs.calls.one_over.Goals as goal

pub bounds-terms-0 : goal.bounds-terms-0
bounds-terms-0 c = some_terms c.args.p.now c.terms.result.now c.requires c.terms.ensures

pub returns-clause-written : goal.returns-clause-written
returns-clause-written c =
    IfOk-weaker c.copy.result _ _
    (λ d same. same ∙ c.den.ensures ∙ ap (λ w. w.den) c.in_ok-quotient.ensures.written
    ∙ ap (λ n. (quotient_of n c.args.p.now).den) (c.in_ok-one.ensures.value ∙ sym one_is)) c.copy.ensures.value

pub returns-clause-product : goal.returns-clause-product
returns-clause-product c =
    let p = c.args.p.now in
    let one : c.in_ok-one.one ≡ polys.one = c.in_ok-one.ensures.value ∙ sym one_is in
    let low : total (common_monomial p) ≤ largest_degree =
    common_low p c.terms.result.now c.index-terms-0.result largest_degree c.terms.ensures (some_terms p c.terms.result.now c.requires c.terms.ensures)
    c.index-terms-0.is (let value = c.total.ensures.value in let within = c.total.ensures.within in omega arith) in
    let product = one_over p c.in_ok-quotient.quotient c.requires
    (parts_den p c.requires (content p) (factors_of p) refl refl low c.within_limits.ensures.small)
    (c.in_ok-quotient.ensures.written ∙ ap (λ n. quotient_of n p) one)
    (c.in_ok-quotient.ensures.value ∙ ap (λ n. value_over n p) one) in
    IfOk-weaker c.copy.result _ _ (λ d same. subst (λ d. IsSignedProduct d p) (sym (same ∙ c.den.ensures)) product) c.copy.ensures.value
