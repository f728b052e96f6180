use Rattle.ct_frac.proofs.Base.{true, false, Ok, sym, ◌∙◌, ap, subst, polys, Answers}
use Rattle.std.proofs.Common.{refl}
use Rattle.ct_frac.proofs.SumLaws.{product-told}
use Rattle.ct_frac.proofs.sum.product.Goals as goal

pub returns-then-has_zero_numerator : goal.returns-then-has_zero_numerator
returns-then-has_zero_numerator c =
    sym (product-told c.args.x.now c.args.y.now true (polys.is_zero c.args.y.now.numerator)
    (c.has_zero_numerator.ensures ∙ c.if-has_zero_numerator.true) refl)
    ∙ ap Ok (sym c.in_ok-zero.ensures.written)

pub returns-then-has_zero_numerator-2 : goal.returns-then-has_zero_numerator-2
returns-then-has_zero_numerator-2 c =
    sym (product-told c.args.x.now c.args.y.now false true (c.has_zero_numerator.ensures ∙ c.if-has_zero_numerator.false)
    (c.has_zero_numerator-2.ensures ∙ c.if-has_zero_numerator-2.true))
    ∙ ap Ok (sym c.in_ok-zero-2.ensures.written)

pub returns : goal.returns
returns c =
    subst (λ d. Answers d c.full_product.result)
    (product-told c.args.x.now c.args.y.now false false (c.has_zero_numerator.ensures ∙ c.if-has_zero_numerator.false)
    (c.has_zero_numerator-2.ensures ∙ c.if-has_zero_numerator-2.false))
    c.full_product.ensures
