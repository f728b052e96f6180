use Rattle.ct_expr.proofs.Base.{rules, ℤ, ◌∙◌, ap, ap₂, sym, refl, IsTrue, subst, Ok, number, no_operator, Answers, Checked, actions_of}
use Rattle.ct_expr.specs.declared.expr.Expr.{the_lemmas}
use Rattle.ct_expr.specs.ValueArithmetic.{Value, over_one}
use Rattle.ct_expr.specs.Value.{sum_from, product_from}
use Rattle.ct_expr.proofs.Answering.{passes_on}
use Rattle.ct_expr.proofs.Turns.{next_item, one_item, no_item}
use Rattle.ct_expr.specs.Value as spec
use Rattle.ct_expr.proofs.Values as v
use Rattle.ct_expr.proofs.evaluation.+evaluation.Goals as goal

pub fraction-whole-requires : goal.fraction-whole-requires
fraction-whole-requires t c = v.whole_fits _ (subst (λ e. IsTrue (spec.is_evaluable e)) c.in-Whole.is c.requires)

pub fraction-ratio-requires : goal.fraction-ratio-requires
fraction-ratio-requires t c = v.ratio_fits _ _ (subst (λ e. IsTrue (spec.is_evaluable e)) c.in-Ratio.is c.requires)

pub fraction-name-requires : goal.fraction-name-requires
fraction-name-requires t c = v.below-Name _ (subst (λ e. IsTrue (spec.is_evaluable e)) c.in-Name.is c.requires)

pub fraction-symbol-requires : goal.fraction-symbol-requires
fraction-symbol-requires t c = v.below-Symbol _ (subst (λ e. IsTrue (spec.is_evaluable e)) c.in-Symbol.is c.requires)

pub fraction-sum-requires : goal.fraction-sum-requires
fraction-sum-requires t c =
    (search (rules, the_lemmas), rw c.as_slice.ensures (subst IsTrue (ap spec.is_evaluable c.in-Sum.is ∙ v.evaluable-Sum _) c.requires))

pub fraction-product-requires : goal.fraction-product-requires
fraction-product-requires t c = (
  search (rules, the_lemmas),
  rw c.as_slice-in-Product.ensures (subst IsTrue (ap spec.is_evaluable c.in-Product.is ∙ v.evaluable-Product _) c.requires),
)

pub fraction-fraction-requires : goal.fraction-fraction-requires
fraction-fraction-requires t c =
    (search (rules, the_lemmas), rw c.get.ensures (subst IsTrue (ap spec.is_evaluable c.in-Power.is ∙ v.evaluable-Power _ _) c.requires))

pub fraction-returns-in-Whole : goal.fraction-returns-in-Whole
fraction-returns-in-Whole t c =
    let same = v.same_whole _ (subst IsTrue (ap spec.is_evaluable c.in-Whole.is ∙ v.evaluable-Whole _) c.requires) in
    rw (c.in-Whole.is, v.fraction_of-Whole (actions_of c.args.algebra.now) c.in-Whole.n)
    (subst (λ z. Answers (Ok (over_one (spec.operator_of_polynomial (number z)))) c.whole.result) same c.whole.ensures)

pub fraction-returns-in-Ratio : goal.fraction-returns-in-Ratio
fraction-returns-in-Ratio t c =
    let same = v.same_ratio c.in-Ratio.n c.in-Ratio.d
    (subst IsTrue (ap spec.is_evaluable c.in-Ratio.is ∙ v.evaluable-Ratio c.in-Ratio.n c.in-Ratio.d) c.requires) in
    rw (c.in-Ratio.is, v.fraction_of-Ratio (actions_of c.args.algebra.now) c.in-Ratio.n c.in-Ratio.d)
    (subst (λ (z : ℤ × ℤ). Answers (Ok (spec.ratio z.0 z.1)) c.ratio.result) (ap₂ (λ (n d : ℤ). (n, d)) same.0 same.1) c.ratio.ensures)

pub fraction-returns-in-Name : goal.fraction-returns-in-Name
fraction-returns-in-Name t c = rw (c.in-Name.is, v.fraction_of-Name (actions_of c.args.algebra.now) c.in-Name.i) c.name.ensures

pub fraction-returns-in-Symbol : goal.fraction-returns-in-Symbol
fraction-returns-in-Symbol t c = rw (c.in-Symbol.is, v.fraction_of-Symbol (actions_of c.args.algebra.now) c.in-Symbol.i) c.symbol.ensures

pub fraction-returns-in-Sum : goal.fraction-returns-in-Sum
fraction-returns-in-Sum t c = rw (c.in-Sum.is, v.fraction_of-Sum (actions_of c.args.algebra.now) c.in-Sum.terms, sym c.as_slice.ensures) c.sum.ensures

pub fraction-returns-in-Product : goal.fraction-returns-in-Product
fraction-returns-in-Product t c =
    rw (
      c.in-Product.is,
      v.fraction_of-Product (actions_of c.args.algebra.now) c.in-Product.factors,
      sym c.as_slice-in-Product.ensures,
    ) c.product.ensures

pub sum-fraction-requires : goal.sum-fraction-requires
sum-fraction-requires t c =
    let here = next_item c.args.terms.now c.loop-term.term-index c.term-item.result c.loop-term-test.true c.term-item.is in (
      search (rules, the_lemmas),
      (v.first_evaluable_term _ _ (subst (λ xs. IsTrue (spec.all_evaluable_terms xs)) here c.loop-term.invariant.evaluable)).0,
    )

pub product-fraction-requires : goal.product-fraction-requires
product-fraction-requires t c =
    let here = next_item c.args.factors.now c.loop-factor.factor-index c.factor-item.result c.loop-factor-test.true c.factor-item.is in
    (search (rules, the_lemmas), (v.first_evaluable _ _ (subst (λ xs. IsTrue (spec.all_evaluable xs)) here c.loop-factor.invariant.evaluable)).0)

pub fraction-returns-in_err-base-in-Power : goal.fraction-returns-in_err-base-in-Power
fraction-returns-in_err-base-in-Power t c =
    rw (c.in-Power.is, v.fraction_of-Power (actions_of c.args.algebra.now) c.in-Power.base c.in-Power.n, sym c.get.ensures)
    (passes_on _ _ _ _ c.from_residual.ensures c.in_err-base-in-Power.ensures)

pub fraction-returns-in_ok-base-in-Power : goal.fraction-returns-in_ok-base-in-Power
fraction-returns-in_ok-base-in-Power t c =
    rw (
      c.in-Power.is,
      v.fraction_of-Power (actions_of c.args.algebra.now) c.in-Power.base c.in-Power.n,
      sym c.get.ensures,
      c.in_ok-base-in-Power.ensures,
    ) c.power.ensures

pub sum-returns-in_err-value : goal.sum-returns-in_err-value
sum-returns-in_err-value t c =
    let a = actions_of c.args.algebra.now in
    let so_far = c.loop-term.so_far in
    let item = c.term-item.result in
    let e = one_item (λ xs. spec.sum_from a so_far (spec.signed a xs)) c.args.terms.now c.loop-term.term-index item c.loop-term-test.true
    c.term-item.is c.loop-term.invariant.so_far ∙ v.sum_step a so_far item _ in
    rw e (passes_on _ _ _ _ c.from_residual.ensures c.in_err-value.ensures)

pub sum-returns-in_err-more : goal.sum-returns-in_err-more
sum-returns-in_err-more t c =
    let a = actions_of c.args.algebra.now in
    let so_far = c.loop-term.so_far in
    let item = c.term-item.result in
    let e = one_item (λ xs. spec.sum_from a so_far (spec.signed a xs)) c.args.terms.now c.loop-term.term-index item c.loop-term-test.true
    c.term-item.is c.loop-term.invariant.so_far ∙ v.sum_step a so_far item _ in
    rw (e, c.in_ok-value.ensures) (passes_on _ _ _ _ c.from_residual-in_err-more.ensures c.in_err-more.ensures)

pub sum-loop-term-preserved : goal.sum-loop-term-preserved
sum-loop-term-preserved t c =
    let a = actions_of c.args.algebra.now in
    let so_far = c.loop-term.so_far in
    let item = c.term-item.result in
    let e = one_item (λ xs. spec.sum_from a so_far (spec.signed a xs)) c.args.terms.now c.loop-term.term-index item c.loop-term-test.true
    c.term-item.is c.loop-term.invariant.so_far ∙ v.sum_step a so_far item _ in
    let here = next_item c.args.terms.now c.loop-term.term-index item c.loop-term-test.true c.term-item.is in
    record {
      so_far = rw (e, c.in_ok-value.ensures, c.in_ok-more.ensures) refl;
      evaluable = (v.first_evaluable_term _ _ (subst (λ xs. IsTrue (spec.all_evaluable_terms xs)) here c.loop-term.invariant.evaluable)).1;
    }

pub sum-returns-in-Some : goal.sum-returns-in-Some
unfolding sum_from
sum-returns-in-Some t c =
    let a = actions_of c.args.algebra.now in
    let e = no_item (λ xs. spec.sum_from a c.loop-term.so_far (spec.signed a xs)) c.args.terms.now c.loop-term.term-index c.loop-term-test.false
    c.loop-term.invariant.so_far in
    e ∙ ap (λ o. let r : Checked Value = Ok (spec.or_else (over_one no_operator) o) in r) c.in-Some.is

pub sum-returns-in-None : goal.sum-returns-in-None
unfolding sum_from
sum-returns-in-None t c =
    let a = actions_of c.args.algebra.now in
    let e = no_item (λ xs. spec.sum_from a c.loop-term.so_far (spec.signed a xs)) c.args.terms.now c.loop-term.term-index c.loop-term-test.false
    c.loop-term.invariant.so_far in
    e ∙ ap (λ o. let r : Checked Value = Ok (spec.or_else (over_one no_operator) o) in r) c.in-None.is
    ∙ ap Ok (sym (c.over_one.ensures ∙ ap over_one c.zero.ensures))

pub product-returns-in_err-value : goal.product-returns-in_err-value
product-returns-in_err-value t c =
    let a = actions_of c.args.algebra.now in
    let so_far = c.loop-factor.so_far in
    let item = c.factor-item.result in
    let e = one_item (λ xs. spec.product_from a so_far (spec.fractions a xs)) c.args.factors.now c.loop-factor.factor-index item
    c.loop-factor-test.true c.factor-item.is c.loop-factor.invariant.so_far ∙ v.product_step a so_far item _ in
    rw e (passes_on _ _ _ _ c.from_residual.ensures c.in_err-value.ensures)

pub product-returns-in_err-more : goal.product-returns-in_err-more
product-returns-in_err-more t c =
    let a = actions_of c.args.algebra.now in
    let so_far = c.loop-factor.so_far in
    let item = c.factor-item.result in
    let e = one_item (λ xs. spec.product_from a so_far (spec.fractions a xs)) c.args.factors.now c.loop-factor.factor-index item
    c.loop-factor-test.true c.factor-item.is c.loop-factor.invariant.so_far ∙ v.product_step a so_far item _ in
    rw (e, c.in_ok-value.ensures) (passes_on _ _ _ _ c.from_residual-in_err-more.ensures c.in_err-more.ensures)

pub product-loop-factor-preserved : goal.product-loop-factor-preserved
product-loop-factor-preserved t c =
    let a = actions_of c.args.algebra.now in
    let so_far = c.loop-factor.so_far in
    let item = c.factor-item.result in
    let e = one_item (λ xs. spec.product_from a so_far (spec.fractions a xs)) c.args.factors.now c.loop-factor.factor-index item
    c.loop-factor-test.true c.factor-item.is c.loop-factor.invariant.so_far ∙ v.product_step a so_far item _ in
    let here = next_item c.args.factors.now c.loop-factor.factor-index item c.loop-factor-test.true c.factor-item.is in
    record {
      so_far = rw (e, c.in_ok-value.ensures, c.in_ok-more.ensures) refl;
      evaluable = (v.first_evaluable _ _ (subst (λ xs. IsTrue (spec.all_evaluable xs)) here c.loop-factor.invariant.evaluable)).1;
    }

pub product-returns-in-Some : goal.product-returns-in-Some
unfolding product_from
product-returns-in-Some t c =
    let a = actions_of c.args.algebra.now in
    let e = no_item (λ xs. spec.product_from a c.loop-factor.so_far (spec.fractions a xs)) c.args.factors.now c.loop-factor.factor-index
    c.loop-factor-test.false c.loop-factor.invariant.so_far in
    e ∙ ap (λ o. let r : Checked Value = Ok (spec.or_else spec.one_value o) in r) c.in-Some.is

pub product-returns-in-None : goal.product-returns-in-None
unfolding product_from
product-returns-in-None t c =
    let a = actions_of c.args.algebra.now in
    let e = no_item (λ xs. spec.product_from a c.loop-factor.so_far (spec.fractions a xs)) c.args.factors.now c.loop-factor.factor-index
    c.loop-factor-test.false c.loop-factor.invariant.so_far in
    rw (e ∙ ap (λ o. let r : Checked Value = Ok (spec.or_else spec.one_value o) in r) c.in-None.is) c.one.ensures
