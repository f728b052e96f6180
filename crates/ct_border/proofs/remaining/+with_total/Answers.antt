use Rattle.ct_border.proofs.Base.{◌<◌, ◌++◌, ◌∙◌, ◌-◌, ap, arith, length, refl, subst, All, All-tail, IfSome_then, err_from_is_err_and, ◌·◌, total}
use Rattle.ct_border.proofs.Base.{total-·, total-symbol, symbol, name_with, ◌>>=◌}
use Rattle.ct_border.specs.Staircase.{few, refusal_of}
use Rattle.ct_border.proofs.FewMonomials.{few_ok, left_of, left_alone, few_parts, answers_same}
use Rattle.ct_border.proofs.remaining.+with_total.Goals as goal

pub returns-then-t-eq0 : goal.returns-then-t-eq0
returns-then-t-eq0 t c =
    answers_same c.with_left.result (λ v. v.items) _ _
    (ap (λ l. few (c.args.found.items ++ l)) (left_alone c.args.leading.now c.args.part.now c.args.names.now c.args.t c.if-t-eq0.true))
    c.with_left.ensures

pub with_total-requires : goal.with_total-requires
with_total-requires t c = (
  omega (arith, c.decreases, ap length c.in-Some.ensures.cases.0),
  (
    All-tail (λ i. i < 6) c.in-Some.first.now c.in-Some.others.now
        (subst (All (λ i. i < 6)) c.in-Some.ensures.cases.0 c.requires.names),
    (c.requires.fits, c.requires.few),
  ),
)

pub returns-in_err-without : goal.returns-in_err-without
returns-in_err-without t c =
    let exit = err_from_is_err_and c.from_residual.result c.from_residual.ensures.1 in
    let part = c.args.part.now in
    let x = symbol (name_with c.in-Some.first.now) in
    rw (exit.1, exit.2) (IfSome_then (refusal_of c.in_err-without.field-0.0) c.in_err-without.ensures
    (λ r refused.
    few_parts c.args.leading.now c.args.found.items part x (part · x) c.in-Some.first.now c.in-Some.others.now c.args.names.now c.args.t
    (omega (arith, c.if-t-eq0.false)) c.in-Some.ensures.cases.0 refl refl
    ∙ ap (λ o. o >>= (λ v. few (v ++ left_of c.args.leading.now (part · x) c.args.names.now (c.args.t - 1)))) refused))

pub product-requires : goal.product-requires
product-requires t c =
    omega (arith, c.requires.fits, c.if-t-eq0.false, ap total c.name.ensures, total-symbol (name_with c.in-Some.first.now))

pub with_total-requires-2 : goal.with_total-requires-2
with_total-requires-2 t c =
    let small = few_ok _ _ c.in_ok-without.ensures in (
      omega (arith, c.decreases, c.if-t-eq0.false),
      (
        c.requires.names,
        (
          omega (
            arith,
            c.requires.fits,
            c.if-t-eq0.false,
            ap total c.product.ensures,
            total-· c.args.part.now c.name.result,
            ap total c.name.ensures,
            total-symbol (name_with c.in-Some.first.now),
          ),
          omega (arith, ap length small.is, small.within),
        ),
      ),
    )

pub returns : goal.returns
returns t c =
    answers_same c.with_total-2.result (λ v. v.items) _ _
    (few_parts c.args.leading.now c.args.found.items c.args.part.now c.name.result c.product.result c.in-Some.first.now c.in-Some.others.now
    c.args.names.now c.args.t
    (omega (arith, c.if-t-eq0.false)) c.in-Some.ensures.cases.0 c.name.ensures c.product.ensures
    ∙ ap (λ o. o >>= (λ v. few (v ++ left_of c.args.leading.now c.product.result c.args.names.now (c.args.t - 1)))) c.in_ok-without.ensures)
    c.with_total-2.ensures
