use Rattle.ct_expr.proofs.Base.{◌/◌, ◌∙◌, ap, ap₂, sym, subst, arith, over_whole}
use Rattle.ct_expr.specs.ValueArithmetic.{Value, lowest}
use Rattle.ct_expr.proofs.ValueArithmetic.{IsFactor, Divides, divisor_fits, quotient_fits, lowest_one}
use Rattle.ct_expr.proofs.value.Value.lowest.Goals as goal

pub returns-then-whole-eq1 : goal.returns-then-whole-eq1
returns-then-whole-eq1 c =
    record { value = c.over_one.ensures ∙ sym (lowest_one c.args.operator) ∙ ap (lowest c.args.operator) (sym c.if-whole-eq1.true) }

pub over_whole-requires-clause-within : goal.over_whole-requires-clause-within
over_whole-requires-clause-within c =
    let fits = subst (Divides c.args.operator c.args.whole) (sym c.common_divisor-divisor.ensures)
    (divisor_fits c.args.operator c.args.whole c.requires.some) in
    omega (arith, fits.within, c.requires.within)

pub over_whole-requires-clause-divides : goal.over_whole-requires-clause-divides
over_whole-requires-clause-divides c =
    (subst (Divides c.args.operator c.args.whole) (sym c.common_divisor-divisor.ensures)
    (divisor_fits c.args.operator c.args.whole c.requires.some)).operator

pub nonzero_div-result : goal.nonzero_div-result
nonzero_div-result c =
    (subst (Divides c.args.operator c.args.whole) (sym c.common_divisor-divisor.ensures)
    (divisor_fits c.args.operator c.args.whole c.requires.some)).some

pub invariant_of-result : goal.invariant_of-result
invariant_of-result c =
    let fits = subst (Divides c.args.operator c.args.whole) (sym c.common_divisor-divisor.ensures)
    (divisor_fits c.args.operator c.args.whole c.requires.some) in
    let is : IsFactor (c.args.whole / c.common_divisor-divisor.result) =
    quotient_fits c.args.whole c.common_divisor-divisor.result
    (record { some = c.requires.some; within = c.requires.within }) fits.some fits.number in
    record { positive = is.some; within = is.within }

pub returns : goal.returns
unfolding lowest
returns c = record {
  value =
      ap₂ (λ x d. let v : Value = record { operator = x; whole = c.args.whole / d } in v)
      (c.in_ok-operator.ensures.value ∙ ap (λ d. over_whole d c.args.operator) c.common_divisor-divisor.ensures) c.common_divisor-divisor.ensures;
}
