use Rattle.ct_ore.proofs.Base.{◌≡◌, None, ◌∙◌, sym, ap, subst, arith}
use Rattle.ct_ore.specs.Naming.{actions_of}
use Rattle.ct_ore.specs.Terms.{op_entries}
use Rattle.ct_ore.specs.CoefficientTerms.{sum_of_parts}
use Rattle.ct_ore.specs.Measures.{product_overflow}
use Rattle.ct_ore.specs.MeasureLaws.{FitsProduct}
use Rattle.ct_ore.specs.Bounds.{CanMultiply}
use Rattle.ct_ore.specs.Lists.{Fits, IsPartsOf}
use Rattle.ct_ore.proofs.OperatorMeasures.{listed_count}
use Rattle.ct_ore.proofs.ProductRules.{zero_left, zero_right, none_fits, can_multiply, product_fits, answers_value, answers_kind, told_some}
use Rattle.ct_ore.proofs.op.Op.mul.Goals as goal

pub returns-then-is_zero : goal.returns-then-is_zero
returns-then-is_zero c = zero_left (actions_of c.args.algebra.now) c.args.self.now c.args.other.now c.zero.result
    (c.is_zero.ensures.0 c.if-is_zero.true) c.zero.ensures

pub returns-then-is_zero-2 : goal.returns-then-is_zero-2
returns-then-is_zero-2 c = zero_right (actions_of c.args.algebra.now) c.args.self.now c.args.other.now c.zero-then-is_zero-2.result
    (c.is_zero-2.ensures.0 c.if-is_zero-2.true) c.zero-then-is_zero-2.ensures

pub product_overflow-requires : goal.product_overflow-requires
product_overflow-requires c =
    let its = subst Fits (sym c.as_slice.ensures.value) c.in_ok-its.ensures.fits in
    record {
      few = omega (arith, listed_count c.args.self.now (op_entries c.terms.result.now) c.terms.ensures, c.within_limits.ensures.few);
      few_too = its.few;
      small = its.small;
    }

pub returns-in-Some : goal.returns-in-Some
returns-in-Some c =
    answers_kind (actions_of c.args.algebra.now) c.args.self.now c.args.other.now c.in-Some.kind
    (c.in-Some.ensures c.args.self.now c.args.other.now c.terms.ensures c.terms-2.ensures
    (subst (IsPartsOf c.args.other.now) (sym c.as_slice.ensures.value) c.in_ok-its.ensures))

pub product_by_halves-requires : goal.product_by_halves-requires
product_by_halves-requires c =
    let none : None ≡ product_overflow (actions_of c.args.algebra.now) c.args.self.now c.args.other.now =
    c.in-None.ensures c.args.self.now c.args.other.now c.terms.ensures c.terms-2.ensures
    (subst (IsPartsOf c.args.other.now) (sym c.as_slice.ensures.value) c.in_ok-its.ensures) in
    let fits : FitsProduct (actions_of c.args.algebra.now) c.args.self.now c.args.other.now =
    none_fits (actions_of c.args.algebra.now) c.args.self.now c.args.other.now
    (told_some c.args.self.now c.is_zero.result c.is_zero.ensures.1 c.if-is_zero.false)
    (told_some c.args.other.now c.is_zero-2.result c.is_zero-2.ensures.1 c.if-is_zero-2.false) none in
    subst (λ es. CanMultiply (actions_of c.args.algebra.now) es c.as_slice-in-None.result.now) (sym c.terms-in-None.ensures)
    (can_multiply (actions_of c.args.algebra.now) c.args.self.now c.args.other.now c.as_slice-in-None.result.now
    (c.as_slice-in-None.ensures.value ∙ c.in_ok-its.ensures.list) fits)

pub of_parts-requires : goal.of_parts-requires
of_parts-requires c =
    let none : None ≡ product_overflow (actions_of c.args.algebra.now) c.args.self.now c.args.other.now =
    c.in-None.ensures c.args.self.now c.args.other.now c.terms.ensures c.terms-2.ensures
    (subst (IsPartsOf c.args.other.now) (sym c.as_slice.ensures.value) c.in_ok-its.ensures) in
    let fits : FitsProduct (actions_of c.args.algebra.now) c.args.self.now c.args.other.now =
    none_fits (actions_of c.args.algebra.now) c.args.self.now c.args.other.now
    (told_some c.args.self.now c.is_zero.result c.is_zero.ensures.1 c.if-is_zero.false)
    (told_some c.args.other.now c.is_zero-2.result c.is_zero-2.ensures.1 c.if-is_zero-2.false) none in
    subst Fits (sym c.as_slice-in-None-2.ensures.value)
    (product_fits (actions_of c.args.algebra.now) c.args.self.now c.args.other.now
    (op_entries c.terms-in-None.result.now) c.as_slice-in-None.result.now c.in_ok-parts-in-None.parts.items c.terms-in-None.ensures
    (c.as_slice-in-None.ensures.value ∙ c.in_ok-its.ensures.list) c.in_ok-parts-in-None.ensures fits)

pub returns : goal.returns
returns c =
    let none : None ≡ product_overflow (actions_of c.args.algebra.now) c.args.self.now c.args.other.now =
    c.in-None.ensures c.args.self.now c.args.other.now c.terms.ensures c.terms-2.ensures
    (subst (IsPartsOf c.args.other.now) (sym c.as_slice.ensures.value) c.in_ok-its.ensures) in
    answers_value (actions_of c.args.algebra.now) c.args.self.now c.args.other.now c.in_ok-r-in-None.r
    (op_entries c.terms-in-None.result.now) c.as_slice-in-None.result.now c.in_ok-parts-in-None.parts.items c.terms-in-None.ensures
    (c.as_slice-in-None.ensures.value ∙ c.in_ok-its.ensures.list) c.in_ok-parts-in-None.ensures
    (c.in_ok-r-in-None.ensures ∙ ap sum_of_parts c.as_slice-in-None-2.ensures.value) none
