use Rattle.ct_poly.proofs.Base.{◌≡◌, ◌+◌, ◌++◌, [], ◌∷◌, length, unsigned_abs, Some, None, sym, ◌∙◌, ap, subst, arith, FitsSigned, rules, Ok, ◌*◌}
use Rattle.ct_poly.proofs.Base.{w128, to_z-of_z, leading, times, term}
use Rattle.ct_poly.specs.Division.{leading_over}
use Rattle.ct_poly.specs.Measures.{minus}
use Rattle.ct_poly.specs.Terms.{entries, entry, size_of, IsListOf, poly_of_terms}
use Rattle.ct_poly.proofs.DivisionLoop.{division_start, division_more, division_stops, division_falls_here, division_found, division_fails}
use Rattle.ct_poly.proofs.DivisionLoop.{rules_read, listed}
use Rattle.ct_poly.proofs.OfTerms.{list_of, poly_is}
use Rattle.ct_poly.proofs.poly.Poly.divide_by_steps.Goals as goal

pub measure_of_terms-divisor_measure-requires : goal.measure_of_terms-divisor_measure-requires
measure_of_terms-divisor_measure-requires c =
    (list_of c.terms-divisor.result.now c.terms-divisor.ensures c.within_limits-2.ensures.few c.within_limits-2.ensures.small).small

pub dividing-init : goal.dividing-init
dividing-init c =
    division_start (list_of c.terms.result.now c.terms.ensures c.within_limits.ensures.few c.within_limits.ensures.small) c.in_ok-rest.ensures.items
    c.new-quotient.ensures.items

pub step_overflow-requires-clause-counts : goal.step_overflow-requires-clause-counts
step_overflow-requires-clause-counts c =
    let kept = list_of c.terms-divisor.result.now c.terms-divisor.ensures c.within_limits-2.ensures.few c.within_limits-2.ensures.small in
    omega (
      arith,
      kept.few,
      c.dividing.invariant.rest_short.1,
      ap length c.as_slice-in-Some.ensures.value,
      ap (λ m. m.count) c.measure_of_terms-rest_measure.ensures,
      ap (λ m. m.count) c.measure_of_terms-divisor_measure.ensures,
    )

pub step_overflow-requires-clause-norms : goal.step_overflow-requires-clause-norms
step_overflow-requires-clause-norms c = (
  omega (
    arith,
    c.dividing.invariant.rest_short.2,
    ap size_of c.as_slice-in-Some.ensures.value,
    ap (λ m. m.norm) c.measure_of_terms-rest_measure.ensures,
  ),
  omega (arith, c.dividing.invariant.size_is, c.dividing.invariant.quotient_short.2),
)

pub returns-in-Some-step_overflow : goal.returns-in-Some-step_overflow
returns-in-Some-step_overflow c =
    let kept = list_of c.terms-divisor.result.now c.terms-divisor.ensures c.within_limits-2.ensures.few c.within_limits-2.ensures.small in
    let some : leading_over (leading (entries c.dividing.rest.items)) (leading (entries c.terms-divisor.result.now)) ≡ Some (entry c.in-Some.u) =
    ap (λ w. leading_over (leading (entries w)) (leading (entries c.terms-divisor.result.now))) (sym c.as_slice.ensures.value) ∙ c.in-Some.ensures in
    let fits : FitsSigned w128 c.in-Some.u.coef = search rules in
    let size : c.unsigned_abs-size.result ≡ unsigned_abs c.in-Some.u.coef = simp to_z-of_z at c.unsigned_abs-size.ensures.value in
    let counted : c.len.result ≡ length c.dividing.quotient.items = search rules in
    let read = rules_read c.dividing.rest.items c.terms-divisor.result.now c.dividing.quotient.items c.dividing.quotient_norm c.in-Some.u.coef
    (c.measure_of_terms-rest_measure.ensures ∙ ap (λ w. record { count = length w; norm = size_of w }) c.as_slice-in-Some.ensures.value)
    c.measure_of_terms-divisor_measure.ensures counted size c.in-Some-step_overflow.ensures in
    division_stops kept c.dividing.invariant c.in-Some.u some c.in-Some-step_overflow.kind (sym read)

pub dividing-smaller : goal.dividing-smaller
dividing-smaller c =
    let kept = list_of c.terms-divisor.result.now c.terms-divisor.ensures c.within_limits-2.ensures.few c.within_limits-2.ensures.small in
    let some : leading_over (leading (entries c.dividing.rest.items)) (leading (entries c.terms-divisor.result.now)) ≡ Some (entry c.in-Some.u) =
    ap (λ w. leading_over (leading (entries w)) (leading (entries c.terms-divisor.result.now))) (sym c.as_slice.ensures.value) ∙ c.in-Some.ensures in
    division_falls_here kept c.dividing.invariant c.in-Some.u some c.in_ok-rest-2.rest.items c.in_ok-rest-2.ensures.falling
    (c.in_ok-rest-2.ensures.value
    ∙ ap (λ w. minus (poly_of_terms w) (times (term c.in-Some.u.mono c.in-Some.u.coef) (poly_of_terms c.terms-divisor.result.now)))
    c.as_slice-in-Some-2.ensures.value)

pub dividing-preserved : goal.dividing-preserved
dividing-preserved c =
    let kept = list_of c.terms-divisor.result.now c.terms-divisor.ensures c.within_limits-2.ensures.few c.within_limits-2.ensures.small in
    let some : leading_over (leading (entries c.dividing.rest.items)) (leading (entries c.terms-divisor.result.now)) ≡ Some (entry c.in-Some.u) =
    ap (λ w. leading_over (leading (entries w)) (leading (entries c.terms-divisor.result.now))) (sym c.as_slice.ensures.value) ∙ c.in-Some.ensures in
    let fits : FitsSigned w128 c.in-Some.u.coef = search rules in
    let size : c.unsigned_abs-size.result ≡ unsigned_abs c.in-Some.u.coef = simp to_z-of_z at c.unsigned_abs-size.ensures.value in
    let counted : c.len.result ≡ length c.dividing.quotient.items = search rules in
    let read = rules_read c.dividing.rest.items c.terms-divisor.result.now c.dividing.quotient.items c.dividing.quotient_norm c.in-Some.u.coef
    (c.measure_of_terms-rest_measure.ensures ∙ ap (λ w. record { count = length w; norm = size_of w }) c.as_slice-in-Some.ensures.value)
    c.measure_of_terms-divisor_measure.ensures counted size c.in_default-step_overflow.ensures in
    let left : IsListOf (minus (poly_of_terms c.dividing.rest.items)
    (times (term c.in-Some.u.mono c.in-Some.u.coef) (poly_of_terms c.terms-divisor.result.now)))
    (length c.dividing.rest.items + length c.terms-divisor.result.now)
    (size_of c.dividing.rest.items + unsigned_abs c.in-Some.u.coef * size_of c.terms-divisor.result.now) c.in_ok-rest-2.rest.items =
    subst (λ w. IsListOf (minus (poly_of_terms w) (times (term c.in-Some.u.mono c.in-Some.u.coef) (poly_of_terms c.terms-divisor.result.now)))
    (length w + length c.terms-divisor.result.now) (size_of w + unsigned_abs c.in-Some.u.coef * size_of c.terms-divisor.result.now)
    c.in_ok-rest-2.rest.items) c.as_slice-in-Some-2.ensures.value c.in_ok-rest-2.ensures in
    let pushed : c.append.new.list.items ≡ c.dividing.quotient.items ++ c.in-Some.u ∷ [] = search rules in
    division_more kept c.dividing.invariant c.in-Some.u some c.in_ok-rest-2.rest.items c.append.new.list.items _ read left pushed
    (ap (λ n. c.dividing.quotient_norm + n) size)

pub returns-then-is_empty : goal.returns-then-is_empty
returns-then-is_empty c =
    let kept = list_of c.terms-divisor.result.now c.terms-divisor.ensures c.within_limits-2.ensures.few c.within_limits-2.ensures.small in
    let none : leading_over (leading (entries c.dividing.rest.items)) (leading (entries c.terms-divisor.result.now)) ≡ None =
    ap (λ w. leading_over (leading (entries w)) (leading (entries c.terms-divisor.result.now))) (sym c.as_slice.ensures.value)
    ∙ c.in_default.ensures in
    let empty : length c.dividing.rest.items ≡ 0 = search rules in
    division_found kept c.dividing.invariant none empty
    ∙ ap (λ q. Ok (Some q))
    (sym (poly_is c.dividing.quotient.items (listed c.dividing.quotient.items c.dividing.invariant.quotient_short) c.of_terms.ensures))

pub returns : goal.returns
returns c =
    let kept = list_of c.terms-divisor.result.now c.terms-divisor.ensures c.within_limits-2.ensures.few c.within_limits-2.ensures.small in
    let none : leading_over (leading (entries c.dividing.rest.items)) (leading (entries c.terms-divisor.result.now)) ≡ None =
    ap (λ w. leading_over (leading (entries w)) (leading (entries c.terms-divisor.result.now))) (sym c.as_slice.ensures.value)
    ∙ c.in_default.ensures in
    let some : length c.dividing.rest.items ≡ 0 → ⊥ = search rules in
    division_fails kept c.dividing.invariant none some
