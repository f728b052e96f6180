-- The value of an expression is in lowest terms, over a whole number from 1 to the greatest coefficient. Main lemma
-- `values_are_lowest`: each step ends in lowest terms, or keeps them.
use Rattle.ct_expr.proofs.Base.{◌≡◌, ℕ, ◌<◌, ◌≤◌, true, ℤ, pos, negsuc, nat_le, nat_lt, Ok, unsigned_abs, refl, sym, subst, arith, rules, tests}
use Rattle.ct_expr.proofs.Base.{false≢true, eq-one_of_dvd-one, Name, Action, Operator, no_operator, number, both_fit, largest_norm}
use Rattle.ct_expr.proofs.Base.{checked_difference, DividesOperator}
use Rattle.ct_ore.proofs.LowestQuotients.{divides_back, nothing_more_divides}
use Rattle.ct_expr.specs.ValueArithmetic.{Value, IsValue, IsLowest, over_one, lowest, negated, checked_plus, checked_minus, checked_times}
use Rattle.ct_expr.specs.Value.{evaluable_step, is_divisor, is_evaluable, is_ratio, is_coefficient, operator_of_polynomial, ratio}
use Rattle.ct_expr.specs.ValueLaws.{ValuesAreLowest}
use Rattle.ct_expr.proofs.ExactValues.{difference_told}
use Rattle.ct_expr.proofs.ValueArithmetic.{IsFactor, clears, divisor_fits, product_fits, quotient_fits}
use Rattle.ct_expr.proofs.ValueInduction.{Keeps, values_keep}
use Rattle.ct_expr.proofs.ValueSteps.{plus_steps, minus_steps, times_steps}
use Rattle.ct_expr.proofs.Values.{both}

abbrev pub IsRight : Value → Type 0
IsRight v = IsValue v × IsLowest v

one_right : (x : Operator) → IsRight (over_one x)
one_right x = (record { positive = omega arith; within = omega arith }, λ d number each. eq-one_of_dvd-one number)

lowest_right : (x : Operator) (n : ℕ) → IsFactor n → IsRight (lowest x n)
unfolding lowest
lowest_right x n is =
    let divisor = divisor_fits x n is.some in
    let whole = quotient_fits n _ is divisor.some divisor.number in
    (record { positive = whole.some; within = whole.within }, λ d number each. nothing_more_divides x n d is.some number each)

negated-right : (v r : Value) → IsRight v → negated v ≡ Ok r → IsRight r
unfolding negated
negated-right v r (is, low) e =
    let step = both_fit (checked_difference no_operator v.operator) _ r e in
    let same : record { operator = step.value; whole = v.whole } ≡ r = let e = step.rest in cc in
    let told = difference_told no_operator v.operator step.value step.first in
    subst IsRight same (
      record { positive = is.positive; within = is.within },
      λ d number each. low d number (divides_back d v.operator (subst (DividesOperator d) (sym told) each)),
    )

checked_plus-right : (a : Name → Action) (v w r : Value) → IsRight v → IsRight w → checked_plus a v w ≡ Ok r → IsRight r
checked_plus-right a v w r p q e =
    let s = plus_steps a v w r e in
    subst IsRight s.last (lowest_right s.total s.whole (clears v.whole w.whole s.whole p.0.positive q.0.positive s.common).itself)

checked_minus-right : (a : Name → Action) (v w r : Value) → IsRight v → IsRight w → checked_minus a v w ≡ Ok r → IsRight r
checked_minus-right a v w r p q e =
    let s = minus_steps a v w r e in
    subst IsRight s.last (lowest_right s.total s.whole (clears v.whole w.whole s.whole p.0.positive q.0.positive s.common).itself)

pub checked_times-right : (a : Name → Action) (v w r : Value) → IsValue v → IsValue w → checked_times a v w ≡ Ok r → IsRight r
checked_times-right a v w r is it e =
    let s = times_steps a v w r e in
    subst IsRight s.last (lowest_right s.product s.whole (product_fits v.whole w.whole s.whole is.positive it.positive s.wholes))

divisor_is : (d : ℤ) → is_divisor d ≡ true → IsFactor (unsigned_abs d)
divisor_is (pos n) is =
    let parts = both (nat_lt 0 n) (nat_le n largest_norm) is in
    let some : 0 < n = let positive = parts.0 in first_of (search (rules, tests), grind (arith, tests)) in
    let within : n ≤ largest_norm = let small = parts.1 in search (rules, tests) in
    record { some = some; within = within }
divisor_is (negsuc n) is = absurd (false≢true is)

ratio_right : (n d : ℤ) → is_ratio n d ≡ true → IsRight (ratio n d)
ratio_right n d is = lowest_right (operator_of_polynomial (number n)) (unsigned_abs d) (divisor_is d (both (is_coefficient n) (is_divisor d) is).1)

right_keeps : (a : Name → Action) → Keeps a IsRight evaluable_step
unfolding evaluable_step
right_keeps a = record {
  nothing = one_right _;
  one = one_right _;
  negates = negated-right;
  adds = checked_plus-right a;
  subtracts = checked_minus-right a;
  multiplies = λ v w r p q e. checked_times-right a v w r p.0 q.0 e;
  of_whole = λ n is. one_right _;
  of_ratio = ratio_right;
  of_name = λ i is. one_right _;
  of_symbol = λ i is. one_right _;
  sums = λ bs. refl;
  products = λ bs. refl;
  powers = λ b n. refl;
}

pub values_are_lowest : ValuesAreLowest
unfolding is_evaluable
values_are_lowest a x v e is = values_keep (right_keeps a) x v e is
