-- Sums, differences and products of values are those of fractions, and so are quotients of whole numbers and negatives. Main
-- lemmas `sums_are_exact`, `differences_are_exact`, `products_are_exact`, `quotients_are_exact` and `negatives_are_exact`, which
-- the laws of the same names cite. With the least common multiple m of p and q, and h their greatest common divisor, h·m is p·q;
-- so what is cleared to m is 1/h of what is multiplied crosswise.
use Rattle.ct_expr.proofs.Base.{◌≡◌, ℕ, pos, ◌*◌, ◌/◌, ◌<◌, Ok, refl, sym, ◌∙◌, ap, ap₂, subst, arith, div-mul_cancel, eq_of_mul-eq-mul_right}
use Rattle.ct_expr.proofs.Base.{hom_neg, zero_add, unit, one_is, number, one-product_of, Name, Action, Operator, operator_group, no_operator}
use Rattle.ct_expr.proofs.Base.{sum_of_operators, negative, product_of, term_of, none_is, sums_are, negatives_are, greatest_common, least_common}
use Rattle.ct_expr.proofs.Base.{Checked, both_fit, verdict_ok, whole_ok, checked_sum, checked_difference, checked_product, difference_of_operators}
use Rattle.ct_expr.proofs.Base.{common_divisor, over_whole, checked_multiple, scaled, scaled_twice, scaled-sum, scaled_quotient}
use Rattle.std.specs.Int.{IsGcd}
use Rattle.ct_int.proofs.CommonDivisors.{greatest_common_is}
use Rattle.ct_expr.specs.ValueArithmetic.{Value, IsValue, lowest, negated}
use Rattle.ct_expr.specs.Value.{operator_of_polynomial, ratio}
use Rattle.ct_expr.specs.ValueLaws.{IsJoined, SumsAreExact, DifferencesAreExact, ProductsAreExact, QuotientsAreExact, NegativesAreExact}
use Rattle.ct_expr.proofs.ValueArithmetic.{Clears, clears, divisor_fits, product_fits}
use Rattle.ct_expr.proofs.Values.{fraction_of-Ratio}
use Rattle.ct_expr.proofs.ValueSteps.{Joins, plus_steps, minus_steps, times_steps}

-- the factor between the least common multiple and the product
record Crosses (p q m : ℕ) : Type 0 where
  factor : ℕ
  whole : factor * m ≡ p * q
  first : factor * (m / p) ≡ q
  second : factor * (m / q) ≡ p

crosses : (p q m : ℕ) → 0 < p → 0 < q → least_common p q ≡ m → Clears p q m → Crosses p q m
unfolding least_common
crosses p q m some other least known =
    let h = greatest_common p q in
    let is : IsGcd p q h = greatest_common_is p q other in
    let first_part : p / h * h ≡ p = div-mul_cancel h is.0 in
    let turned : h * (p / h * q) ≡ p / h * h * q = omega arith in
    let whole : h * m ≡ p * q = ap (λ n. h * n) (sym least) ∙ turned ∙ ap (λ n. n * q) first_part in
    let by_p : h * (m / p) * p ≡ h * (m / p * p) = omega arith in
    let by_q : h * (m / q) * q ≡ h * (m / q * q) = omega arith in
    let swapped : p * q ≡ q * p = omega arith in
    record {
      factor = h;
      whole = whole;
      first = eq_of_mul-eq-mul_right p some (h * (m / p)) q (by_p ∙ ap (λ n. h * n) (div-mul_cancel p known.first_divides) ∙ whole ∙ swapped);
      second = eq_of_mul-eq-mul_right q other (h * (m / q)) p (by_q ∙ ap (λ n. h * n) (div-mul_cancel q known.second_divides) ∙ whole);
    }

module _ (a : Name → Action) where
  multiple_is : (n : ℕ) (x r : Operator) → checked_multiple a n x ≡ Ok r → scaled a n x ≡ r
  unfolding checked_multiple
  multiple_is n x r e = verdict_ok _ _ r e

  -- what is divided by a common divisor, times the whole number over it
  lowest_scaled : (x : Operator) (n h : ℕ) → 0 < n → scaled a (h * n) (lowest x n).operator ≡ scaled a (lowest x n).whole (scaled a h x)
  unfolding lowest
  lowest_scaled x n h some =
      let g = common_divisor x n in
      let fits = divisor_fits x n some in
      let turned : h * (n / g * g) ≡ n / g * (h * g) = omega arith in
      ap (λ k. scaled a k (over_whole g x)) (ap (λ k. h * k) (sym (div-mul_cancel g fits.number)) ∙ turned)
      ∙ sym (scaled_twice a (n / g) (h * g) (over_whole g x))
      ∙ ap (scaled a (n / g)) (sym (scaled_twice a h g (over_whole g x)) ∙ ap (scaled a h) (scaled_quotient a g x fits.operator))

  -- the same of the operator itself
  lowest_exact : (x : Operator) (n : ℕ) → 0 < n → scaled a n (lowest x n).operator ≡ scaled a (lowest x n).whole x
  lowest_exact x n some =
      let once : scaled a 1 x ≡ x = ap (λ c. product_of a (term_of unit c) x) (sym one_is) ∙ one-product_of a x in
      let same : n ≡ 1 * n = omega arith in
      ap (λ k. scaled a k (lowest x n).operator) same ∙ lowest_scaled x n 1 some ∙ ap (scaled a (lowest x n).whole) once

  joined_exact :
      (checked : Operator → Operator → Checked Operator) (operation : Operator → Operator → Operator) →
      ((x y r : Operator) → checked x y ≡ Ok r → operation x y ≡ r) →
      ((n : ℕ) (x y : Operator) → scaled a n (operation x y) ≡ operation (scaled a n x) (scaled a n y)) →
      (v w r : Value) → IsValue v → IsValue w → Joins a checked v w r → IsJoined a operation v w r
  joined_exact checked operation told spread v w r is it s =
      let p = v.whole in
      let q = w.whole in
      let m = s.whole in
      let known = clears p q m is.positive it.positive s.common in
      let cross = crosses p q m is.positive it.positive (whole_ok (least_common p q) m s.common).same known in
      let h = cross.factor in
      let total : operation s.mine s.its ≡ s.total = told s.mine s.its s.total s.joined in
      let mine : scaled a h s.mine ≡ scaled a q v.operator =
      ap (scaled a h) (sym (multiple_is (m / p) v.operator s.mine s.first)) ∙ scaled_twice a h (m / p) v.operator
      ∙ ap (λ n. scaled a n v.operator) cross.first in
      let its : scaled a h s.its ≡ scaled a p w.operator =
      ap (scaled a h) (sym (multiple_is (m / q) w.operator s.its s.second)) ∙ scaled_twice a h (m / q) w.operator
      ∙ ap (λ n. scaled a n w.operator) cross.second in
      let all : scaled a h s.total ≡ operation (scaled a q v.operator) (scaled a p w.operator) =
      ap (scaled a h) (sym total) ∙ spread h s.mine s.its ∙ ap₂ operation mine its in
      subst (IsJoined a operation v w) s.last
      (ap (λ n. scaled a n (lowest s.total m).operator) (sym cross.whole) ∙ lowest_scaled s.total m h known.itself.some
      ∙ ap (scaled a (lowest s.total m).whole) all)

  scaled-difference : (n : ℕ) (x y : Operator) → scaled a n (difference_of_operators x y) ≡ difference_of_operators (scaled a n x) (scaled a n y)
  unfolding difference_of_operators
  scaled-difference n x y =
      scaled-sum a n x (negative y)
      ∙ ap (sum_of_operators (scaled a n x))
      (ap (scaled a n) (negatives_are y)
      ∙ hom_neg {G = operator_group} {H = operator_group} {φ = scaled a n}
      (record { sums = λ u v. ap (scaled a n) (sym (sums_are u v)) ∙ scaled-sum a n u v ∙ sums_are _ _ }) y
      ∙ sym (negatives_are (scaled a n y)))

sum_told : (x y r : Operator) → checked_sum x y ≡ Ok r → sum_of_operators x y ≡ r
unfolding checked_sum
sum_told x y r e = verdict_ok _ _ r e

pub difference_told : (x y r : Operator) → checked_difference x y ≡ Ok r → difference_of_operators x y ≡ r
unfolding checked_difference
difference_told x y r e = verdict_ok _ _ r e

product_told : (a : Name → Action) (x y r : Operator) → checked_product a x y ≡ Ok r → product_of a x y ≡ r
unfolding checked_product
product_told a x y r e = verdict_ok _ _ r e

pub sums_are_exact : SumsAreExact
sums_are_exact a v w r is it e = joined_exact a checked_sum sum_of_operators sum_told (scaled-sum a) v w r is it (plus_steps a v w r e)

pub differences_are_exact : DifferencesAreExact
differences_are_exact a v w r is it e =
    joined_exact a checked_difference difference_of_operators difference_told (scaled-difference a) v w r is it (minus_steps a v w r e)

pub products_are_exact : ProductsAreExact
products_are_exact a v w r is it e =
    let s = times_steps a v w r e in
    let kept = whole_ok (v.whole * w.whole) s.whole s.wholes in
    let fits = product_fits v.whole w.whole s.whole is.positive it.positive s.wholes in
    let product : product_of a v.operator w.operator ≡ s.product = product_told a v.operator w.operator s.product s.operators in
    subst (λ (u : Value). scaled a (v.whole * w.whole) u.operator ≡ scaled a u.whole (product_of a v.operator w.operator)) s.last
    (rw (kept.same, product) (lowest_exact a s.product s.whole fits.some))

pub quotients_are_exact : QuotientsAreExact
quotients_are_exact a n d v e some =
    let same : ratio n (pos d) ≡ v = let told = sym (fraction_of-Ratio a n (pos d)) ∙ e in cc in
    subst (λ (u : Value). scaled a d u.operator ≡ scaled a u.whole (operator_of_polynomial (number n))) same
    (lowest_exact a (operator_of_polynomial (number n)) d some)

pub negatives_are_exact : NegativesAreExact
unfolding negated difference_of_operators
negatives_are_exact v r e =
    let step = both_fit (checked_difference no_operator v.operator) _ r e in
    let same : record { operator = step.value; whole = v.whole } ≡ r = let e = step.rest in cc in
    let none_before : sum_of_operators no_operator (negative v.operator) ≡ negative v.operator =
    sums_are no_operator (negative v.operator) ∙ ap (λ z. operator_group.◌+◌ z (negative v.operator)) none_is
    ∙ zero_add operator_group (negative v.operator) in
    subst (λ (u : Value). (u.operator ≡ negative v.operator) × (u.whole ≡ v.whole)) same
    (sym (difference_told no_operator v.operator step.value step.first) ∙ none_before, refl)
