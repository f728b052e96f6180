-- A power of a value is the power of the fraction. Main lemma `powers_are_exact`, which the law of this name cites. Each turn of
-- a power is a product of values; the whole number of the value on the way stands on both sides, and cancels.
use Rattle.ct_expr.proofs.Base.{◌≡◌, ℕ, zero, suc, pos, ◌*◌, ◌^◌, ◌<◌, Ok, sym, ◌∙◌, ap, ap₂, subst, arith, pow-zero, pow-succ', Mono, unit, Name}
use Rattle.ct_expr.proofs.Base.{Action, polys, polys_domain, coefficient, times_is, number, number_is, one_is, Operator, polynomial_at, term_of}
use Rattle.ct_expr.proofs.Base.{product_of, product_of_assoc, one-product_of, product_of-polynomial, both_fit, whole_operator, scaled, scaled_twice}
use Rattle.ct_algebra.specs.Domain.{mul_cancel}
use Rattle.ct_expr.specs.ValueArithmetic.{Value, IsValue, checked_times}
use Rattle.ct_expr.specs.Value.{power_from, one_operator, one_value}
use Rattle.ct_expr.specs.ValueLaws.{PowersAreExact, power_of_operator}
use Rattle.ct_expr.proofs.ExactValues.{products_are_exact}
use Rattle.ct_expr.proofs.LowestValues.{checked_times-right}
use Rattle.ct_algebra.proofs.OperatorLawProofs as operator_laws
use Rattle.ct_algebra.proofs.PolynomialLawProofs as polynomial_laws

some_number : (n : ℕ) → 0 < n → number (pos n) ≡ polys.zero → ⊥
some_number n some none =
    let same : pos n ≡ pos 0 =
    sym (polynomial_laws.finite_maps.of_a_term unit (pos n)) ∙ ap (λ p. coefficient p unit) (sym (number_is (pos n)) ∙ none)
    ∙ polynomial_laws.finite_maps.of_zero unit in
    let zero_is : n ≡ 0 = cc in
    omega arith

module _ (a : Name → Action) where
  -- a multiple of an operator has the multiples of its coefficients
  multiple_at :
      (n : ℕ) (p : Operator) (m : Mono) → polynomial_at (scaled a n p) m ≡ polys.◌*◌ (number (pos n)) (polynomial_at p m)
  multiple_at n p m =
      ap (λ q. polynomial_at q m) (product_of-polynomial a (number (pos n)) p)
      ∙ operator_laws.finite_maps.of_a_multiple a (number (pos n)) p m ∙ times_is _ _

  -- a positive whole number cancels
  scaled_cancel : (n : ℕ) (x y : Operator) → 0 < n → scaled a n x ≡ scaled a n y → x ≡ y
  scaled_cancel n x y some e =
      operator_laws.finite_maps.same x y (λ m.
      mul_cancel polys polys_domain (number (pos n)) (polynomial_at x m) (polynomial_at y m) (some_number n some)
      (sym (multiple_at n x m) ∙ ap (λ p. polynomial_at p m) e ∙ multiple_at n y m))

  scaled_swapped : (m n : ℕ) (x : Operator) → scaled a m (scaled a n x) ≡ scaled a n (scaled a m x)
  scaled_swapped m n x =
      let turned : m * n ≡ n * m = omega arith in
      scaled_twice a m n x ∙ ap (λ k. scaled a k x) turned ∙ sym (scaled_twice a n m x)

  scaled-product : (n : ℕ) (x y : Operator) → scaled a n (product_of a x y) ≡ product_of a (scaled a n x) y
  scaled-product n x y = sym (product_of_assoc a (whole_operator n) x y)

  -- a power after a first factor
  power_exact :
      (n : ℕ) (s v r : Value) → IsValue s → IsValue v → power_from a s n v ≡ Ok r →
      scaled a (s.whole * v.whole ^ n) r.operator ≡ scaled a r.whole (product_of a s.operator (power_of_operator a n v.operator))
  unfolding power_from
  power_exact zero s v r is it e =
      let same : s ≡ r = cc in
      let once : s.whole * v.whole ^ 0 ≡ s.whole = rw pow-zero (omega arith) in
      let unit_behind : product_of a s.operator one_operator ≡ s.operator =
      ap (λ c. product_of a s.operator (term_of unit c)) (sym one_is) ∙ operator_laws.has_unit.behind a s.operator in
      subst (λ (u : Value). scaled a (s.whole * v.whole ^ 0) u.operator ≡ scaled a u.whole (product_of a s.operator one_operator)) same
      (ap₂ (scaled a) once (sym unit_behind))
  power_exact (suc n) s v r is it e =
      let step = both_fit (checked_times a s v) _ r e in
      let next = step.value in
      let right = (checked_times-right a s v next is it step.first).0 in
      let more = power_of_operator a n v.operator in
      let wholes : next.whole * (s.whole * v.whole ^ suc n) ≡ s.whole * v.whole * (next.whole * v.whole ^ n) =
      rw pow-succ' (omega arith) in
      let both = product_of a s.operator (product_of a v.operator more) in
      let factor : scaled a (s.whole * v.whole) (product_of a next.operator more) ≡ scaled a next.whole both =
      scaled-product (s.whole * v.whole) next.operator more
      ∙ ap (λ x. product_of a x more) (products_are_exact a s v next is it step.first)
      ∙ sym (scaled-product next.whole (product_of a s.operator v.operator) more)
      ∙ ap (scaled a next.whole) (product_of_assoc a s.operator v.operator more) in
      scaled_cancel next.whole _ _ right.positive
      (scaled_twice a next.whole (s.whole * v.whole ^ suc n) r.operator ∙ ap (λ k. scaled a k r.operator) wholes
      ∙ sym (scaled_twice a (s.whole * v.whole) (next.whole * v.whole ^ n) r.operator)
      ∙ ap (scaled a (s.whole * v.whole)) (power_exact n next v r right it step.rest)
      ∙ scaled_swapped (s.whole * v.whole) r.whole (product_of a next.operator more)
      ∙ ap (scaled a r.whole) factor
      ∙ scaled_swapped r.whole next.whole both)

pub powers_are_exact : PowersAreExact
powers_are_exact a n v r is e =
    let once : 1 * v.whole ^ n ≡ v.whole ^ n = omega arith in
    let power = power_of_operator a n v.operator in
    let unit_before : product_of a one_operator power ≡ power =
    ap (λ c. product_of a (term_of unit c) power) (sym one_is) ∙ one-product_of a power in
    ap (λ k. scaled a k r.operator) (sym once)
    ∙ power_exact a n one_value v r (record { positive = omega arith; within = omega arith }) is e
    ∙ ap (scaled a r.whole) unit_before
