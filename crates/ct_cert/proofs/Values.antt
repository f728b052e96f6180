-- The values of checked arithmetic are those of ct_algebra's page of certificates. Main lemmas `part_value`,
-- `identity_value`: where a checked truth value is there, it decides the equation. Cited by `Passing`.
use Rattle.ct_cert.proofs.Base.{◌≡◌, Ok, Bool, List, [], ◌∷◌, Decides, sym, ◌∙◌, ap, ap₂, unit, Name, symbol, Polynomial, polys, times, Action, Shift}
use Rattle.ct_cert.proofs.Base.{Derive, Still, by_action, sigma, sigma_by, delta, delta_by, Operator, operator_group, no_operator, sum_of_operators}
use Rattle.ct_cert.proofs.Base.{negative, term_of, symbol_before, multiple, combination, Summand, Certificate, difference_denominator}
use Rattle.ct_cert.proofs.Base.{difference_numerator, differences, IsIdentity, ◌>>=◌, verdict_ok, both_fit, checked_times, checked_shifted}
use Rattle.ct_cert.proofs.Base.{checked_derived, shifted, product_overflow, shift_overflow, derivative_overflow}
use Rattle.ct_algebra.specs.Group.{zero_add}
use Rattle.ct_algebra.proofs.ProductRule.{product_of-polynomial, product_of-symbol}
use Rattle.ct_ore.specs.Measures.{checked_sum, checked_difference, difference_of_operators, checked_product, checked_combination}
use Rattle.ct_ore.proofs.CheckedValues.{checked_values, combination_value}
use Rattle.ct_cert.specs.Arithmetic.{same_polynomial, same_operator, shift_denominator, checked_denominator, checked_coefficient, checked_numerator}
use Rattle.ct_cert.specs.Arithmetic.{with_difference, checked_differences, checked_part, checked_identity, checked_multiple}
use Rattle.ct_cert.proofs.Deciding.{same_polynomial_decides, same_operator_decides}
use Rattle.ct_ore.specs.Measures as operators

times_value : (p q r : Polynomial) → checked_times p q ≡ Ok r → times p q ≡ r
unfolding checked_times
times_value p q r fits = verdict_ok (product_overflow p q) (times p q) r fits

shift_value : (i : Name) (p r : Polynomial) → checked_shifted i 1 p ≡ Ok r → sigma_by Shift i p ≡ r
unfolding checked_shifted shifted
shift_value i p r fits = verdict_ok (shift_overflow i 1 p) _ r fits

derive_value : (i : Name) (p r : Polynomial) → checked_derived i p ≡ Ok r → delta_by Derive i p ≡ r
unfolding checked_derived
derive_value i p r fits = verdict_ok (derivative_overflow i p) _ r fits

difference_value : (p q r : Operator) → checked_difference p q ≡ Ok r → sum_of_operators p (negative q) ≡ r
unfolding checked_difference difference_of_operators
difference_value p q r fits = verdict_ok (operators.sum_overflow p q) _ r fits

open checked_values use {sums, products}

module _ (a : Name → Action) where
  multiple_value : (c : Polynomial) (p r : Operator) → checked_multiple a c p ≡ Ok r → multiple a c p ≡ r
  multiple_value c p r fits = sym (product_of-polynomial a c p) ∙ products a (term_of unit c) p r fits

  symbol_value : (i : Name) (p r : Operator) → checked_product a (term_of (symbol i) polys.one) p ≡ Ok r → symbol_before a i p ≡ r
  symbol_value i p r fits = sym (product_of-symbol a i p) ∙ products a (term_of (symbol i) polys.one) p r fits

  -- ---- N

  denominator_by : (t : Action) (s : Summand) (r : Polynomial) →
      by_action t (shift_denominator s) (checked_times s.denominator s.denominator) (checked_times s.denominator s.denominator) ≡ Ok r →
      by_action t (times s.denominator (sigma_by t s.name s.denominator)) (times s.denominator s.denominator) (times s.denominator s.denominator) ≡ r
  denominator_by Shift s r fits =
      let moved = both_fit (checked_shifted s.name 1 s.denominator) (checked_times s.denominator) r fits in
      ap (times s.denominator) (shift_value s.name s.denominator moved.value moved.first) ∙ times_value s.denominator moved.value r moved.rest
  denominator_by Derive s r fits = times_value s.denominator s.denominator r fits
  denominator_by Still s r fits = times_value s.denominator s.denominator r fits

  denominator_value : (s : Summand) (r : Polynomial) → checked_denominator a s ≡ Ok r → difference_denominator a s ≡ r
  unfolding checked_denominator
  denominator_value s r fits = denominator_by (a s.name) s r fits

  pub part_value : (h : Polynomial) (s : Summand) (b : Bool) → checked_part a h s ≡ Ok b → Decides b (h ≡ times s.factor (difference_denominator a s))
  unfolding checked_part
  part_value h s b fits =
      let denominator = both_fit (checked_denominator a s) (λ d. checked_times s.factor d >>= (λ p. Ok (same_polynomial p h))) b fits in
      let product = both_fit (checked_times s.factor denominator.value) (λ p. Ok (same_polynomial p h)) b denominator.rest in
      let value : times s.factor (difference_denominator a s) ≡ product.value =
      ap (times s.factor) (denominator_value s denominator.value denominator.first)
      ∙ times_value s.factor denominator.value product.value product.first in
      let is : same_polynomial product.value h ≡ b = cc (product.rest) in
      let decides = same_polynomial_decides product.value h in
      (λ yes. sym (value ∙ decides.0 (is ∙ yes)), λ equal. sym is ∙ decides.1 (sym value ∙ sym equal))

  -- ---- E

  coefficient_by : (t : Action) (s : Summand) (r : Polynomial) →
      by_action t (checked_shifted s.name 1 s.denominator) (checked_derived s.name s.denominator) (Ok polys.zero) ≡ Ok r →
      by_action t (sigma_by t s.name s.denominator) (delta_by t s.name s.denominator) polys.zero ≡ r
  coefficient_by Shift s r fits = shift_value s.name s.denominator r fits
  coefficient_by Derive s r fits = derive_value s.name s.denominator r fits
  coefficient_by Still s r fits = cc

  coefficient_value : (s : Summand) (r : Polynomial) → checked_coefficient a s ≡ Ok r →
      by_action (a s.name) (sigma a s.name s.denominator) (delta a s.name s.denominator) polys.zero ≡ r
  unfolding checked_coefficient
  coefficient_value s r fits = coefficient_by (a s.name) s r fits

  numerator_value : (s : Summand) (r : Operator) → checked_numerator a s ≡ Ok r → difference_numerator a s ≡ r
  unfolding checked_numerator
  numerator_value s r fits =
      let before = both_fit (checked_product a (term_of (symbol s.name) polys.one) s.numerator)
      (λ v. checked_multiple a s.denominator v >>=
      (λ f. checked_coefficient a s >>= (λ c. checked_multiple a c s.numerator >>= (λ g. checked_difference f g)))) r fits in
      let first = both_fit (checked_multiple a s.denominator before.value)
      (λ f. checked_coefficient a s >>= (λ c. checked_multiple a c s.numerator >>= (λ g. checked_difference f g))) r before.rest in
      let coefficient = both_fit (checked_coefficient a s) (λ c. checked_multiple a c s.numerator >>= (λ g. checked_difference first.value g)) r
      first.rest in
      let second = both_fit (checked_multiple a coefficient.value s.numerator) (λ g. checked_difference first.value g) r coefficient.rest in
      ap₂ (λ p q. sum_of_operators p (negative q))
      (ap (multiple a s.denominator) (symbol_value s.name s.numerator before.value before.first)
      ∙ multiple_value s.denominator before.value first.value first.first)
      (ap (λ c. multiple a c s.numerator) (coefficient_value s coefficient.value coefficient.first)
      ∙ multiple_value coefficient.value s.numerator second.value second.first)
      ∙ difference_value first.value second.value r second.rest

  -- ---- the right side

  -- H·E
  added : Summand → Operator
  added s = multiple a s.factor (difference_numerator a s)

  with_difference_value : (sum : Operator) (s : Summand) (r : Operator) → with_difference a sum s ≡ Ok r → sum_of_operators sum (added s) ≡ r
  unfolding with_difference added
  with_difference_value sum s r fits =
      let numerator = both_fit (checked_numerator a s) (λ n. checked_multiple a s.factor n >>= (λ p. checked_sum sum p)) r fits in
      let product = both_fit (checked_multiple a s.factor numerator.value) (λ p. checked_sum sum p) r numerator.rest in
      ap (sum_of_operators sum) (ap (multiple a s.factor) (numerator_value s numerator.value numerator.first)
      ∙ multiple_value s.factor numerator.value product.value product.first)
      ∙ sums sum product.value r product.rest

  differences_value :
      (sum : Operator) (ss : List Summand) (r : Operator) → checked_differences a sum ss ≡ Ok r →
      operator_group.◌+◌ sum (differences a ss) ≡ r
  unfolding sum_of_operators no_operator added
  differences_value sum [] r fits = operator_group.add_zero sum ∙ cc
  differences_value sum (s ∷ ss) r fits =
      let more = both_fit (with_difference a sum s) (λ more. checked_differences a more ss) r fits in
      sym (operator_group.add_assoc sum (added s) (differences a ss))
      ∙ ap (λ p. operator_group.◌+◌ p (differences a ss)) (with_difference_value sum s more.value more.first)
      ∙ differences_value more.value ss r more.rest

  pub identity_value :
      (generators : List Operator) (c : Certificate) (b : Bool) → checked_identity a generators c ≡ Ok b →
      Decides b (IsIdentity a generators c)
  unfolding checked_identity sum_of_operators no_operator
  identity_value generators c b fits =
      let left = both_fit (checked_multiple a c.scale c.telescoper)
      (λ l. checked_differences a no_operator c.summands >>=
      (λ d. checked_combination a d c.cofactors generators >>= (λ r. Ok (same_operator l r)))) b fits in
      let differences = both_fit (checked_differences a no_operator c.summands)
      (λ d. checked_combination a d c.cofactors generators >>= (λ r. Ok (same_operator left.value r))) b left.rest in
      let right = both_fit (checked_combination a differences.value c.cofactors generators)
      (λ r. Ok (same_operator left.value r)) b differences.rest in
      let first : multiple a c.scale c.telescoper ≡ left.value = multiple_value c.scale c.telescoper left.value left.first in
      let summed = differences_value no_operator c.summands differences.value differences.first in
      let second = ap (λ p. operator_group.◌+◌ p (combination a c.cofactors generators)) (sym (zero_add operator_group _) ∙ summed)
      ∙ combination_value a differences.value c.cofactors generators right.value right.first in
      let is : same_operator left.value right.value ≡ b = cc (right.rest) in
      let decides = same_operator_decides left.value right.value in
      (λ yes. first ∙ decides.0 (is ∙ yes) ∙ sym second, λ equal. sym is ∙ decides.1 (sym first ∙ equal ∙ second))
