-- A checked operation that fits has the exact value. Main lemmas `combination_value` and `checked_values`, which the laws cite:
-- a combination is added up from the left, and the exact one from the right.
use Rattle.ct_ore.proofs.Base.{◌≡◌, List, [], ◌∷◌, Ok, sym, ◌∙◌, ap, Name, Action, Operator, operator_group, no_operator, sum_of_operators}
use Rattle.ct_ore.proofs.Base.{product_of, combination, verdict_ok, both_fit, ◌>>=◌}
use Rattle.ct_ore.specs.MeasureLaws.{CheckedValuesAreExact}
use Rattle.ct_ore.specs.Measures.{checked_sum, checked_difference, checked_product, checked_combination}

sum_value : (p q r : Operator) → checked_sum p q ≡ Ok r → sum_of_operators p q ≡ r
unfolding checked_sum
sum_value p q r = verdict_ok _ _ r

product_value : (a : Name → Action) (p q r : Operator) → checked_product a p q ≡ Ok r → product_of a p q ≡ r
unfolding checked_product
product_value a p q r = verdict_ok _ _ r

module _ (a : Name → Action) where
  pub combination_value :
      (sum : Operator) (cs gs : List Operator) (r : Operator) → checked_combination a sum cs gs ≡ Ok r →
      sum_of_operators sum (combination a cs gs) ≡ r
  unfolding sum_of_operators no_operator
  combination_value sum [] gs r fits = operator_group.add_zero sum ∙ cc
  combination_value sum (c ∷ cs) [] r fits = operator_group.add_zero sum ∙ cc
  combination_value sum (c ∷ cs) (g ∷ gs) r fits =
      let product = both_fit (checked_product a c g) (λ p. checked_sum sum p >>= (λ more. checked_combination a more cs gs)) r fits in
      let more = both_fit (checked_sum sum product.value) (λ more. checked_combination a more cs gs) r product.rest in
      let first = ap (operator_group.◌+◌ sum) (product_value a c g product.value product.first) in
      sym (operator_group.add_assoc sum (product_of a c g) (combination a cs gs))
      ∙ ap (λ p. operator_group.◌+◌ p (combination a cs gs)) (first ∙ sum_value sum product.value more.value more.first)
      ∙ combination_value more.value cs gs r more.rest

pub checked_values : CheckedValuesAreExact
unfolding checked_difference
checked_values = record {
  sums = sum_value;
  differences = λ p q r. verdict_ok _ _ r;
  products = product_value;
  combinations = combination_value;
}
