-- The laws of the measures of operators: where the rules of overflow are kept, that a checked value is the exact one, and
-- that sums, differences and products are within the measures that the rules test.
--     SumFitsWhereMeasuresDo       a sum or a difference fits exactly where both operands leave it room
--     ProductFitsWhereMeasuresDo   a product of nonzero operators fits exactly where they leave it room (`FitsProduct`)
--     ProductWithZeroFits          a product with zero always fits
--     CheckedValuesAreExact        a checked value is the exact sum, difference, product or combination
--     SumsAreWithinMeasures        a sum or a difference has at most the terms and the norm of both operands (`IsWithinSum`)
--     ProductsAreWithinMeasures    a product has at most the terms and the norm of all pairs, as the rules count and weigh them
use Rattle.std.specs.Prelude.{◌≡◌, ◌≢◌, ◌↔◌, ◌+◌, ◌≤◌, max, Ok, None, List}
use Rattle.ct_algebra.specs.Names.{Name}
use Rattle.ct_algebra.specs.Actions.{Action}
use Rattle.ct_algebra.specs.Operators.{Operator, no_operator, sum_of_operators, product_of, combination}
use Rattle.ct_checked.specs.Limits.{largest_degree, most_terms, largest_norm}
use Rattle.ct_ore.specs.Measures.{term_count, term_norm, coefficient_degree, order_of, difference_of_operators, sum_overflow, checked_sum, checked_difference, product_count, product_norm, product_overflow, checked_product, checked_combination}

-- ---- where the rules are kept

abbrev pub SumFitsWhereMeasuresDo : Type 0
SumFitsWhereMeasuresDo =
    (p q : Operator) →
    (sum_overflow p q ≡ None) ↔ ((term_count p + term_count q ≤ most_terms) × (term_norm p + term_norm q ≤ largest_norm))

-- degrees, orders, pairs and their weights leave room for the product
pub record FitsProduct (a : Name → Action) (p q : Operator) : Type 0 where
  pub degrees : coefficient_degree p + coefficient_degree q ≤ largest_degree
  pub orders : order_of p + order_of q ≤ largest_degree
  pub count : product_count a p q ≤ most_terms
  pub norm : product_norm a p q ≤ largest_norm

abbrev pub ProductFitsWhereMeasuresDo : Type 0
ProductFitsWhereMeasuresDo =
    (a : Name → Action) (p q : Operator) → p ≢ no_operator → q ≢ no_operator →
    (product_overflow a p q ≡ None) ↔ FitsProduct a p q

abbrev pub ProductWithZeroFits : Type 0
ProductWithZeroFits =
    (a : Name → Action) (p : Operator) → (product_overflow a no_operator p ≡ None) × (product_overflow a p no_operator ≡ None)

-- ---- checked values

pub record CheckedValuesAreExact : Type 0 where
  pub sums : (p q r : Operator) → checked_sum p q ≡ Ok r → sum_of_operators p q ≡ r
  pub differences : (p q r : Operator) → checked_difference p q ≡ Ok r → difference_of_operators p q ≡ r
  pub products : (a : Name → Action) (p q r : Operator) → checked_product a p q ≡ Ok r → product_of a p q ≡ r
  pub combinations :
      (a : Name → Action) (sum : Operator) (cs gs : List Operator) (r : Operator) →
      checked_combination a sum cs gs ≡ Ok r → sum_of_operators sum (combination a cs gs) ≡ r

-- ---- results are within the measures

-- r has at most the terms and the norm of p and q together, and the degree and the order of one of them
pub record IsWithinSum (p q r : Operator) : Type 0 where
  pub count : term_count r ≤ term_count p + term_count q
  pub norm : term_norm r ≤ term_norm p + term_norm q
  pub degree : coefficient_degree r ≤ max (coefficient_degree p) (coefficient_degree q)
  pub order : order_of r ≤ max (order_of p) (order_of q)

abbrev pub SumsAreWithinMeasures : Type 0
SumsAreWithinMeasures =
    (p q : Operator) → IsWithinSum p q (sum_of_operators p q) × IsWithinSum p q (difference_of_operators p q)

pub record ProductsAreWithinMeasures : Type 0 where
  pub count : (a : Name → Action) (p q : Operator) → term_count (product_of a p q) ≤ product_count a p q
  pub norm : (a : Name → Action) (p q : Operator) → term_norm (product_of a p q) ≤ product_norm a p q
  pub degree :
      (a : Name → Action) (p q : Operator) →
      coefficient_degree (product_of a p q) ≤ coefficient_degree p + coefficient_degree q
  pub order : (a : Name → Action) (p q : Operator) → order_of (product_of a p q) ≤ order_of p + order_of q
