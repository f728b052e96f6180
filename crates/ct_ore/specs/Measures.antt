-- When arithmetic on operators overflows, by the measures of the operands (this project's own rules).
--     term_count, term_norm     how many terms all coefficients have, and the sum of the absolute values of their numbers
--     coefficient_degree        the greatest degree of a coefficient;  order_of   the greatest total of the symbols
--     over_terms f p            f of every term of every coefficient, with the symbols before it, added up
--     product_count, product_norm      how many terms all pairs make, and the sum of their absolute values
--     checked_sum, checked_difference, checked_product, checked_combination
--         the exact value, or the kind of the first rule that is broken
-- An operator is measured as a polynomial in names and symbols. A product with zero never overflows. Of a product, every
-- pair of a coefficient term of the left factor and one of the right is counted and weighed, as if nothing were gathered.
use Rattle.std.specs.Prelude.{ℕ, ◌+◌, ◌*◌, ℤ, nat_abs, max, cond, ltb, eqb, Ok, None, List, [], ◌∷◌, map, length, sum_by}
use Rattle.std.proofs.Common.{Option}
use Rattle.ct_algebra.specs.Monomial.{Mono, exp, total}
use Rattle.ct_algebra.specs.Names.{Name, place}
use Rattle.ct_algebra.specs.Polynomial.{count, norm, degree}
use Rattle.ct_algebra.specs.Actions.{Action}
use Rattle.ct_algebra.specs.Operators.{Operator, sum_of_operators, negative, product_of}
use Rattle.ct_checked.specs.Limits.{largest_degree, most_terms, largest_norm}
use Rattle.ct_checked.specs.Checked.{Checked, verdict, ◌>>=◌}
use Rattle.ct_checked.specs.declared.fault.Kind.{Kind}
use Rattle.ct_checked.specs.declared.fault.Kind.TheVariants.{Degree, Terms, Number}
use Rattle.ct_poly.specs.Measures.{broken}
use Rattle.ct_ore.specs.AllNames.{over_names}
use Rattle.ct_ore.specs.Kinds.{pair_count, pair_weight}

-- ---- measures of one operator

unfoldable pub term_count : Operator → ℕ
term_count p = sum_by (λ e. count e.1) p.terms

unfoldable pub term_norm : Operator → ℕ
term_norm p = sum_by (λ e. norm e.1) p.terms

abbrev pub greatest : List ℕ → ℕ
greatest [] = 0
greatest (n ∷ ns) = max n (greatest ns)

unfoldable pub coefficient_degree : Operator → ℕ
coefficient_degree p = greatest (map (λ e. degree e.1) p.terms)

unfoldable pub order_of : Operator → ℕ
order_of p = greatest (map (λ e. total e.0) p.terms)

-- ---- sums

unfoldable pub difference_of_operators : Operator → Operator → Operator
difference_of_operators p q = sum_of_operators p (negative q)

unfoldable pub sum_overflow : Operator → Operator → Option Kind
sum_overflow p q =
    broken (ltb most_terms (term_count p + term_count q)) Terms
    (broken (ltb largest_norm (term_norm p + term_norm q)) Number None)

unfoldable pub checked_sum : Operator → Operator → Checked Operator
checked_sum p q = verdict (sum_overflow p q) (sum_of_operators p q)

unfoldable pub checked_difference : Operator → Operator → Checked Operator
checked_difference p q = verdict (sum_overflow p q) (difference_of_operators p q)

-- ---- products

-- what f says of the symbols, the names and the number of each coefficient term, added up
abbrev pub over_terms : (Mono → Mono → ℤ → ℕ) → Operator → ℕ
over_terms f p = sum_by (λ e. sum_by (λ u. f e.0 u.0 u.1) e.1.terms) p.terms

module _ (a : Name → Action) where
  -- how many terms symbols m make of names n, and of which weight
  abbrev pub count_of_pair : Mono → Mono → ℕ
  count_of_pair m n = over_names (λ i. pair_count a i (exp m (place i)) (exp n (place i)))

  abbrev pub weight_of_pair : Mono → Mono → ℕ
  weight_of_pair m n = over_names (λ i. pair_weight a i (exp m (place i)) (exp n (place i)))

  -- the same over all pairs, each weight times the absolute values of both numbers
  unfoldable pub product_count : Operator → Operator → ℕ
  product_count p q = over_terms (λ m _ x. over_terms (λ _ n y. count_of_pair m n) q) p

  unfoldable pub product_norm : Operator → Operator → ℕ
  product_norm p q = over_terms (λ m _ x. over_terms (λ _ n y. nat_abs x * nat_abs y * weight_of_pair m n) q) p

  unfoldable pub product_overflow : Operator → Operator → Option Kind
  product_overflow p q =
      cond (eqb (length p.terms * length q.terms) 0) None
      (broken (ltb largest_degree (coefficient_degree p + coefficient_degree q)) Degree
      (broken (ltb largest_degree (order_of p + order_of q)) Degree
      (broken (ltb most_terms (product_count p q)) Terms
      (broken (ltb largest_norm (product_norm p q)) Number None))))

  unfoldable pub checked_product : Operator → Operator → Checked Operator
  checked_product p q = verdict (product_overflow p q) (product_of a p q)

  -- the sum of the products of cofactors and generators, from what is summed so far
  abbrev pub checked_combination : Operator → List Operator → List Operator → Checked Operator
  checked_combination sum (c ∷ cofactors) (g ∷ generators) = do
    product ← checked_product c g
    more ← checked_sum sum product
    checked_combination more cofactors generators
  checked_combination sum _ _ = Ok sum
