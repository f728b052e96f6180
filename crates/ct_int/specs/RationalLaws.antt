-- The laws of values, of which `laws.rt` has the theorems.
--     LowestTermsAreUnique, LowestTermsExist      a value is written in lowest terms in one way
--     SumsAreByValue, ProductsAreByValue          the operations are about values, and not about terms
--     DifferenceUndoesSum, QuotientUndoesProduct  what a difference and a quotient mean
--     OrderIsByValue, OrderIsTotal                what the order means
-- Every ratio here has a positive denominator.
use Rattle.std.specs.Prelude.{◌≡◌, ◌≢◌, ◌<◌, pos, ◌↔◌}
use Rattle.std.specs.Ordering.{ordering_reverse}
use Rattle.std.specs.declared.cmp.Ordering.TheVariants.{Less, Equal}
use Rattle.ct_int.specs.Rational.{Ratio, SameValue, IsLowestTerms, sum_of_ratios, difference_of_ratios, product_of_ratios, quotient_of_ratios, order_of_ratios}

abbrev pub LowestTermsAreUnique : Type 0
LowestTermsAreUnique =
    (p q r s : Ratio) → 0 < p.den → 0 < q.den → SameValue p q → IsLowestTerms p r → IsLowestTerms q s → r ≡ s

abbrev pub LowestTermsExist : Type 0
LowestTermsExist = (p : Ratio) → 0 < p.den → (r : Ratio) × IsLowestTerms p r

abbrev pub SumsAreByValue : Type 0
SumsAreByValue = (p q r s : Ratio) → SameValue p q → SameValue r s → SameValue (sum_of_ratios p r) (sum_of_ratios q s)

abbrev pub ProductsAreByValue : Type 0
ProductsAreByValue = (p q r s : Ratio) → SameValue p q → SameValue r s → SameValue (product_of_ratios p r) (product_of_ratios q s)

abbrev pub DifferenceUndoesSum : Type 0
DifferenceUndoesSum = (p q : Ratio) → SameValue (sum_of_ratios (difference_of_ratios p q) q) p

abbrev pub QuotientUndoesProduct : Type 0
QuotientUndoesProduct =
    (p q : Ratio) → 0 < p.den → q.num ≢ pos 0 → SameValue (product_of_ratios (quotient_of_ratios p q) q) p

abbrev pub OrderIsByValue : Type 0
OrderIsByValue =
    (p q r : Ratio) → 0 < p.den → 0 < q.den → 0 < r.den → ((order_of_ratios p q ≡ Equal) ↔ SameValue p q) × (SameValue p q → order_of_ratios p r ≡ order_of_ratios q r)

-- the order as a comparison: turned round, and passed on
pub record IsTotal (p q r : Ratio) : Type 0 where
  pub turned : order_of_ratios p q ≡ ordering_reverse (order_of_ratios q p)
  pub passed_on : order_of_ratios p q ≡ Less → order_of_ratios q r ≡ Less → order_of_ratios p r ≡ Less

abbrev pub OrderIsTotal : Type 0
OrderIsTotal = (p q r : Ratio) → 0 < p.den → 0 < q.den → 0 < r.den → IsTotal p q r
