-- The laws of the measures: where the rules of overflow are kept, that a checked value is the exact one, and that every
-- result is within the measures that the rules test, so that nothing overflows on the way.
use Rattle.std.specs.Prelude.{◌≡◌, ◌↔◌, ℕ, ◌+◌, ◌*◌, ◌<◌, ◌≤◌, Ok, None}
use Rattle.ct_algebra.specs.Derivative.{derived}
use Rattle.ct_algebra.specs.Names.{Name}
use Rattle.ct_algebra.specs.Polynomial.{Polynomial, polys, plus, times, count, norm, degree}
use Rattle.ct_checked.specs.Limits.{largest_degree, most_terms, largest_norm}
use Rattle.ct_poly.specs.Measures.{minus, shifted, shift_count, shift_norm, derivative_norm, sum_overflow, product_overflow, checked_plus, checked_minus, checked_times, checked_shifted, checked_derived}

-- a sum fits exactly where the counts and the norms have room together
abbrev pub SumFitsWhereMeasuresDo : Type 0
SumFitsWhereMeasuresDo =
    (p q : Polynomial) → (sum_overflow p q ≡ None) ↔ ((count p + count q ≤ most_terms) × (norm p + norm q ≤ largest_norm))

-- a product of nonzero polynomials fits exactly where degrees, counts and norms have room
abbrev pub ProductFitsWhereMeasuresDo : Type 0
ProductFitsWhereMeasuresDo =
    (p q : Polynomial) → (p ≡ polys.zero → ⊥) → (q ≡ polys.zero → ⊥) →
    (product_overflow p q ≡ None) ↔ ((degree p + degree q ≤ largest_degree) × (count p * count q ≤ most_terms) × (norm p * norm q ≤ largest_norm))

-- a product with zero always fits
abbrev pub ProductWithZeroFits : Type 0
ProductWithZeroFits = (p : Polynomial) → (product_overflow polys.zero p ≡ None) × (product_overflow p polys.zero ≡ None)

-- the value of a checked operation is that of the exact one
abbrev pub CheckedValuesAreExact : Type 0
CheckedValuesAreExact =
    (p q r : Polynomial) (i : Name) (a : ℕ) →
    (checked_plus p q ≡ Ok r → plus p q ≡ r) × (checked_minus p q ≡ Ok r → minus p q ≡ r) × (checked_times p q ≡ Ok r → times p q ≡ r)
    × (checked_shifted i a p ≡ Ok r → shifted i a p ≡ r) × (checked_derived i p ≡ Ok r → derived i p ≡ r)

-- ---- results are within the measures

pub record SumsAreWithinMeasures : Type 0 where
  pub sums : (p q : Polynomial) → (count (plus p q) ≤ count p + count q) × (norm (plus p q) ≤ norm p + norm q)
  pub differences : (p q : Polynomial) → (count (minus p q) ≤ count p + count q) × (norm (minus p q) ≤ norm p + norm q)

abbrev pub ProductsAreWithinMeasures : Type 0
ProductsAreWithinMeasures =
    (p q : Polynomial) →
    (count (times p q) ≤ count p * count q) × (norm (times p q) ≤ norm p * norm q) × (degree (times p q) ≤ degree p + degree q)

abbrev pub ShiftsAreWithinMeasures : Type 0
ShiftsAreWithinMeasures =
    (i : Name) (a : ℕ) (p : Polynomial) → 0 < a →
    (count (shifted i a p) ≤ shift_count i p) × (norm (shifted i a p) ≤ shift_norm i a p)

abbrev pub DerivativesAreWithinMeasures : Type 0
DerivativesAreWithinMeasures =
    (i : Name) (p : Polynomial) → (count (derived i p) ≤ count p) × (norm (derived i p) ≤ derivative_norm i p)
