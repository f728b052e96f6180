-- Rational numbers: a whole number over a positive one, and what the operations on them mean.
--     Ratio                     a numerator and a denominator, in no particular terms
--     ratio n m                 n over m, with the sign of m moved to the numerator
--     SameValue p q             a/b and c/d with a·d = c·b
--     IsLowest r                the denominator is positive, and only 1 divides both parts
--     IsCancelled p r           r is p, with both parts divided by their greatest common divisor
--     IsLowestTerms p r         r is in lowest terms and has the value of p
--     opposite_of, sum_of_ratios, difference_of_ratios, product_of_ratios, quotient_of_ratios, order_of_ratios
--                               the operations, on numerators over a common denominator
-- A ratio with the denominator 0 is no number: every rule here has positive denominators as its premise, and a quotient
-- needs a divisor other than 0. No word here knows of a limit: `Limits` does. Cited by each call of `Rat`;
-- `RationalLaws` says that these words are about values alone.
use Rattle.std.specs.Prelude.{◌≡◌, ℕ, suc, ◌*◌, ◌<◌, ℤ, pos, negsuc, ◌+ℤ◌, ◌-ℤ◌, ◌*ℤ◌, neg_ℤ, unsigned_abs}
use Rattle.std.specs.Int.{IsGcd}
use Rattle.std.specs.Ordering.{int_cmp}
use Rattle.std.specs.declared.cmp.Ordering.{Ordering}

pub record Ratio : Type 0 where
  pub num : ℤ
  pub den : ℕ

-- a whole number over another
abbrev pub ratio : ℤ → ℤ → Ratio
ratio n (pos m) = record { num = n; den = m }
ratio n (negsuc m) = record { num = neg_ℤ n; den = suc m }

-- one value, by cross products
abbrev pub SameValue : Ratio → Ratio → Type 0
SameValue p q = p.num *ℤ pos q.den ≡ q.num *ℤ pos p.den

abbrev pub opposite_of : Ratio → Ratio
opposite_of p = record { num = neg_ℤ p.num; den = p.den }

abbrev pub sum_of_ratios : Ratio → Ratio → Ratio
sum_of_ratios p q = record { num = p.num *ℤ pos q.den +ℤ q.num *ℤ pos p.den; den = p.den * q.den }

abbrev pub difference_of_ratios : Ratio → Ratio → Ratio
difference_of_ratios p q = record { num = p.num *ℤ pos q.den -ℤ q.num *ℤ pos p.den; den = p.den * q.den }

abbrev pub product_of_ratios : Ratio → Ratio → Ratio
product_of_ratios p q = record { num = p.num *ℤ q.num; den = p.den * q.den }

abbrev pub quotient_of_ratios : Ratio → Ratio → Ratio
quotient_of_ratios p q = ratio (p.num *ℤ pos q.den) (q.num *ℤ pos p.den)

-- the order of the values
abbrev pub order_of_ratios : Ratio → Ratio → Ordering
order_of_ratios p q = int_cmp (p.num *ℤ pos q.den) (q.num *ℤ pos p.den)

-- a positive denominator, and no common divisor but 1
pub record IsLowest (r : Ratio) : Type 0 where
  pub positive : 0 < r.den
  pub coprime : IsGcd (unsigned_abs r.num) r.den 1

-- both parts divided by their greatest common divisor
pub record IsCancelled (p r : Ratio) : Type 0 where
  pub divisor : ℕ
  pub greatest : IsGcd (unsigned_abs p.num) p.den divisor
  pub num : r.num *ℤ pos divisor ≡ p.num
  pub den : r.den * divisor ≡ p.den

-- the lowest terms of a ratio
pub record IsLowestTerms (p r : Ratio) : Type 0 where
  pub lowest : IsLowest r
  pub same : SameValue r p
