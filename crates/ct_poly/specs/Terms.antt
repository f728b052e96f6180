-- Lists of a polynomial's terms, as code keeps them, and what they stand for.
--     entries ts         the terms as pairs of a monomial and a whole number
--     poly_of_terms ts   the polynomial that any list of terms adds up to
--     IsFalling ts       monomials fall, and no coefficient is zero: the written form of a polynomial
--     size_of ts         the sum of the absolute values of the coefficients
--     greatest_total ts  of a monomial;  greatest_exp i ts   the greatest exponent of a name
--     derivative_size i ts, shift_size i a ts, shift_length i ts   what the rules of derivatives and shifts add up
--     IsListOf p n s v   v lists the terms of p, has at most n of them, and its size is at most s
--     CanMultiply ps qs  what the product of two lists asks
use Rattle.std.specs.Prelude.{◌≡◌, ℕ, ◌+◌, ◌*◌, ◌^◌, ◌≤◌, ℤ, nat_abs, length, max, List, [], ◌∷◌, map, sum_by}
use Rattle.ct_algebra.specs.Monomial.{Mono, monomials, total, exp}
use Rattle.ct_algebra.specs.WholeNumbers.{int_group}
use Rattle.ct_algebra.specs.Terms.{IsCanonical}
use Rattle.ct_algebra.specs.Polynomial.{Polynomial, poly_of}
use Rattle.ct_checked.specs.Limits.{largest_degree, largest_norm}
use Rattle.ct_poly.specs.declared.term.Term.{Term}

abbrev pub entry : Term → Mono × ℤ
entry t = (t.mono, t.coef)

abbrev pub entries : List Term → List (Mono × ℤ)
entries ts = map (λ t. (t.mono, t.coef)) ts

unfoldable pub poly_of_terms : List Term → Polynomial
poly_of_terms ts = poly_of (entries ts)

abbrev pub IsFalling : List Term → Type 0
IsFalling ts = IsCanonical monomials int_group (entries ts)

abbrev pub size_of : List Term → ℕ
size_of ts = sum_by (λ t. nat_abs t.coef) ts

abbrev pub greatest_total : List Term → ℕ
greatest_total [] = 0
greatest_total (t ∷ ts) = max (total t.mono) (greatest_total ts)

-- the sum of coefficient times exponent at a name
abbrev pub derivative_size : ℕ → List Term → ℕ
derivative_size i ts = sum_by (λ t. nat_abs t.coef * exp t.mono i) ts

-- the size of a list after a name is replaced by itself plus a, before terms are gathered
abbrev pub shift_size : ℕ → ℕ → List Term → ℕ
shift_size i a ts = sum_by (λ t. nat_abs t.coef * (1 + a) ^ exp t.mono i) ts

-- and how many terms there are then
abbrev pub shift_length : ℕ → List Term → ℕ
shift_length i ts = sum_by (λ t. exp t.mono i + 1) ts

-- the greatest exponent of a name
abbrev pub greatest_exp : ℕ → List Term → ℕ
greatest_exp i [] = 0
greatest_exp i (t ∷ ts) = max (exp t.mono i) (greatest_exp i ts)

-- v lists the terms of p, and its length and size are within bounds
pub record IsListOf (p : Polynomial) (count size : ℕ) (v : List Term) : Type 0 where
  pub falling : IsFalling v
  pub value : poly_of_terms v ≡ p
  pub few : length v ≤ count
  pub small : size_of v ≤ size

-- two lists whose product has room
pub record CanMultiply (ps qs : List Term) : Type 0 where
  pub first : IsFalling ps
  pub second : IsFalling qs
  pub degrees : greatest_total ps + greatest_total qs ≤ largest_degree
  pub sizes : size_of ps * size_of qs ≤ largest_norm
