-- The content of a polynomial, its common monomial and its primitive part.
--     DividesEach d p       the whole number d divides every coefficient of p
--     content p             the greatest whole number that does; 0 for zero
--     common_monomial p     the greatest monomial that divides every term: the least exponent of each name; 1 for zero
--     is_negative p         whether the leading coefficient is negative
--     signed_content p      the content with the sign of the leading coefficient
--     divided m c p         each term of p over the monomial m and the number c, which divide it
--     primitive_form p      p over its signed content
--     primitive_part p      p over its signed content and its common monomial
-- So p is its signed content times its common monomial times its primitive part, and the primitive part of a nonzero p has
-- content 1, common monomial 1 and a positive leading coefficient: `ContentLaws`.
use Rattle.std.specs.Prelude.{◌≡◌, ◌↔◌, ◌*ℤ◌, ℕ, zero, suc, ◌-◌, ◌%◌, min, ℤ, pos, negsuc, neg_ℤ, unsigned_abs, Bool, true, false, cond, eqb, List, [], ◌∷◌, map, int_div}
use Rattle.std.specs.Int.{◌∣◌}
use Rattle.std.specs.List.{list_all}
use Rattle.ct_algebra.specs.Terms.{EachTerm}
use Rattle.ct_algebra.specs.Monomial.{Mono, exp, mono, unit}
use Rattle.ct_algebra.specs.Polynomial.{Polynomial, poly_of, norm}
use Rattle.ct_mono.specs.Division.{Divides}

-- ---- the content

abbrev pub DividesAll : ℕ → List (Mono × ℤ) → Type 0
DividesAll d es = EachTerm (λ m c. d ∣ unsigned_abs c) es

abbrev pub DividesEach : ℕ → Polynomial → Type 0
DividesEach d p = DividesAll d p.terms

-- the divisors of g are the common divisors of the coefficients
abbrev pub IsContentOf : List (Mono × ℤ) → ℕ → Type 0
IsContentOf es g = (d : ℕ) → (d ∣ g) ↔ DividesAll d es

-- the test
abbrev pub divides_each : ℕ → List (Mono × ℤ) → Bool
divides_each d es = list_all (λ e. eqb (unsigned_abs e.1 % d) 0) es

-- the greatest number up to n that divides each coefficient
abbrev pub greatest_up_to : ℕ → List (Mono × ℤ) → ℕ
greatest_up_to zero es = 0
greatest_up_to (suc n) es = cond (divides_each (suc n) es) (suc n) (greatest_up_to n es)

-- no divisor of a nonzero polynomial's coefficients is above its norm
unfoldable pub content : Polynomial → ℕ
content p = greatest_up_to (norm p) p.terms

-- ---- the monomial

-- the least of k and the exponents of a name
abbrev pub least_exp_from : ℕ → ℕ → List (Mono × ℤ) → ℕ
least_exp_from k i [] = k
least_exp_from k i (e ∷ es) = least_exp_from (min k (exp e.0 i)) i es

-- the least exponent of a name
abbrev pub least_exp : ℕ → List (Mono × ℤ) → ℕ
least_exp i [] = 0
least_exp i (e ∷ es) = least_exp_from (exp e.0 i) i es

unfoldable pub common_monomial : Polynomial → Mono
common_monomial p = mono (λ i. least_exp i p.terms)

-- ---- the sign

abbrev pub is_below_zero : ℤ → Bool
is_below_zero (pos n) = false
is_below_zero (negsuc n) = true

abbrev pub leads_below_zero : List (Mono × ℤ) → Bool
leads_below_zero [] = false
leads_below_zero (e ∷ es) = is_below_zero e.1

unfoldable pub is_negative : Polynomial → Bool
is_negative p = leads_below_zero p.terms

abbrev pub signed : Bool → ℕ → ℤ
signed negative n = cond negative (neg_ℤ (pos n)) (pos n)

unfoldable pub signed_content : Polynomial → ℤ
signed_content p = signed (is_negative p) (content p)

-- ---- the parts

-- the term of m and d divides that of k and c
abbrev pub TermDivides : Mono → ℤ → Mono → ℤ → Type 0
TermDivides m d k c = Divides m k × ((q : ℤ) × (q *ℤ d ≡ c))

-- a term over a monomial and a number
abbrev pub term_divided : Mono → ℤ → Mono × ℤ → Mono × ℤ
term_divided m c e = (mono (λ i. exp e.0 i - exp m i), int_div e.1 c)

unfoldable pub divided : Mono → ℤ → Polynomial → Polynomial
divided m c p = poly_of (map (term_divided m c) p.terms)

unfoldable pub primitive_form : Polynomial → Polynomial
primitive_form p = divided unit (signed_content p) p

unfoldable pub primitive_part : Polynomial → Polynomial
primitive_part p = divided (common_monomial p) (signed_content p) p
