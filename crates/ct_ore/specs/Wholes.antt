-- Operators and whole numbers (this project's own rules).
--     DividesOperator d p       the whole number d divides every coefficient of the operator p
--     IsCommonDivisor es n g    the divisors of g are those of n that divide every coefficient
--     common_divisor p n        the greatest number that divides n and every coefficient of p, for n above 0
--     over_whole d p            each coefficient over the number d, which divides it
--     whole_operator n          a whole number as an operator
--     checked_multiple a n p    n times p, from the left; it overflows where n times the norm passes the limit
-- The coefficients of an operator are those of its polynomials. So p over n is in lowest terms where `common_divisor p n` is 1.
use Rattle.std.specs.Prelude.{◌↔◌, ℕ, ◌*◌, ℤ, pos, ltb, None, List, ◌∷◌, map, flat_map}
use Rattle.std.specs.Int.{◌∣◌}
use Rattle.ct_algebra.specs.Monomial.{Mono, unit}
use Rattle.ct_algebra.specs.Names.{Name}
use Rattle.ct_algebra.specs.Polynomial.{Polynomial}
use Rattle.ct_algebra.specs.Substitution.{number}
use Rattle.ct_algebra.specs.Terms.{EachTerm}
use Rattle.ct_algebra.specs.Actions.{Action}
use Rattle.ct_algebra.specs.Operators.{Operator, operator_of, term_of, product_of}
use Rattle.ct_checked.specs.Limits.{largest_norm}
use Rattle.ct_checked.specs.Checked.{Checked, verdict}
use Rattle.ct_checked.specs.declared.fault.Kind.TheVariants.{Number}
use Rattle.ct_poly.specs.Content.{DividesEach, greatest_up_to, divided}
use Rattle.ct_poly.specs.Measures.{broken}
use Rattle.ct_ore.specs.Measures.{term_norm}

abbrev pub DividesTerms : ℕ → List (Mono × Polynomial) → Type 0
DividesTerms d es = EachTerm (λ m c. DividesEach d c) es

abbrev pub DividesOperator : ℕ → Operator → Type 0
DividesOperator d p = DividesTerms d p.terms

-- the terms of all coefficients, beside one another
abbrev pub coefficients_of : List (Mono × Polynomial) → List (Mono × ℤ)
coefficients_of es = flat_map (λ e. e.1.terms) es

abbrev pub IsCommonDivisor : List (Mono × Polynomial) → ℕ → ℕ → Type 0
IsCommonDivisor es n g = (d : ℕ) → (d ∣ g) ↔ ((d ∣ n) × DividesTerms d es)

unfoldable pub common_divisor : Operator → ℕ → ℕ
common_divisor p n = greatest_up_to n ((unit, pos n) ∷ coefficients_of p.terms)

abbrev pub entry_over : ℕ → Mono × Polynomial → Mono × Polynomial
entry_over d e = (e.0, divided unit (pos d) e.1)

unfoldable pub over_whole : ℕ → Operator → Operator
over_whole d p = operator_of (map (entry_over d) p.terms)

abbrev pub whole_operator : ℕ → Operator
whole_operator n = term_of unit (number (pos n))

unfoldable pub checked_multiple : (Name → Action) → ℕ → Operator → Checked Operator
checked_multiple a n p = verdict (broken (ltb largest_norm (n * term_norm p)) Number None) (product_of a (whole_operator n) p)
