-- When arithmetic on polynomials overflows, by the measures of the operands (this project's own rules).
--     sum_overflow, product_overflow, shift_overflow, derivative_overflow
--         the kind of the first rule that an operation breaks, or none
--     checked_plus, checked_minus, checked_times, checked_shifted, checked_derived
--         the exact value, or that kind
--     minus p q          the difference;  shifted i a p   the name i replaced by itself plus a
-- The rules read the operands alone, so no way of adding terms can change them. A product with zero never overflows.
use Rattle.std.specs.Prelude.{ℕ, ◌+◌, ◌*◌, ◌^◌, ℤ, pos, nat_abs, Bool, false, cond, ltb, eqb, None, Some, sum_by}
use Rattle.std.proofs.Common.{Option}
use Rattle.ct_algebra.specs.Monomial.{exp}
use Rattle.ct_algebra.specs.Names.{Name, place}
use Rattle.ct_algebra.specs.Polynomial.{Polynomial, polys, plus, times, count, norm, degree}
use Rattle.ct_algebra.specs.Substitution.{shift}
use Rattle.ct_algebra.specs.Derivative.{derived}
use Rattle.ct_checked.specs.Limits.{largest_degree, most_terms, largest_norm}
use Rattle.ct_checked.specs.Checked.{Checked, verdict}
use Rattle.ct_checked.specs.declared.fault.Kind.{Kind}
use Rattle.ct_checked.specs.declared.fault.Kind.TheVariants.{Degree, Terms, Number}

-- the kind, where the rule is broken, or else what later rules say
abbrev pub broken : Bool → Kind → Option Kind → Option Kind
broken rule kind later = cond rule (Some kind) later

-- ---- exact values

unfoldable pub minus : Polynomial → Polynomial → Polynomial
minus p q = plus p (polys.neg q)

-- a steps for the name i, none for the others
abbrev pub steps : Name → ℕ → Name → ℤ
steps i a j = cond (eqb (place j) (place i)) (pos a) (pos 0)

unfoldable pub shifted : Name → ℕ → Polynomial → Polynomial
shifted i a p = shift (steps i a) p

-- ---- measures of one polynomial at a name

-- how many terms a shift makes of p before they are gathered
unfoldable pub shift_count : Name → Polynomial → ℕ
shift_count i p = sum_by (λ e. exp e.0 (place i) + 1) p.terms

-- the sum of the absolute values of the coefficients of these terms
unfoldable pub shift_norm : Name → ℕ → Polynomial → ℕ
shift_norm i a p = sum_by (λ e. nat_abs e.1 * (1 + a) ^ exp e.0 (place i)) p.terms

-- the norm of the derivative, at most
unfoldable pub derivative_norm : Name → Polynomial → ℕ
derivative_norm i p = sum_by (λ e. nat_abs e.1 * exp e.0 (place i)) p.terms

-- ---- the rules

unfoldable pub sum_overflow : Polynomial → Polynomial → Option Kind
sum_overflow p q =
    broken (ltb most_terms (count p + count q)) Terms
    (broken (ltb largest_norm (norm p + norm q)) Number None)

-- a product with zero has no term
abbrev pub is_zero_product : Polynomial → Polynomial → Bool
is_zero_product p q = eqb (count p * count q) 0

unfoldable pub product_overflow : Polynomial → Polynomial → Option Kind
product_overflow p q =
    cond (is_zero_product p q) None
    (broken (ltb largest_degree (degree p + degree q)) Degree
    (broken (ltb most_terms (count p * count q)) Terms
    (broken (ltb largest_norm (norm p * norm q)) Number None)))

-- a shift by nothing changes nothing, and makes no terms
unfoldable pub shift_overflow : Name → ℕ → Polynomial → Option Kind
shift_overflow i a p =
    broken (cond (ltb 0 a) (ltb most_terms (shift_count i p)) false) Terms
    (broken (ltb largest_norm (shift_norm i a p)) Number None)

unfoldable pub derivative_overflow : Name → Polynomial → Option Kind
derivative_overflow i p = broken (ltb largest_norm (derivative_norm i p)) Number None

-- ---- the checked operations

unfoldable pub checked_plus : Polynomial → Polynomial → Checked Polynomial
checked_plus p q = verdict (sum_overflow p q) (plus p q)

unfoldable pub checked_minus : Polynomial → Polynomial → Checked Polynomial
checked_minus p q = verdict (sum_overflow p q) (minus p q)

unfoldable pub checked_times : Polynomial → Polynomial → Checked Polynomial
checked_times p q = verdict (product_overflow p q) (times p q)

unfoldable pub checked_shifted : Name → ℕ → Polynomial → Checked Polynomial
checked_shifted i a p = verdict (shift_overflow i a p) (shifted i a p)

unfoldable pub checked_derived : Name → Polynomial → Checked Polynomial
checked_derived i p = verdict (derivative_overflow i p) (derived i p)
