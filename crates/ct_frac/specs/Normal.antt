-- How a fraction is brought to its written form (this project's own rules).
--     divided_out f n e      n and the exponent e, after n is divided by f as many times as possible, at most e times
--     lowered n done fs      the same for each factor in order; one whose exponent is left stays, after those of `done`
--     normal n d             n over d: lowered, then numerator and whole number divided by their greatest common divisor
--     inserted f fs          one more factor in a rising list
--     factors_of d           the factors of a divisor: the names of its common monomial, and its primitive part
--     quotient_of n d        n divided by d
-- A division that overflows counts as one that does not go; so no step here overflows. A list of factors is rising
-- where each one is put in by `inserted`. The value stays through all of this: `NormalLaws`, `QuotientLaws`.
use Rattle.std.specs.Prelude.{ℕ, zero, suc, ◌+◌, ◌/◌, pos, cond, eqb, None, Some, List, [], ◌∷◌, ◌++◌}
use Rattle.std.proofs.Common.{Option}
use Rattle.ct_algebra.specs.Monomial.{Mono, exp, unit}
use Rattle.ct_algebra.specs.Names.{name_with}
use Rattle.ct_algebra.specs.Polynomial.{Polynomial, polys, degree}
use Rattle.ct_algebra.specs.Substitution.{name}
use Rattle.ct_algebra.specs.Terms.{by_order}
use Rattle.ct_poly.specs.Content.{content, common_monomial, is_negative, primitive_part, divided}
use Rattle.ct_poly.specs.Division.{quotient}
use Rattle.ct_poly.specs.Order.{poly_cmp}
use Rattle.ct_frac.specs.declared.factor.Factor.{Factor}
use Rattle.ct_frac.specs.declared.left.Left.{Left}
use Rattle.ct_int.specs.Divisors.{greatest_common}
use Rattle.ct_frac.specs.Written.{Denominator, Written, whole_polynomial}

-- ---- Normal

abbrev pub on_quotient : {X : Type 0} → Option Polynomial → X → (Polynomial → X) → X
on_quotient None x f = x
on_quotient (Some q) x f = f q

-- while the exponent is above 0 and f divides n
abbrev pub divided_out : Polynomial → Polynomial → ℕ → Left
divided_out f n zero = record { numerator = n; exponent = 0 }
divided_out f n (suc e) = on_quotient (quotient n f) (record { numerator = n; exponent = suc e }) (λ q. divided_out f q e)

-- what is left of a numerator and of its factors
pub record Lowered : Type 0 where
  pub numerator : Polynomial
  pub factors : List Factor

-- a factor with the exponent, before others; none where the exponent is 0
abbrev pub with_exponent : Polynomial → ℕ → List Factor → List Factor
with_exponent p zero fs = fs
with_exponent p (suc e) fs = record { poly = p; exp = suc e } ∷ fs

abbrev pub lowered : Polynomial → List Factor → List Factor → Lowered
lowered n done [] = record { numerator = n; factors = done }
lowered n done (f ∷ fs) =
    lowered (divided_out f.poly n f.exp).numerator (done ++ with_exponent f.poly (divided_out f.poly n f.exp).exponent []) fs

-- numerator and whole number divided by a common divisor
abbrev pub cancelled : ℕ → Polynomial → ℕ → List Factor → Written
cancelled g n whole fs = record {
  numerator = divided unit (pos g) n;
  den = record { whole = whole / g; factors = fs };
}

abbrev pub in_lowest_terms : Lowered → ℕ → Written
in_lowest_terms l whole = cancelled (greatest_common (content l.numerator) whole) l.numerator whole l.factors

unfoldable pub normal : Polynomial → Denominator → Written
normal n d = cond (polys.is_zero n) (whole_polynomial polys.zero) (in_lowest_terms (lowered n [] d.factors) d.whole)

-- ---- the quotient of two polynomials

abbrev pub inserted : Factor → List Factor → List Factor
inserted f [] = f ∷ []
inserted f (g ∷ gs) = by_order (poly_cmp g.poly f.poly) (g ∷ inserted f gs) (f ∷ g ∷ gs) (f ∷ g ∷ gs)

-- each in order put into a rising list
abbrev pub sorted_onto : List Factor → List Factor → List Factor
sorted_onto done [] = done
sorted_onto done (f ∷ fs) = sorted_onto (inserted f done) fs

-- the first names from i on, this many, each with its exponent in the monomial
abbrev pub names_from : ℕ → ℕ → Mono → List Factor
names_from zero i m = []
names_from (suc left) i m = with_exponent (name (name_with i)) (exp m i) (names_from left (i + 1) m)

-- a polynomial that is not constant, as a factor
abbrev pub unless_constant : Polynomial → List Factor
unless_constant p = cond (eqb (degree p) 0) [] (record { poly = p; exp = 1 } ∷ [])

unfoldable pub factors_of : Polynomial → List Factor
factors_of d = sorted_onto [] (names_from 6 0 (common_monomial d) ++ unless_constant (primitive_part d))

-- n with the sign of d
abbrev pub with_sign_of : Polynomial → Polynomial → Polynomial
with_sign_of d n = cond (is_negative d) (polys.neg n) n

unfoldable pub quotient_of : Polynomial → Polynomial → Written
quotient_of n d = normal (with_sign_of d n) (record { whole = content d; factors = factors_of d })
