-- Fractions as they are written: a numerator over a whole number and factors (this project's own).
--     Denominator            a whole number and a list of factors, polynomials with exponents
--     Written                a numerator over a denominator
--     IsBase p               what a factor's polynomial is: not constant, content 1, a positive leading coefficient
--     IsDenominator d        the whole number is from 1 to 2^127 - 1, the factors rise, their exponents are from 1 to 4095
--     IsWritten w            no whole number but 1 divides the numerator and the whole number; zero is 0 over 1
--     multiplied_out d       the denominator as one polynomial
--     value w                the numerator over the denominator multiplied out, in the field of fractions
-- Factors need not be irreducible, and one of them may still divide the numerator: so one value is written in several
-- ways. The value alone is that of the field operations: clause `value` of each call, law `written_value_is_a_quotient`.
use Rattle.std.specs.Prelude.{◌≡◌, refl, ℕ, zero, suc, ◌<◌, ◌≤◌, false, pos, List, [], ◌∷◌}
use Rattle.std.specs.Coded.{Coded, code_by, coded×, coded_ℕ, coded_list}
use Rattle.std.proofs.Common.{Less}
use Rattle.std.specs.Int.{IsGcd}
use Rattle.ct_algebra.specs.Polynomial.{Polynomial, poly_code, polys, polys_domain, times, degree}
use Rattle.ct_algebra.specs.Substitution.{number}
use Rattle.ct_algebra.specs.Field.{K}
use Rattle.ct_algebra.specs.FieldLaws.{embedded}
use Rattle.ct_algebra.specs.Division.{over}
use Rattle.ct_checked.specs.Limits.{largest_degree, largest_norm}
use Rattle.ct_poly.specs.Content.{content, is_negative}
use Rattle.ct_poly.specs.Order.{poly_cmp}
use Rattle.ct_frac.specs.declared.factor.Factor.{Factor}

pub record Denominator : Type 0 where
  pub whole : ℕ
  pub factors : List Factor

pub record Written : Type 0 where
  pub numerator : Polynomial
  pub den : Denominator

-- their codes, for types that are seen as these
abbrev pub factor_code : Coded Factor
factor_code = code_by (Polynomial × ℕ) (coded× poly_code coded_ℕ) (λ f. (f.poly, f.exp)) (λ p. record { poly = p.0; exp = p.1 }) (λ _. refl)

abbrev pub denominator_code : Coded Denominator
denominator_code =
    code_by (ℕ × List Factor) (coded× coded_ℕ (coded_list factor_code)) (λ d. (d.whole, d.factors))
    (λ p. record { whole = p.0; factors = p.1 }) (λ _. refl)

abbrev pub written_code : Coded Written
written_code =
    code_by (Polynomial × Denominator) (coded× poly_code denominator_code) (λ w. (w.numerator, w.den))
    (λ p. record { numerator = p.0; den = p.1 }) (λ _. refl)

-- ---- which are written forms

pub record IsBase (p : Polynomial) : Type 0 where
  pub not_constant : 0 < degree p
  pub primitive : content p ≡ 1
  pub positive : is_negative p ≡ false

pub record IsFactor (f : Factor) : Type 0 where
  pub base : IsBase f.poly
  pub some : 0 < f.exp
  pub few : f.exp ≤ largest_degree

-- the polynomial is less than those of all these factors
abbrev pub IsBelow : Polynomial → List Factor → Type 0
IsBelow p [] = Unit {0}
IsBelow p (g ∷ gs) = (poly_cmp p g.poly ≡ Less) × IsBelow p gs

-- factors whose polynomials rise
abbrev pub AreFactors : List Factor → Type 0
AreFactors [] = Unit {0}
AreFactors (f ∷ fs) = IsFactor f × (IsBelow f.poly fs × AreFactors fs)

pub record IsDenominator (d : Denominator) : Type 0 where
  pub positive : 0 < d.whole
  pub within : d.whole ≤ largest_norm
  pub factors : AreFactors d.factors

abbrev pub IsOne : Denominator → Type 0
IsOne d = (d.whole ≡ 1) × (d.factors ≡ [])

pub record IsWritten (w : Written) : Type 0 where
  pub den : IsDenominator w.den
  pub lowest : IsGcd (content w.numerator) w.den.whole 1
  pub zero_over_one : w.numerator ≡ polys.zero → IsOne w.den

-- ---- what they stand for

abbrev pub power : Polynomial → ℕ → Polynomial
power p zero = polys.one
power p (suc n) = times p (power p n)

abbrev pub product_of_factors : List Factor → Polynomial
product_of_factors [] = polys.one
product_of_factors (f ∷ fs) = times (power f.poly f.exp) (product_of_factors fs)

unfoldable pub multiplied_out : Denominator → Polynomial
multiplied_out d = times (number (pos d.whole)) (product_of_factors d.factors)

-- a polynomial over another, as a value
unfoldable pub value_over : Polynomial → Polynomial → K
value_over n d = over polys polys_domain (embedded n) (embedded d)

unfoldable pub value : Written → K
value w = value_over w.numerator (multiplied_out w.den)

-- ---- the plainest

abbrev pub one_den : Denominator
one_den = record { whole = 1; factors = [] }

abbrev pub whole_polynomial : Polynomial → Written
whole_polynomial p = record { numerator = p; den = one_den }
