-- The laws of written fractions that no single call tells.
--     EachIsWritten ws, EachDivides ws d     of a list: written forms; whose denominators divide d factor by factor
--     WrittenValueIsAQuotient                the value of a written fraction times its denominator is its numerator
--     CommonDenominatorIsDivided             each denominator of a list divides the common one, which is in written form
--     CommonDenominatorIsLeast               the common one divides whatever they all divide
--     IsDividedOut f n e left                n has lost as many factors f as the exponent e, and what is left has the exponent 0,
--                                            or no further quotient by f
--     FactorsAreDividedOut                   so does Normal with each factor
use Rattle.std.specs.Prelude.{◌≡◌, ℕ, ◌+◌, Ok, None, List, [], ◌∷◌, ◌⊎◌}
use Rattle.ct_algebra.specs.Field.{field}
use Rattle.ct_algebra.specs.FieldLaws.{embedded}
use Rattle.ct_algebra.specs.Polynomial.{Polynomial, times}
use Rattle.ct_poly.specs.Division.{quotient}
use Rattle.ct_frac.specs.declared.left.Left.{Left}
use Rattle.ct_frac.specs.Arithmetic.{DividesFactors, checked_common}
use Rattle.ct_frac.specs.Normal.{divided_out}
use Rattle.ct_frac.specs.Written.{Denominator, Written, IsDenominator, IsWritten, power, multiplied_out, value, one_den}

abbrev pub EachIsWritten : List Written → Type 0
EachIsWritten [] = Unit {0}
EachIsWritten (w ∷ ws) = IsWritten w × EachIsWritten ws

abbrev pub EachDivides : List Written → Denominator → Type 0
EachDivides [] d = Unit {0}
EachDivides (w ∷ ws) d = DividesFactors w.den d × EachDivides ws d

abbrev pub WrittenValueIsAQuotient : Type 0
WrittenValueIsAQuotient =
    (w : Written) → IsWritten w → field.◌*◌ (value w) (embedded (multiplied_out w.den)) ≡ embedded w.numerator

abbrev pub CommonDenominatorIsDivided : Type 0
CommonDenominatorIsDivided =
    (ws : List Written) (d : Denominator) → EachIsWritten ws → checked_common one_den ws ≡ Ok d → IsDenominator d × EachDivides ws d

abbrev pub CommonDenominatorIsLeast : Type 0
CommonDenominatorIsLeast =
    (ws : List Written) (d e : Denominator) → checked_common one_den ws ≡ Ok d → EachDivides ws e → DividesFactors d e

pub record IsDividedOut (f n : Polynomial) (e : ℕ) (left : Left) : Type 0 where
  pub lost : ℕ
  pub exponent_is : lost + left.exponent ≡ e
  pub numerator_is : n ≡ times left.numerator (power f lost)
  pub ended : (left.exponent ≡ 0) ⊎ (quotient left.numerator f ≡ None)

abbrev pub FactorsAreDividedOut : Type 0
FactorsAreDividedOut = (f n : Polynomial) (e : ℕ) → IsDividedOut f n e (divided_out f n e)
