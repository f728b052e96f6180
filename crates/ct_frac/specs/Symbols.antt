-- What a shift and a derivation make of written fractions in checked arithmetic (this project's own rules).
--     checked_sigma i w    the name i replaced by itself plus one in the numerator, then in each factor in order, which
--                          are sorted anew
--     with_name i fs       the factors that contain the name i
--     checked_delta i w    the derivative by the name i: with g the product of those factors, each taken once, and N the
--                          numerator, N'·g less (N·e)·f'·(g without f) for each of them, f with the exponent e; then
--                          their exponents rise by 1
-- σ of a derivation changes nothing and δ of a shift is zero: neither is computed here. The first step that overflows decides
-- the kind. Each has the value of σ or δ of the field: `ShiftedFactors`, `DerivedFractions`.
use Rattle.std.specs.Prelude.{◌+◌, pos, Bool, cond, ltb, Ok, List, [], ◌∷◌, ◌++◌}
use Rattle.std.specs.List.{list_any}
use Rattle.ct_algebra.specs.Monomial.{exp}
use Rattle.ct_algebra.specs.Names.{Name, place}
use Rattle.ct_algebra.specs.Polynomial.{Polynomial, polys}
use Rattle.ct_algebra.specs.Substitution.{number}
use Rattle.ct_checked.specs.Checked.{Checked, ◌>>=◌}
use Rattle.ct_poly.specs.Measures.{checked_minus, checked_times, checked_shifted, checked_derived}
use Rattle.ct_frac.specs.declared.factor.Factor.{Factor}
use Rattle.ct_frac.specs.Arithmetic.{checked_exponent}
use Rattle.ct_frac.specs.Normal.{inserted, normal}
use Rattle.ct_frac.specs.Written.{Written}

-- ---- shifts

abbrev pub checked_shifted_factors : Name → List Factor → List Factor → Checked (List Factor)
checked_shifted_factors i done [] = Ok done
checked_shifted_factors i done (f ∷ fs) =
    checked_shifted i 1 f.poly >>= (λ p. checked_shifted_factors i (inserted (record { poly = p; exp = f.exp }) done) fs)

unfoldable pub checked_sigma : Name → Written → Checked Written
checked_sigma i w = do
  n ← checked_shifted i 1 w.numerator
  factors ← checked_shifted_factors i [] w.den.factors
  Ok (record { numerator = n; den = record { whole = w.den.whole; factors = factors } })

-- ---- derivations

-- whether some term has the name
abbrev pub has_name : Name → Polynomial → Bool
has_name i p = list_any (λ e. ltb 0 (exp e.0 (place i))) p.terms

abbrev pub with_name : Name → List Factor → List Factor
with_name i [] = []
with_name i (f ∷ fs) = cond (has_name i f.poly) (f ∷ with_name i fs) (with_name i fs)

-- p times the polynomial of each factor in order, taken once
abbrev pub checked_once : Polynomial → List Factor → Checked Polynomial
checked_once p [] = Ok p
checked_once p (f ∷ fs) = checked_times p f.poly >>= (λ q. checked_once q fs)

-- (n·e)·f'·g, for the factor f with the exponent e, and g the product of all others
unfoldable pub checked_part : Name → Polynomial → Factor → List Factor → Checked Polynomial
checked_part i n f others = do
  derivative ← checked_derived i f.poly
  rest ← checked_once polys.one others
  often ← checked_times n (number (pos f.exp))
  part ← checked_times often derivative
  checked_times part rest

-- what is left of p without the part of each factor; `done` are the factors before
abbrev pub checked_without_parts : Name → Polynomial → Polynomial → List Factor → List Factor → Checked Polynomial
checked_without_parts i n p done [] = Ok p
checked_without_parts i n p done (f ∷ fs) =
    checked_part i n f (done ++ fs) >>= (λ part. checked_minus p part >>= (λ q. checked_without_parts i n q (done ++ f ∷ []) fs))

abbrev pub checked_raised : Name → List Factor → Checked (List Factor)
checked_raised i [] = Ok []
checked_raised i (f ∷ fs) =
    checked_exponent (f.exp + cond (has_name i f.poly) 1 0) >>= (λ e.
    checked_raised i fs >>= (λ gs. Ok (record { poly = f.poly; exp = e } ∷ gs)))

unfoldable pub checked_delta : Name → Written → Checked Written
checked_delta i w = do
  g ← checked_once polys.one (with_name i w.den.factors)
  derivative ← checked_derived i w.numerator
  start ← checked_times derivative g
  n ← checked_without_parts i w.numerator start [] (with_name i w.den.factors)
  factors ← checked_raised i w.den.factors
  Ok (normal n (record { whole = w.den.whole; factors = factors }))
