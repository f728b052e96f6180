-- Sums and products of written fractions in checked arithmetic, and common denominators (this project's own rules).
--     joined_greatest f fs   a factor joins a rising list: of two exponents the greater stays
--     checked_joined f fs    the same, where two exponents are added
--     checked_common d ws    d, and then each denominator in order, cleared to one: the least common multiple
--     DividesFactors d e     d divides e factor by factor
--     checked_cleared w d    the numerator of w over d: times the quotient of the whole numbers, then each factor of d as
--                            often as the exponents differ, one factor at a time
--     checked_fraction_sum, checked_fraction_difference, checked_fraction_product, negative   of written fractions
--     checked_same_value     whether the difference is zero
-- The first step that overflows decides the kind. Each has the value of the field operation: `SumLaws`.
use Rattle.std.specs.Prelude.{ℕ, zero, suc, ◌+◌, ◌-◌, ◌*◌, ◌/◌, ◌≤◌, max, pos, Bool, ◌||◌, cond, ltb, Ok, None, List, [], ◌∷◌}
use Rattle.std.specs.Int.{◌∣◌}
use Rattle.ct_algebra.specs.Polynomial.{Polynomial, polys}
use Rattle.ct_algebra.specs.Substitution.{number}
use Rattle.ct_algebra.specs.Terms.{by_order}
use Rattle.ct_checked.specs.Checked.{Checked, verdict, ◌>>=◌}
use Rattle.ct_checked.specs.Limits.{largest_degree}
use Rattle.ct_checked.specs.declared.fault.Kind.TheVariants.{Degree}
use Rattle.ct_poly.specs.Measures.{checked_plus, checked_minus, checked_times, broken}
use Rattle.ct_poly.specs.Order.{poly_cmp}
use Rattle.ct_poly.specs.Wholes.{checked_whole}
use Rattle.ct_frac.specs.declared.factor.Factor.{Factor}
use Rattle.ct_int.specs.Divisors.{least_common}
use Rattle.ct_frac.specs.Normal.{normal}
use Rattle.ct_frac.specs.Written.{Denominator, Written, one_den, whole_polynomial}

-- ---- lists of factors

-- the exponent of a polynomial in a list; 0 where it does not stand there
abbrev pub exponent_in : Polynomial → List Factor → ℕ
exponent_in p [] = 0
exponent_in p (g ∷ gs) = by_order (poly_cmp g.poly p) (exponent_in p gs) g.exp (exponent_in p gs)

abbrev pub joined_greatest : Factor → List Factor → List Factor
joined_greatest f [] = f ∷ []
joined_greatest f (g ∷ gs) =
    by_order (poly_cmp g.poly f.poly) (g ∷ joined_greatest f gs) (record { poly = g.poly; exp = max g.exp f.exp } ∷ gs) (f ∷ g ∷ gs)

-- each in order joins a rising list
abbrev pub all_greatest : List Factor → List Factor → List Factor
all_greatest done [] = done
all_greatest done (f ∷ fs) = all_greatest (joined_greatest f done) fs

-- an exponent, unless it passes the limit
unfoldable pub checked_exponent : ℕ → Checked ℕ
checked_exponent e = verdict (broken (ltb largest_degree e) Degree None) e

abbrev pub checked_joined : Factor → List Factor → Checked (List Factor)
checked_joined f [] = Ok (f ∷ [])
checked_joined f (g ∷ gs) =
    by_order (poly_cmp g.poly f.poly)
    (checked_joined f gs >>= (λ hs. Ok (g ∷ hs)))
    (checked_exponent (g.exp + f.exp) >>= (λ e. Ok (record { poly = g.poly; exp = e } ∷ gs)))
    (Ok (f ∷ g ∷ gs))

abbrev pub checked_joined_all : List Factor → List Factor → Checked (List Factor)
checked_joined_all done [] = Ok done
checked_joined_all done (f ∷ fs) = checked_joined f done >>= (λ joined. checked_joined_all joined fs)

-- ---- common denominators

unfoldable pub checked_wider : Denominator → Denominator → Checked Denominator
checked_wider d e = checked_whole (least_common d.whole e.whole) >>= (λ whole. Ok (record { whole = whole; factors = all_greatest d.factors e.factors }))

abbrev pub checked_common : Denominator → List Written → Checked Denominator
checked_common d [] = Ok d
checked_common d (w ∷ ws) = checked_wider d w.den >>= (λ e. checked_common e ws)

-- no exponent is above that of the other list
abbrev pub EachIsIn : List Factor → List Factor → Type 0
EachIsIn [] gs = Unit {0}
EachIsIn (f ∷ fs) gs = (f.exp ≤ exponent_in f.poly gs) × EachIsIn fs gs

pub record DividesFactors (d e : Denominator) : Type 0 where
  pub whole : d.whole ∣ e.whole
  pub factors : EachIsIn d.factors e.factors

-- n times the power of f, one factor at a time
abbrev pub checked_often : Polynomial → ℕ → Polynomial → Checked Polynomial
checked_often f zero n = Ok n
checked_often f (suc k) n = checked_times n f >>= (λ m. checked_often f k m)

-- n times each factor of gs in order, as often as its exponent is above that in fs
abbrev pub checked_spread : Polynomial → List Factor → List Factor → Checked Polynomial
checked_spread n fs [] = Ok n
checked_spread n fs (g ∷ gs) = checked_often g.poly (g.exp - exponent_in g.poly fs) n >>= (λ m. checked_spread m fs gs)

unfoldable pub checked_cleared : Written → Denominator → Checked Polynomial
checked_cleared w d =
    checked_times w.numerator (number (pos (d.whole / w.den.whole))) >>= (λ n. checked_spread n w.den.factors d.factors)

-- ---- the operations

unfoldable pub checked_fraction_sum : Written → Written → Checked Written
checked_fraction_sum x y = do
  d ← checked_common one_den (x ∷ y ∷ [])
  mine ← checked_cleared x d
  its ← checked_cleared y d
  n ← checked_plus mine its
  Ok (normal n d)

unfoldable pub checked_fraction_difference : Written → Written → Checked Written
checked_fraction_difference x y = do
  d ← checked_common one_den (x ∷ y ∷ [])
  mine ← checked_cleared x d
  its ← checked_cleared y d
  n ← checked_minus mine its
  Ok (normal n d)

unfoldable pub checked_full_product : Written → Written → Checked Written
checked_full_product x y = do
  n ← checked_times x.numerator y.numerator
  whole ← checked_whole (x.den.whole * y.den.whole)
  factors ← checked_joined_all x.den.factors y.den.factors
  Ok (normal n (record { whole = whole; factors = factors }))

abbrev pub has_zero : Written → Written → Bool
has_zero x y = polys.is_zero x.numerator || polys.is_zero y.numerator

unfoldable pub checked_fraction_product : Written → Written → Checked Written
checked_fraction_product x y = cond (has_zero x y) (Ok (whole_polynomial polys.zero)) (checked_full_product x y)

abbrev pub negative : Written → Written
negative w = record { numerator = polys.neg w.numerator; den = w.den }

unfoldable pub checked_same_value : Written → Written → Checked Bool
checked_same_value x y = checked_fraction_difference x y >>= (λ w. Ok (polys.is_zero w.numerator))
