-- What the code's records and searches stand for.
--     lowered_of r     a numerator and factors, as `lowered` of Normal has them
--     find_place k p fs   where p stands in a rising list, with which exponent, or before which place it belongs, places counted from k
--     exponent_set fs i e   the list with another exponent at a place
--     place_in p fs    how many factors from the first on are less than p
use Rattle.std.specs.Prelude.{ℕ, zero, suc, ◌+◌, List, [], ◌∷◌}
use Rattle.ct_algebra.specs.Polynomial.{Polynomial}
use Rattle.ct_algebra.specs.Terms.{by_order}
use Rattle.ct_poly.specs.Order.{poly_cmp}
use Rattle.ct_frac.specs.declared.factor.Factor.{Factor}
use Rattle.ct_frac.specs.declared.insertion.Place.{Place}
use Rattle.ct_frac.specs.declared.insertion.Place.TheVariants.{At, Before}
use Rattle.ct_frac.specs.declared.normal.Rest.{Rest}
use Rattle.ct_frac.specs.Normal.{Lowered}

abbrev pub lowered_of : Rest → Lowered
lowered_of r = record { numerator = r.numerator; factors = r.factors.items }

abbrev pub place_in : Polynomial → List Factor → ℕ
place_in p [] = 0
place_in p (g ∷ gs) = by_order (poly_cmp g.poly p) (suc (place_in p gs)) 0 0

abbrev pub find_place : ℕ → Polynomial → List Factor → Place
find_place k p [] = Before k
find_place k p (g ∷ gs) = by_order (poly_cmp g.poly p) (find_place (k + 1) p gs) (At k g.exp) (Before k)

abbrev pub exponent_set : List Factor → ℕ → ℕ → List Factor
exponent_set [] i e = []
exponent_set (g ∷ gs) zero e = record { poly = g.poly; exp = e } ∷ gs
exponent_set (g ∷ gs) (suc i) e = g ∷ exponent_set gs i e
