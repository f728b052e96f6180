-- Rows of polynomials, and how a row is divided.
--     Row                  the entries of a row
--     entry r c            the entry of a column; zero past the end of the row
--     row_at rows r        a row; empty past the last
--     quotients f r        the quotients of all entries by f, or a refusal where f does not divide one
--     over_divisor f r     the row over f, where f divides every entry; else the row
--     row_terms r          the terms of all entries
--     row_content r        the greatest whole number that divides all coefficients; 0 where all entries are zero
--     over_content r       the row over that number
-- A division that overflows counts as one that does not go.
use Rattle.std.specs.Prelude.{ℕ, Ok, Err, List, [], ◌++◌, ◌∷◌, cond, ltb, map, pos, get_or, ℤ}
use Rattle.std.specs.Option.{ok_or}
use Rattle.std.proofs.Common.{Result}
use Rattle.ct_algebra.specs.Monomial.{Mono, unit}
use Rattle.ct_algebra.specs.Polynomial.{Polynomial, polys, norm_of}
use Rattle.ct_checked.specs.Traversal.{checked_each}
use Rattle.ct_poly.specs.Content.{greatest_up_to, divided}
use Rattle.ct_poly.specs.Division.{quotient}

abbrev pub Row : Type 0
Row = List Polynomial

abbrev pub entry : Row → ℕ → Polynomial
entry r c = get_or r c polys.zero

abbrev pub row_at : List Row → ℕ → Row
row_at rows r = get_or rows r []

-- ---- a polynomial that divides every entry

abbrev pub quotient_or_none : Polynomial → Polynomial → Result Polynomial (Unit {0})
quotient_or_none f x = ok_or (quotient x f) tt

abbrev pub quotients : Polynomial → Row → Result Row (Unit {0})
quotients f r = checked_each (quotient_or_none f) r

abbrev pub or_kept : Row → Result Row (Unit {0}) → Row
or_kept r (Ok q) = q
or_kept r (Err e) = r

unfoldable pub over_divisor : Polynomial → Row → Row
over_divisor f r = or_kept r (quotients f r)

-- ---- the greatest whole number that divides all coefficients

abbrev pub row_terms : Row → List (Mono × ℤ)
row_terms [] = []
row_terms (x ∷ xs) = x.terms ++ row_terms xs

-- no divisor of a nonzero coefficient is above the sum of the absolute values
unfoldable pub row_content : Row → ℕ
row_content r = greatest_up_to (norm_of (row_terms r)) (row_terms r)

-- a row of zeros, whose content is 0, stays
abbrev pub over_number : ℕ → Row → Row
over_number g r = cond (ltb 1 g) (map (λ x. divided unit (pos g) x) r) r

unfoldable pub over_content : Row → Row
over_content r = over_number (row_content r) r
