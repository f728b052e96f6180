-- Slimming: candidates that divide every entry of a row are divided out (this project's own rules).
--     divided_out f n r         r over f, as long as f divides every entry, at most n times
--     row_degree r              the sum of the degrees of all entries: no polynomial that isn't constant divides a row more often
--     without r f               r once the candidate f is divided out; a constant is not
--     without_entry r c         the candidate is the primitive form of an entry, as it is in r
--     slimmed extra r           the candidates are those of `extra`, and then the entries from left to right
-- So whole numbers are never divided out, and the primitive form of a zero entry is no candidate, since 0 is a constant.
-- A division that overflows counts as one that does not go.
--     IsOver r s                r is a nonzero factor times s
--     SlimmingDividesOut        the law: a candidate that isn't constant divides what is left of a nonzero row no more, and what was
--                               divided out is a factor of all entries
use Rattle.std.specs.Prelude.{◌≡◌, ◌≢◌, ℕ, zero, suc, ◌+◌, ◌<◌, Ok, Err, List, [], ◌∷◌, cond, eqb, length}
use Rattle.std.specs.List.{fold, range_with_len}
use Rattle.std.proofs.Common.{Result}
use Rattle.ct_algebra.specs.Polynomial.{Polynomial, polys, degree}
use Rattle.ct_poly.specs.Content.{primitive_form}
use Rattle.ct_linsolve.specs.Rows.{Row, entry, quotients}

-- ---- one candidate

abbrev pub on_quotients : Result Row (Unit {0}) → Row → (Row → Row) → Row
on_quotients (Ok q) r f = f q
on_quotients (Err e) r f = r

abbrev pub divided_out : Polynomial → ℕ → Row → Row
divided_out f zero r = r
divided_out f (suc n) r = on_quotients (quotients f r) r (divided_out f n)

abbrev pub row_degree : Row → ℕ
row_degree [] = 0
row_degree (x ∷ xs) = degree x + row_degree xs

unfoldable pub without : Row → Polynomial → Row
without r f = cond (eqb (degree f) 0) r (divided_out f (row_degree r) r)

-- ---- all candidates

abbrev pub without_entry : Row → ℕ → Row
without_entry r c = without r (primitive_form (entry r c))

unfoldable pub slimmed : List Polynomial → Row → Row
slimmed extra r = fold without_entry (fold without r extra) (range_with_len 0 (length r))

-- ---- what is divided out

abbrev pub IsNonzero : Row → Type 0
IsNonzero r = (c : ℕ) × (entry r c ≢ polys.zero)

pub record IsOver (r s : Row) : Type 0 where
  pub factor : Polynomial
  pub nonzero : factor ≢ polys.zero
  pub lengths : length s ≡ length r
  pub entries : (c : ℕ) → entry r c ≡ polys.◌*◌ factor (entry s c)

pub record SlimmingDividesOut : Type 0 where
  pub goes_out : (r : Row) (f : Polynomial) → IsNonzero r → 0 < degree f → quotients f (without r f) ≡ Err tt
  pub is_factor : (extra : List Polynomial) (r : Row) → IsOver r (slimmed extra r)
