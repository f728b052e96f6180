-- The null vector of the free column, in checked arithmetic (this project's own rules of division and overflow).
--     null_ratio left ps f c    numerator and denominator of the entry of a column: 1 over 1 at the free column f; −row[f] over row[c]
--                               at the column c of a pivot with this row; 0 over 1 elsewhere
--     null_fractions width left ps f      their quotients, as written fractions, columns in order
--     checked_null_entries      these, cleared to their common denominator
--     checked_null_vector       and slimmed
--     HavePivots, AreKnown      what its loop asks for, and what it knows of the fractions so far
--     IsNullVectorOf            what it is to both sides of an elimination
-- Quotients and slimming refuse nothing; the common denominator and products in clearing overflow.
use Rattle.std.specs.Prelude.{◌≡◌, ◌≢◌, ℕ, ◌<◌, None, Some, Ok, List, cond, eqb, length, map}
use Rattle.std.specs.List.{Contains, range_with_len}
use Rattle.std.proofs.Common.{Option}
use Rattle.ct_algebra.specs.FreeOf.{IsFreeOf}
use Rattle.ct_algebra.specs.Names.{Name}
use Rattle.ct_algebra.specs.Polynomial.{Polynomial, polys}
use Rattle.ct_checked.specs.Checked.{Checked, ◌>>=◌}
use Rattle.ct_checked.specs.Traversal.{checked_each}
use Rattle.ct_frac.specs.Arithmetic.{checked_common, checked_cleared}
use Rattle.ct_frac.specs.Normal.{quotient_of}
use Rattle.ct_frac.specs.Written.{Written, IsWritten, value, value_over, one_den}
use Rattle.ct_telescoping.specs.Echelon.{Pivot}
use Rattle.ct_telescoping.specs.Elimination.{matrix_of, matrix_times}
use Rattle.ct_telescoping.specs.EntriesFree.{EntriesAreFree}
use Rattle.ct_linsolve.specs.EchelonForm.{IsGiven}
use Rattle.ct_linsolve.specs.Elimination.{Eliminated}
use Rattle.ct_linsolve.specs.Refuting.{pivot_of}
use Rattle.ct_linsolve.specs.Rows.{Row, entry, row_at}
use Rattle.ct_linsolve.specs.Slimming.{slimmed}

-- ---- the steps

abbrev pub pivot_ratio : List Row → ℕ → Option Pivot → Polynomial × Polynomial
pivot_ratio left f None = (polys.zero, polys.one)
pivot_ratio left f (Some p) = (polys.neg (entry (row_at left p.row) f), entry (row_at left p.row) p.column)

abbrev pub null_ratio : List Row → List Pivot → ℕ → ℕ → Polynomial × Polynomial
null_ratio left ps f c = cond (eqb c f) (polys.one, polys.one) (pivot_ratio left f (pivot_of c ps))

abbrev pub null_fraction : List Row → List Pivot → ℕ → ℕ → Written
null_fraction left ps f c = quotient_of (null_ratio left ps f c).0 (null_ratio left ps f c).1

abbrev pub null_fractions : ℕ → List Row → List Pivot → ℕ → List Written
null_fractions width left ps f = map (null_fraction left ps f) (range_with_len 0 width)

abbrev pub all_cleared : List Written → Checked Row
all_cleared ws = do
  d ← checked_common one_den ws
  checked_each (λ w. checked_cleared w d) ws

unfoldable pub checked_null_vector : ℕ → List Row → List Pivot → ℕ → List Polynomial → Checked Row
checked_null_vector width left ps f extra = do
  x ← all_cleared (null_fractions width left ps f)
  Ok (slimmed extra x)

-- ---- what its loop knows

-- no pivot's entry is zero
abbrev pub HavePivots : List Row → List Pivot → Type 0
HavePivots left ps = (p : Pivot) → Contains ps p → entry (row_at left p.row) p.column ≢ polys.zero

-- the fractions of the first columns are written forms of their values
pub record IsKnown (left : List Row) (ps : List Pivot) (f c : ℕ) : Type 0 where
  pub written : IsWritten (null_fraction left ps f c)
  pub value_is : value (null_fraction left ps f c) ≡ value_over (null_ratio left ps f c).0 (null_ratio left ps f c).1

abbrev pub AreKnown : List Row → List Pivot → ℕ → ℕ → Type 0
AreKnown left ps f k = (c : ℕ) → c < k → IsKnown left ps f c

-- ---- what it is

pub record IsNullVectorOf (width : ℕ) (e : Eliminated) (f : ℕ) (x : Row) : Type 0 where
  pub long : length x ≡ width
  pub nonzero : entry x f ≢ polys.zero
  pub of_left : (r : ℕ) → r < length e.left → matrix_times polys (length e.left) width (matrix_of polys.zero e.left) (entry x) r ≡ polys.zero
  pub of_matrix :
      (A : ℕ → ℕ → Polynomial) → IsGiven width A e → (r : ℕ) → r < length e.left →
      matrix_times polys (length e.left) width A (entry x) r ≡ polys.zero
  -- a name in no entry of the left side is in no entry of x
  pub names :
      (j : Name) → EntriesAreFree j (length e.left) width (matrix_of polys.zero e.left) → (c : ℕ) → c < width → IsFreeOf j (entry x c)
