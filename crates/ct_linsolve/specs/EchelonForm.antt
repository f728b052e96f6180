-- What elimination makes of a matrix, as values.
--     sides left right        both lists of rows, as matrices
--     IsEchelonOf             of the matrix A of `width` columns, of which the first `certs` are those of certificates: both sides
--                             have A's number of rows, and these are as long as they should be; right·A = left, right sends no vector
--                             but zero to zero, and the pivots and the free column are those of an elimination; the row of a pivot past
--                             the certificates is zero at every certificate's column; and a name in no entry of A is in no entry of
--                             either side
--     IsGiven                 right·A = left
--     AreProducts             rows times A are rows
--     IsEchelonForm           the same of some matrix: what the two sides, the pivots and the free column say by themselves
-- That the pivots and the free column are those of an elimination says: a pivot's column has the pivot's row as its only nonzero
-- row, rows without a pivot are zero at every column up to the free one, or at every column, and each column past the certificates
-- and before the free one has a pivot.
use Rattle.std.specs.Prelude.{◌≡◌, ℕ, ◌<◌, ◌≤◌, List, length}
use Rattle.std.specs.List.{All, Contains}
use Rattle.ct_algebra.specs.Names.{Name}
use Rattle.ct_algebra.specs.Polynomial.{Polynomial, polys}
use Rattle.ct_telescoping.specs.Echelon.{Pivot, IsElimination}
use Rattle.ct_telescoping.specs.Elimination.{State, Gives, matrix_of}
use Rattle.ct_telescoping.specs.EntriesFree.{EntriesAreFree}
use Rattle.ct_linsolve.specs.Elimination.{Eliminated}
use Rattle.ct_linsolve.specs.Rows.{Row}

abbrev pub sides : List Row → List Row → State Polynomial
sides left right = record { left = matrix_of polys.zero left; right = matrix_of polys.zero right }

pub record IsEchelonOf (n certs width : ℕ) (A : ℕ → ℕ → Polynomial) (e : Eliminated) : Type 0 where
  pub left_rows : length e.left ≡ n
  pub right_rows : length e.right ≡ n
  pub left_filled : All (λ row. length row ≡ width) e.left
  pub right_filled : All (λ row. length row ≡ n) e.right
  pub elimination : IsElimination polys n width A certs e.free (sides e.left e.right) e.pivots
  pub certificates_cleared :
      (p : Pivot) → Contains e.pivots p → certs ≤ p.column → (c : ℕ) → c < certs → matrix_of polys.zero e.left p.row c ≡ polys.zero
  pub names :
      (j : Name) → EntriesAreFree j n width A →
      EntriesAreFree j n width (matrix_of polys.zero e.left) × EntriesAreFree j n n (matrix_of polys.zero e.right)

abbrev pub IsEchelonForm : ℕ → ℕ → Eliminated → Type 0
IsEchelonForm certs width e = (A : ℕ → ℕ → Polynomial) × IsEchelonOf (length e.left) certs width A e

-- the right side times the matrix A is the left side
abbrev pub IsGiven : ℕ → (ℕ → ℕ → Polynomial) → Eliminated → Type 0
IsGiven width A e =
    (r : ℕ) → r < length e.left →
    Gives polys (length e.left) width A (matrix_of polys.zero e.right r) (matrix_of polys.zero e.left r)

-- each row of vs is the row of us there times the matrix A
pub record AreProducts (n width : ℕ) (A : ℕ → ℕ → Polynomial) (us vs : List Row) : Type 0 where
  pub lengths : length vs ≡ length us
  pub gives : (r : ℕ) → r < length us → Gives polys n width A (matrix_of polys.zero us r) (matrix_of polys.zero vs r)
