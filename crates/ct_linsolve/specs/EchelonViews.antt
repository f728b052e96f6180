-- What the code's own types stand for, and what clauses say of them.
use Rattle.std.specs.Prelude.{ℕ, ◌≤◌, List, length}
use Rattle.ct_algebra.specs.Polynomial.{Polynomial, polys}
use Rattle.ct_checked.specs.Checked.{Checked}
use Rattle.ct_poly.specs.declared.matrix.Matrix.{Matrix}
use Rattle.ct_telescoping.specs.Elimination.{matrix_of}
use Rattle.ct_telescoping.specs.Refutation.{Refutes}
use Rattle.ct_linsolve.specs.EchelonForm.{AreProducts, IsEchelonOf, IsGiven}
use Rattle.ct_linsolve.specs.Elimination.{Eliminated, Working}
use Rattle.ct_linsolve.specs.NullVector.{checked_null_vector}
use Rattle.ct_linsolve.specs.Refuting.{column_row, refuting_rows}
use Rattle.ct_linsolve.specs.Rows.{Row}
use Rattle.ct_linsolve.specs.Views.{rows_of, pivots_of, eliminated}
use Rattle.ct_linsolve.specs.declared.echelon.Echelon.{Echelon}
use Rattle.ct_linsolve.specs.declared.working.Working.{Working as WorkingCode}

abbrev pub working_of : WorkingCode → Working
working_of s = record { rows = rows_of s.rows.items; pivots = pivots_of s.pivots.items; prev = s.prev; free = s.free }

abbrev pub eliminated_of : Echelon → Eliminated
eliminated_of e = eliminated e.left.items e.right.items e.pivots.items e.free

abbrev pub entries_of : Matrix → ℕ → ℕ → Polynomial
entries_of A = matrix_of polys.zero (rows_of A.rows.items)

abbrev pub IsEchelonOfMatrix : Matrix → Echelon → Type 0
IsEchelonOfMatrix A e = IsEchelonOf (length A.rows.items) A.certs A.width (entries_of A) (eliminated_of e)

abbrev pub AreProductsOf : Matrix → List Row → List Row → Type 0
AreProductsOf A us vs = AreProducts (length A.rows.items) A.width (entries_of A) us vs

abbrev pub refuting_rows_of : Echelon → List Row
refuting_rows_of e = refuting_rows e.certs e.width (rows_of e.right.items) (pivots_of e.pivots.items)

-- the columns past those of certificates, of each matrix that the right side makes the left side of
abbrev pub RefuteColumns : Echelon → List Row → Type 0
RefuteColumns e rows =
    (A : ℕ → ℕ → Polynomial) → IsGiven e.width A (eliminated_of e) →
    Refutes polys (length e.left.items) e.width A (λ c. e.certs ≤ c) (column_row rows e.certs)

abbrev pub null_vector_of : Echelon → List Polynomial → ℕ → Checked Row
null_vector_of e extra f = checked_null_vector e.width (rows_of e.left.items) (pivots_of e.pivots.items) f extra
