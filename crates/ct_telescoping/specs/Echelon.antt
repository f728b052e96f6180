-- What elimination makes of the left side: pivots that stand alone in their columns, and zeros before them.
--     Pivot                     a row and the column that it was taken for
--     IsUnused r ps             r is the row of no pivot
--     HasPivot c ps             c is the column of a pivot
--     AreInOrder ps             the pivots' columns rise, and no row is that of two
--     IsCleared s p             the pivot's column has the pivot's row as its only nonzero row
--     IsStaggered s p           the pivot's row is zero at every column before the pivot's
--     IsEchelon first done      elimination has gone through the columns below `done`, of which those from `first` on all
--                               have pivots: rows without a pivot are zero at all these columns
--     IsElimination first free  it has gone through all columns, or up to the free column: the first from `first` on that
--                               gets no pivot
-- Columns below `first` are those of certificates; they may be passed over without a pivot. The others are those of the
-- telescoper. `IsEchelon` is the invariant of the loop over columns, `IsElimination` what its answer satisfies.
use Rattle.std.specs.Prelude.{◌≡◌, ℕ, ◌<◌, ◌≤◌, ◌≢◌, List, [], ◌∷◌, Option, None, Some}
use Rattle.std.specs.List.{Contains}
use Rattle.ct_algebra.specs.Ring.{Ring}
use Rattle.ct_telescoping.specs.Elimination.{State, KeepsMatrix}

pub record Pivot : Type 0 where
  pub row : ℕ
  pub column : ℕ

abbrev pub IsUnused : ℕ → List Pivot → Type 0
IsUnused r ps = (p : Pivot) → Contains ps p → r ≢ p.row

pub record HasPivot (c : ℕ) (ps : List Pivot) : Type 0 where
  pub row : ℕ
  pub stands : Contains ps (record { row = row; column = c })

abbrev pub AreInOrder : List Pivot → Type 0
AreInOrder [] = Unit {0}
AreInOrder (p ∷ ps) = ((q : Pivot) → Contains ps q → (p.column < q.column) × (p.row ≢ q.row)) × AreInOrder ps

module _ {A : Type 0} (R : Ring A) (n m : ℕ) (matrix : ℕ → ℕ → A) where
  pub record IsCleared (s : State A) (p : Pivot) : Type 0 where
    pub row_in_range : p.row < n
    pub column_in_range : p.column < m
    pub nonzero : s.left p.row p.column ≢ R.zero
    pub elsewhere : (r : ℕ) → r < n → r ≢ p.row → s.left r p.column ≡ R.zero

  abbrev pub IsStaggered : State A → Pivot → Type 0
  IsStaggered s p = (c : ℕ) → c < p.column → s.left p.row c ≡ R.zero

  pub record IsEchelon (first done : ℕ) (s : State A) (ps : List Pivot) : Type 0 where
    pub keeps : KeepsMatrix R n m matrix s
    pub below : (p : Pivot) → Contains ps p → p.column < done
    pub in_order : AreInOrder ps
    pub cleared : (p : Pivot) → Contains ps p → IsCleared s p
    pub staggered : (p : Pivot) → Contains ps p → IsStaggered s p
    pub unused_zero : (r : ℕ) → r < n → IsUnused r ps → (c : ℕ) → c < done → s.left r c ≡ R.zero
    pub chosen : (c : ℕ) → first ≤ c → c < done → HasPivot c ps

  -- the free column f, at which elimination ends
  pub record IsFree (first f : ℕ) (s : State A) (ps : List Pivot) : Type 0 where
    pub of_telescoper : first ≤ f
    pub in_range : f < m
    pub echelon : IsEchelon first f s ps
    pub zero_there : (r : ℕ) → r < n → IsUnused r ps → s.left r f ≡ R.zero

  abbrev pub IsElimination : ℕ → Option ℕ → State A → List Pivot → Type 0
  IsElimination first None s ps = IsEchelon first m s ps
  IsElimination first (Some f) s ps = IsFree first f s ps

  -- the vector is 1, or any nonzero value, at the free column, cancels it in each pivot's row, and is zero at all columns
  -- that are neither
  pub record IsNullVector (f : ℕ) (s : State A) (ps : List Pivot) (x : ℕ → A) : Type 0 where
    pub nonzero : x f ≢ R.zero
    pub cancels :
        (p : Pivot) → Contains ps p →
        R.◌+◌ (R.◌*◌ (s.left p.row p.column) (x p.column)) (R.◌*◌ (s.left p.row f) (x f)) ≡ R.zero
    pub others : (c : ℕ) → c < m → c ≢ f → ¬ HasPivot c ps → x c ≡ R.zero
