-- What the laws of elimination say; the functions of src/laws.rt prove them. Entries are polynomials.
--     EliminationGoesByColumns     the loop over columns: at its start, past a certificate's column without a pivot, and
--                                  after a pivot, the invariant holds; and a name in no entry of the matrix comes into none
--     FinishedEliminationDecides   where no column is free the pivots' rows refute; where one is, a null vector of the left
--                                  side is one of the matrix, and a name in no entry of the left side and not in its entry
--                                  at the free column is in none of its entries
use Rattle.std.specs.Prelude.{◌≡◌, ◌≢◌, ℕ, suc, ◌<◌, ◌≤◌, Option, None, Some, List, [], ◌∷◌, ◌++◌}
use Rattle.std.specs.List.{Contains}
use Rattle.ct_algebra.specs.Names.{Name}
use Rattle.ct_algebra.specs.Polynomial.{Polynomial, polys}
use Rattle.ct_algebra.specs.FreeOf.{IsFreeOf}
use Rattle.ct_telescoping.specs.Elimination.{State, Step, first_state, matrix_times}
use Rattle.ct_telescoping.specs.Echelon.{Pivot, IsUnused, IsEchelon, IsElimination, IsNullVector}
use Rattle.ct_telescoping.specs.EntriesFree.{EntriesAreFree}
use Rattle.ct_telescoping.specs.Refutation.{Refutes}

module _ (n m : ℕ) (matrix : ℕ → ℕ → Polynomial) where
  pub record GoesByColumns (first : ℕ) : Type 0 where
    pub starts : IsEchelon polys n m matrix first 0 (first_state polys n m matrix) []
    pub passes :
        (done : ℕ) (s : State Polynomial) (ps : List Pivot) → done < first →
        ((r : ℕ) → r < n → IsUnused r ps → s.left r done ≡ polys.zero) →
        IsEchelon polys n m matrix first done s ps → IsEchelon polys n m matrix first (suc done) s ps
    pub takes_pivot :
        (done : ℕ) (s t : State Polynomial) (q : ℕ) (ps : List Pivot) → IsUnused q ps →
        Step polys n m matrix s t q done → IsEchelon polys n m matrix first done s ps →
        IsEchelon polys n m matrix first (suc done) t (ps ++ record { row = q; column = done } ∷ [])
    pub names_at_start : (j : Name) → EntriesAreFree j n n (first_state polys n m matrix).right
    pub names_kept :
        (j : Name) (s t : State Polynomial) (q c : ℕ) → Step polys n m matrix s t q c →
        EntriesAreFree j n m s.left → EntriesAreFree j n n s.right →
        EntriesAreFree j n m t.left × EntriesAreFree j n n t.right

  pub record FinishedDecides (first : ℕ) (s : State Polynomial) (ps : List Pivot) : Type 0 where
    -- the row of a telescoper's pivot is zero at every certificate's column
    pub certificates_cleared :
        (free : Option ℕ) → IsElimination polys n m matrix first free s ps →
        (p : Pivot) → Contains ps p → first ≤ p.column → (c : ℕ) → c < first → s.left p.row c ≡ polys.zero
    -- us has the right sides of the rows of the telescoper's pivots
    pub refutes :
        IsElimination polys n m matrix first None s ps → (us : ℕ → ℕ → Polynomial) →
        ((p : Pivot) → Contains ps p → first ≤ p.column → (k : ℕ) → k < n → us p.column k ≡ s.right p.row k) →
        Refutes polys n m matrix (λ g. first ≤ g) us
    -- a free column has a null vector, in which is no name that is in no entry of the left side
    pub has_null :
        (f : ℕ) → IsElimination polys n m matrix first (Some f) s ps →
        (x : ℕ → Polynomial) × IsNullVector polys n m matrix f s ps x ×
        ((j : Name) → EntriesAreFree j n m s.left → IsFreeOf j (x f))
    pub annihilates :
        (f : ℕ) → IsElimination polys n m matrix first (Some f) s ps →
        (x : ℕ → Polynomial) → IsNullVector polys n m matrix f s ps x →
        (k : ℕ) → k < n → matrix_times polys n m matrix x k ≡ polys.zero
    -- also with a nonzero factor left out of all entries
    pub divided :
        (q : Polynomial) (x y : ℕ → Polynomial) → q ≢ polys.zero → ((c : ℕ) → c < m → x c ≡ polys.◌*◌ q (y c)) →
        ((k : ℕ) → k < n → matrix_times polys n m matrix x k ≡ polys.zero) →
        (k : ℕ) → k < n → matrix_times polys n m matrix y k ≡ polys.zero
    pub names_of_null :
        (j : Name) (f : ℕ) → IsElimination polys n m matrix first (Some f) s ps →
        (x : ℕ → Polynomial) → IsNullVector polys n m matrix f s ps x →
        EntriesAreFree j n m s.left → IsFreeOf j (x f) → (c : ℕ) → c < m → IsFreeOf j (x c)

abbrev pub EliminationGoesByColumns : Type 0
EliminationGoesByColumns = (n m : ℕ) (matrix : ℕ → ℕ → Polynomial) (first : ℕ) → GoesByColumns n m matrix first

abbrev pub FinishedEliminationDecides : Type 0
FinishedEliminationDecides =
    (n m : ℕ) (matrix : ℕ → ℕ → Polynomial) (first : ℕ) (s : State Polynomial) (ps : List Pivot) →
    FinishedDecides n m matrix first s ps
