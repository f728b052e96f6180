-- What a finished elimination shows. Main lemmas: `refutes`, where no column is free: the right sides of the pivots' rows
-- isolate the telescoper's columns; and `null_vector`, where one is: a null vector of the left side is one of the matrix.
-- A pivot's row is zero at every column before the pivot's, at every other pivot's column, and so, from `first` on,
-- at every column but its own.
use Rattle.ct_telescoping.proofs.Base.{◌≡◌, ◌≢◌, ℕ, ◌<◌, ◌≤◌, List, ◌⊎◌, Contains, sym, ◌∙◌, ap, arith, inl, inr, Ring, mul_zero, zero_mul}
use Rattle.ct_telescoping.proofs.Base.{mul_left_comm, IsDomain, zero_factor, sum_below, sum_below-same, mul-sum_below}
use Rattle.ct_telescoping.specs.Laws.SumsBelow.{sum_below-zero, sum_below-two}
use Rattle.ct_telescoping.specs.Elimination.{State, row_times, matrix_times}
use Rattle.ct_telescoping.specs.Echelon.{Pivot, IsUnused, HasPivot, IsEchelon, IsFree, IsNullVector}
use Rattle.ct_telescoping.specs.Refutation.{Refutes}
use Rattle.ct_telescoping.proofs.PivotLists.{one_of_row, row_used, column_used}
use Rattle.ct_telescoping.proofs.RowsKept.{null_of_left}

module _ {A : Type 0} (R : Ring A) (D : IsDomain R) (n m : ℕ) (matrix : ℕ → ℕ → A) where
  open R use {zero, ◌+◌, ◌*◌}

  infixl 60 ◌+◌
  infixl 70 ◌*◌
  -- a pivot's row is zero at another pivot's column
  zero_at_other :
      (first done : ℕ) (s : State A) (ps : List Pivot) → IsEchelon R n m matrix first done s ps →
      (p q : Pivot) → Contains ps p → Contains ps q → p.column ≢ q.column → s.left p.row q.column ≡ zero
  zero_at_other first done s ps echelon p q found other apart =
      (echelon.cleared q other).elsewhere p.row (echelon.cleared p found).row_in_range
      (λ same. apart (ap (λ x. x.column) (one_of_row ps echelon.in_order p q found other same)))

  -- where no column is free, the row of a telescoper's column is zero at all others
  pub zero_elsewhere :
      (first : ℕ) (s : State A) (ps : List Pivot) → IsEchelon R n m matrix first m s ps →
      (p : Pivot) → Contains ps p → first ≤ p.column → (c : ℕ) → c < m → c ≢ p.column → s.left p.row c ≡ zero
  zero_elsewhere first s ps echelon p found from c within other = by (ordered c p.column)
    where
      ordered : (x y : ℕ) → (x < y) ⊎ (y ≤ x)
      ordered x y = grind arith

      by : (c < p.column) ⊎ (p.column ≤ c) → s.left p.row c ≡ zero
      by (inl before) = echelon.staggered p found c before
      by (inr after) =
          let has = echelon.chosen c (omega (arith, from, after)) within in
          zero_at_other first m s ps echelon p (record { row = has.row; column = c }) found has.stands (λ same. other (sym same))

  -- the rows us are the right sides of the pivots' rows
  pub refutes :
      (first : ℕ) (s : State A) (ps : List Pivot) → IsEchelon R n m matrix first m s ps →
      (us : ℕ → ℕ → A) →
      ((p : Pivot) → Contains ps p → first ≤ p.column → (k : ℕ) → k < n → us p.column k ≡ s.right p.row k) →
      Refutes R n m matrix (λ g. first ≤ g) us
  refutes first s ps echelon us taken g within from = record {
    nonzero = λ none. (echelon.cleared p has.stands).nonzero (sym (given g within) ∙ none);
    elsewhere = λ c below other. given c below ∙ zero_elsewhere first s ps echelon p has.stands from c below other;
  }
    where
      has : HasPivot g ps
      has = echelon.chosen g from within

      p : Pivot
      p = record { row = has.row; column = g }

      given : (c : ℕ) → c < m → row_times R n m matrix (us g) c ≡ s.left p.row c
      given c below =
          sum_below-same R.group n (λ k. us g k * matrix k c) (λ k. s.right p.row k * matrix k c)
          (λ k small. ap (λ u. u * matrix k c) (taken p has.stands from k small))
          ∙ echelon.keeps.gives p.row (echelon.cleared p has.stands).row_in_range c below

  pub null_vector :
      (first f : ℕ) (s : State A) (ps : List Pivot) → IsFree R n m matrix first f s ps →
      (x : ℕ → A) → IsNullVector R n m matrix f s ps x →
      (k : ℕ) → k < n → matrix_times R n m matrix x k ≡ zero
  null_vector first f s ps free x null =
      null_of_left R D n m matrix s free.echelon.keeps x (λ r below. by r below (row_used r ps))
    where
      before_free : (c : ℕ) → HasPivot c ps → c < f
      before_free c has = free.echelon.below (record { row = has.row; column = c }) has.stands

      -- the row of a pivot
      used : (p : Pivot) → Contains ps p → sum_below R.group m (λ c. s.left p.row c * x c) ≡ zero
      used p found =
          sum_below-two R.group m p.column f (λ c. s.left p.row c * x c) (free.echelon.cleared p found).column_in_range free.in_range
          (λ same. absurd (omega (arith, same, free.echelon.below p found)))
          (λ c within other apart. each c within other apart (column_used c ps))
          ∙ null.cancels p found
        where
          each : (c : ℕ) → c < m → c ≢ p.column → c ≢ f → HasPivot c ps ⊎ (¬ HasPivot c ps) → s.left p.row c * x c ≡ zero
          each c within other apart (inl has) =
              ap (λ u. u * x c) (zero_at_other first f s ps free.echelon p
              (record { row = has.row; column = c }) found has.stands (λ same. other (sym same)))
              ∙ zero_mul R (x c)
          each c within other apart (inr none) = ap (λ u. s.left p.row c * u) (null.others c within apart none) ∙ mul_zero R _

      -- a row without a pivot
      unused : (r : ℕ) → r < n → IsUnused r ps → sum_below R.group m (λ c. s.left r c * x c) ≡ zero
      unused r below none = sum_below-zero R.group m (λ c. s.left r c * x c) (λ c within. each c within (ordered c f))
        where
          ordered : (c f : ℕ) → (c < f) ⊎ ((c ≡ f) ⊎ (f < c))
          ordered c f = grind arith

          each : (c : ℕ) → c < m → (c < f) ⊎ ((c ≡ f) ⊎ (f < c)) → s.left r c * x c ≡ zero
          each c within (inl early) = ap (λ u. u * x c) (free.echelon.unused_zero r below none c early) ∙ zero_mul R (x c)
          each c within (inr (inl same)) =
              ap (λ u. u * x c) (ap (s.left r) same ∙ free.zero_there r below none) ∙ zero_mul R (x c)
          each c within (inr (inr late)) =
              ap (λ u. s.left r c * u) (null.others c within (λ same. absurd (omega (arith, late, same)))
              (λ has. absurd (omega (arith, late, before_free c has))))
              ∙ mul_zero R _

      by : (r : ℕ) → r < n → ((p : Pivot) × Contains ps p × (r ≡ p.row)) ⊎ IsUnused r ps
          → sum_below R.group m (λ c. s.left r c * x c) ≡ zero
      by r below (inl (p, found, same)) = ap (λ k. sum_below R.group m (λ c. s.left k c * x c)) same ∙ used p found
      by r below (inr none) = unused r below none

  -- a null vector with a nonzero factor left out of all entries
  pub null_divided :
      (q : A) (x y : ℕ → A) → q ≢ zero → ((c : ℕ) → c < m → x c ≡ q * y c) →
      ((k : ℕ) → k < n → matrix_times R n m matrix x k ≡ zero) → (k : ℕ) → k < n → matrix_times R n m matrix y k ≡ zero
  null_divided q x y nonzero is null k below =
      zero_factor R D q (matrix_times R n m matrix y k) nonzero
      (sym (mul-sum_below R m q (λ c. matrix k c * y c))
      ∙ sum_below-same R.group m _ _ (λ c l. mul_left_comm R q (matrix k c) (y c) ∙ ap (λ z. matrix k c * z) (sym (is c l)))
      ∙ null k below)
