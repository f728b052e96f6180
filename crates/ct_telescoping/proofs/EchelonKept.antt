-- The loop over the columns keeps IsEchelon: main lemmas `IsEchelon-first`, `IsEchelon-passed` for a column that is passed
-- over and `IsEchelon-after` for one with a pivot.
-- A column that is zero in two rows stays zero in the row that a step makes of them; so what was zero before a pivot's
-- column stays zero, in unused rows and in the rows of older pivots.
use Rattle.ct_telescoping.proofs.Base.{◌≡◌, ◌≢◌, ℕ, suc, ◌<◌, ◌≤◌, List, [], ◌∷◌, ◌++◌, ◌⊎◌, Contains, sym, ◌∙◌, ap, ap₂, subst, arith, inl, inr}
use Rattle.ct_telescoping.proofs.Base.{eq-or-lt_of_le, Contains-append_left, Contains-push, Contains-push_cases, neg_zero, Ring, mul_zero, IsDomain}
use Rattle.ct_telescoping.proofs.Base.{zero_factor}
use Rattle.ct_telescoping.specs.Elimination.{State, Step, first_state}
use Rattle.ct_telescoping.specs.Echelon.{Pivot, IsUnused, HasPivot, IsCleared, IsStaggered, IsEchelon}
use Rattle.ct_telescoping.proofs.ListParts.{contains_none}
use Rattle.ct_telescoping.proofs.PivotLists.{in_order-push}
use Rattle.ct_telescoping.proofs.RowsKept.{KeepsMatrix-first, KeepsMatrix-after}
use native.Mathlib.Decide.{ℕ_discrete}

module _ {A : Type 0} (R : Ring A) (D : IsDomain R) (n m : ℕ) (matrix : ℕ → ℕ → A) where
  open R use {zero, ◌+◌, ◌*◌, neg}

  infixl 60 ◌+◌
  infixl 70 ◌*◌
  -- a column that is zero in a row and in the pivot's stays zero in the row
  pub zero-after :
      (s t : State A) (q p r c : ℕ) → Step R n m matrix s t q p → r < n → c < m →
      s.left r c ≡ zero → s.left q c ≡ zero → t.left r c ≡ zero
  zero-after s t q p r c step below within none pivot_none = by (ℕ_discrete r q)
    where
      by : Dec (r ≡ q) → t.left r c ≡ zero
      by (yes same) = ap (λ k. t.left k c) same ∙ step.left_kept c within ∙ pivot_none
      by (no other) = let change = step.others r below other in
          zero_factor R D change.factor (t.left r c) change.factor_nonzero
          (sym (change.left_is c within)
          ∙ ap₂ (λ x y. s.left q p * x + neg (s.left r p * y)) none pivot_none
          ∙ ap₂ (λ x y. x + neg y) (mul_zero R _) (mul_zero R _) ∙ ap (λ z. zero + z) (neg_zero R.group) ∙ R.add_zero zero)

  -- an older pivot stays alone in its column
  still_cleared :
      (s t : State A) (q c : ℕ) (p : Pivot) → Step R n m matrix s t q c → q ≢ p.row → IsCleared R n m matrix s p →
      IsCleared R n m matrix t p
  still_cleared s t q c p step apart old = record {
    row_in_range = old.row_in_range;
    column_in_range = old.column_in_range;
    nonzero = λ none. let change = step.others p.row old.row_in_range (λ same. apart (sym same)) in
        old.nonzero (zero_factor R D (s.left q c) (s.left p.row p.column) step.pivot_nonzero
        (sym (R.add_zero _)
        ∙ ap (λ u. s.left q c * s.left p.row p.column + u)
        (sym (ap (λ u. neg (s.left p.row c * u)) (old.elsewhere q step.row_in_range apart) ∙ ap neg (mul_zero R _) ∙ neg_zero R.group))
        ∙ change.left_is p.column old.column_in_range ∙ ap (λ u. change.factor * u) none ∙ mul_zero R change.factor));
    elsewhere = λ r below other.
        zero-after s t q c r p.column step below old.column_in_range (old.elsewhere r below other) (old.elsewhere q step.row_in_range apart);
  }

  -- the new one stands alone in its own
  new_cleared :
      (s t : State A) (q c : ℕ) → Step R n m matrix s t q c →
      IsCleared R n m matrix t (record { row = q; column = c })
  new_cleared s t q c step = record {
    row_in_range = step.row_in_range;
    column_in_range = step.column_in_range;
    nonzero = λ none. step.pivot_nonzero (sym (step.left_kept c step.column_in_range) ∙ none);
    elsewhere = λ r below other. let change = step.others r below other in
        zero_factor R D change.factor (t.left r c) change.factor_nonzero
        (sym (change.left_is c step.column_in_range) ∙ ap (λ u. s.left q c * s.left r c + neg u) (R.mul_comm _ _) ∙ R.add_neg _);
  }

  pub IsEchelon-first : (first : ℕ) → IsEchelon R n m matrix first 0 (first_state R n m matrix) []
  IsEchelon-first first = record {
    keeps = KeepsMatrix-first R D n m matrix;
    below = λ p found. absurd (contains_none p found);
    in_order = tt;
    cleared = λ p found. absurd (contains_none p found);
    staggered = λ p found. absurd (contains_none p found);
    unused_zero = λ r below unused c within. absurd (omega arith);
    chosen = λ c from within. absurd (omega arith);
  }

  -- zero below a column and at it
  also_at :
      (P : ℕ → Type 0) (c : ℕ) → ((k : ℕ) → k < c → P k) → P c → (k : ℕ) → k < suc c → P k
  also_at P c before there k within = by (eq-or-lt_of_le (omega (arith, within)))
    where
      by : (k ≡ c) ⊎ (k < c) → P k
      by (inl same) = subst P (sym same) there
      by (inr less) = before k less

  -- a certificate's column at which every unused row is zero
  pub IsEchelon-passed :
      (first done : ℕ) (s : State A) (ps : List Pivot) → done < first →
      ((r : ℕ) → r < n → IsUnused r ps → s.left r done ≡ zero) →
      IsEchelon R n m matrix first done s ps → IsEchelon R n m matrix first (suc done) s ps
  IsEchelon-passed first done s ps early none old = record {
    keeps = old.keeps;
    below = λ p found. omega (arith, old.below p found);
    in_order = old.in_order;
    cleared = old.cleared;
    staggered = old.staggered;
    unused_zero = λ r below unused.
        also_at (λ c. s.left r c ≡ zero) done (old.unused_zero r below unused) (none r below unused);
    chosen = λ c from within. absurd (omega (arith, early, from, within));
  }

  -- a column with a pivot in an unused row
  pub IsEchelon-after :
      (first done : ℕ) (s t : State A) (q : ℕ) (ps : List Pivot) → IsUnused q ps → Step R n m matrix s t q done →
      IsEchelon R n m matrix first done s ps →
      IsEchelon R n m matrix first (suc done) t (ps ++ record { row = q; column = done } ∷ [])
  IsEchelon-after first done s t q ps unused step old = record {
    keeps = KeepsMatrix-after R D n m matrix s t q done step old.keeps;
    below = λ p found. below p (Contains-push_cases ps new p found);
    in_order = in_order-push ps new old.in_order (λ p found. (old.below p found, λ same. unused p found (sym same)));
    cleared = λ p found. cleared p (Contains-push_cases ps new p found);
    staggered = λ p found. staggered p (Contains-push_cases ps new p found);
    unused_zero = λ r small free.
        also_at (λ c. t.left r c ≡ zero) done (still_zero r small (λ p found. free p (Contains-append_left ps (new ∷ []) p found)))
        ((new_cleared s t q done step).elsewhere r small (free new (Contains-push ps new)));
    chosen = λ c from within. also_at (λ c. first ≤ c → HasPivot c (ps ++ new ∷ [])) done later
        (λ from. record { row = q; stands = Contains-push ps new }) c within from;
  }
    where
      new : Pivot
      new = record { row = q; column = done }

      below : (p : Pivot) → Contains ps p ⊎ (new ≡ p) → p.column < suc done
      below p (inl found) = omega (arith, old.below p found)
      below p (inr same) = subst (λ x. x.column < suc done) same (omega arith)

      cleared : (p : Pivot) → Contains ps p ⊎ (new ≡ p) → IsCleared R n m matrix t p
      cleared p (inr same) = subst (IsCleared R n m matrix t) same (new_cleared s t q done step)
      cleared p (inl found) = still_cleared s t q done p step (unused p found) (old.cleared p found)

      still_zero : (r : ℕ) → r < n → IsUnused r ps → (c : ℕ) → c < done → t.left r c ≡ zero
      still_zero r small free c within =
          zero-after s t q done r c step small (omega (arith, within, step.column_in_range))
          (old.unused_zero r small free c within) (old.unused_zero q step.row_in_range unused c within)

      staggered : (p : Pivot) → Contains ps p ⊎ (new ≡ p) → IsStaggered R n m matrix t p
      staggered p (inr same) c within =
          subst (IsStaggered R n m matrix t) same
          (λ k early. still_zero q step.row_in_range unused k early) c within
      staggered p (inl found) c within =
          let early : c < done = omega (arith, within, old.below p found) in
          zero-after s t q done p.row c step (old.cleared p found).row_in_range (omega (arith, early, step.column_in_range))
          (old.staggered p found c within) (old.unused_zero q step.row_in_range unused c early)

      later : (c : ℕ) → c < done → first ≤ c → HasPivot c (ps ++ new ∷ [])
      later c within from =
          let has = old.chosen c from within in
          record { row = has.row; stands = Contains-append_left ps (new ∷ []) _ has.stands }
