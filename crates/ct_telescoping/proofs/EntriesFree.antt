-- Elimination brings in no name: main lemmas `EntriesAreFree-first` and `EntriesAreFree-after`, by which a name that stands
-- in no entry of the matrix stands in no entry of the left or of the right side; and `null_free`, by which it stands in no
-- entry of a null vector whose entry at the free column is without it.
-- A step multiplies and subtracts entries and divides exactly, and an exact quotient of what is without the name is without
-- it: `free_quotient`, which also serves division by contents and by candidates of slimming.
use Rattle.ct_telescoping.proofs.Base.{◌≡◌, ◌≢◌, ℕ, ◌<◌, Bool, true, false, cond, eqb, List, [], ◌∷◌, ◌⊎◌, sym, ◌∙◌, ap, subst, inl, inr, refl}
use Rattle.ct_telescoping.proofs.Base.{neg_unique, neg_zero, neg_neg, product_nonzero, at-negated, exp, monomials, int_group, Name, place, Polynomial}
use Rattle.ct_telescoping.proofs.Base.{polys, polys_domain, IsFreeOf, free_zero, free-sum, by_values}
use Rattle.ct_telescoping.specs.Elimination.{State, Step, first_state}
use Rattle.ct_telescoping.specs.Echelon.{Pivot, HasPivot, IsEchelon, IsNullVector}
use Rattle.ct_telescoping.specs.EntriesFree.{EntriesAreFree}
use Rattle.ct_telescoping.proofs.FreeFactors.{free-times, free_factor, free_one}
use Rattle.ct_telescoping.proofs.PivotLists.{column_used}
use native.Mathlib.Decide.{ℕ_discrete}

pub zero_or_not : (p : Polynomial) → (p ≡ polys.zero) ⊎ (p ≢ polys.zero)
zero_or_not p = by (polys.is_zero p) refl
  where
    by : (b : Bool) → polys.is_zero p ≡ b → (p ≡ polys.zero) ⊎ (p ≢ polys.zero)
    by true e = inl (polys.true_zero p e)
    by false e = inr (λ none. absurd (different (sym e ∙ ap polys.is_zero none ∙ polys.zero_true)))
      where
        different : false ≡ true → ⊥
        different f = cc

module _ (j : Name) where
  free_none : IsFreeOf j polys.zero
  free_none = (free_zero (j ∷ [])).0

  pub free-plus : (p q : Polynomial) → IsFreeOf j p → IsFreeOf j q → IsFreeOf j (polys.◌+◌ p q)
  free-plus p q free also = (free-sum (j ∷ []) p q (free, tt) (also, tt)).0

  pub free-neg : (p : Polynomial) → IsFreeOf j p → IsFreeOf j (polys.neg p)
  free-neg p free =
      (by_values monomials int_group (polys.neg p) (λ m c. exp m (place j) ≡ 0)).1
      (λ m there. (by_values monomials int_group p (λ m c. exp m (place j) ≡ 0)).0 free m
      (λ none. there (at-negated monomials int_group p m ∙ ap int_group.neg none ∙ neg_zero int_group)))

  -- an exact quotient
  pub free_quotient :
      (f q r : Polynomial) → f ≢ polys.zero → polys.◌*◌ f q ≡ r → IsFreeOf j r → IsFreeOf j q
  free_quotient f q r nonzero product free = by (zero_or_not q)
    where
      by : (q ≡ polys.zero) ⊎ (q ≢ polys.zero) → IsFreeOf j q
      by (inl none) = subst (IsFreeOf j) (sym none) free_none
      by (inr some) =
          (free_factor j f q (product_nonzero polys polys_domain f q nonzero some) (subst (IsFreeOf j) (sym product) free)).1

  -- p·x − a·y
  free-step :
      (p x a y : Polynomial) → IsFreeOf j p → IsFreeOf j x → IsFreeOf j a → IsFreeOf j y →
      IsFreeOf j (polys.◌+◌ (polys.◌*◌ p x) (polys.neg (polys.◌*◌ a y)))
  free-step p x a y fp fx fa fy =
      free-plus _ _ (free-times j p x fp fx) (free-neg _ (free-times j a y fa fy))

  module _ (n m : ℕ) (matrix : ℕ → ℕ → Polynomial) where
    pub EntriesAreFree-first : EntriesAreFree j n n (first_state polys n m matrix).right
    EntriesAreFree-first r k small below = by (eqb k r)
      where
        by : (b : Bool) → IsFreeOf j (cond b polys.one polys.zero)
        by true = free_one j
        by false = free_none

    pub EntriesAreFree-after :
        (s t : State Polynomial) (q c : ℕ) → Step polys n m matrix s t q c →
        EntriesAreFree j n m s.left → EntriesAreFree j n n s.right →
        EntriesAreFree j n m t.left × EntriesAreFree j n n t.right
    EntriesAreFree-after s t q c step left right = (
      λ r k small below. on_left r k small below (ℕ_discrete r q),
      λ r k small below. on_right r k small below (ℕ_discrete r q),
    )
      where
        pivot : IsFreeOf j (s.left q c)
        pivot = left q c step.row_in_range step.column_in_range

        on_left : (r k : ℕ) → r < n → k < m → Dec (r ≡ q) → IsFreeOf j (t.left r k)
        on_left r k small below (yes same) =
            subst (λ x. IsFreeOf j (t.left x k)) (sym same) (subst (IsFreeOf j) (sym (step.left_kept k below)) (left q k step.row_in_range below))
        on_left r k small below (no other) =
            let change = step.others r small other in
            free_quotient change.factor (t.left r k) _ change.factor_nonzero (sym (change.left_is k below))
            (free-step (s.left q c) (s.left r k) (s.left r c) (s.left q k) pivot (left r k small below)
            (left r c small step.column_in_range) (left q k step.row_in_range below))

        on_right : (r k : ℕ) → r < n → k < n → Dec (r ≡ q) → IsFreeOf j (t.right r k)
        on_right r k small below (yes same) =
            subst (λ x. IsFreeOf j (t.right x k)) (sym same) (subst (IsFreeOf j) (sym (step.right_kept k below)) (right q k step.row_in_range below))
        on_right r k small below (no other) =
            let change = step.others r small other in
            free_quotient change.factor (t.right r k) _ change.factor_nonzero (sym (change.right_is k below))
            (free-step (s.left q c) (s.right r k) (s.left r c) (s.right q k) pivot (right r k small below)
            (left r c small step.column_in_range) (right q k step.row_in_range below))

    pub null_free :
        (first f : ℕ) (s : State Polynomial) (ps : List Pivot) → f < m → IsEchelon polys n m matrix first f s ps →
        (x : ℕ → Polynomial) → IsNullVector polys n m matrix f s ps x →
        EntriesAreFree j n m s.left → IsFreeOf j (x f) → (c : ℕ) → c < m → IsFreeOf j (x c)
    null_free first f s ps within echelon x null left free c below = by (ℕ_discrete c f)
      where
        at_pivot : (has : HasPivot c ps) → IsFreeOf j (x c)
        at_pivot has =
            let cleared = echelon.cleared _ has.stands in
            free_quotient (s.left has.row c) (x c) _ cleared.nonzero
            (sym (neg_neg polys.group _) ∙ ap polys.neg (sym (neg_unique polys.group _ _ (null.cancels _ has.stands))))
            (free-neg _ (free-times j _ _ (left has.row f cleared.row_in_range within) free))

        by_pivot : HasPivot c ps ⊎ (¬ HasPivot c ps) → c ≢ f → IsFreeOf j (x c)
        by_pivot (inl has) other = at_pivot has
        by_pivot (inr none) other = subst (IsFreeOf j) (sym (null.others c below other none)) free_none

        by : Dec (c ≡ f) → IsFreeOf j (x c)
        by (yes same) = subst (λ k. IsFreeOf j (x k)) (sym same) free
        by (no other) = by_pivot (column_used c ps) other
