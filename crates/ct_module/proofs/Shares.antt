-- The sum of what the elements give to an entry, from the first element on, as steps and by value. Main lemmas `share_more` and
-- `moved_sum-more`, cited where the loop of `shares` goes on, and `moved_sum-no_rows`, `moved_sum-no_entries`, where it ends.
use Rattle.ct_module.proofs.Base.{◌≡◌, sym, ◌∙◌, ap, ap₂, ℕ, zero, suc, List, [], ◌∷◌, length, Ok, ◌>>=◌, polys, Name, K, field, coefficients}
use Rattle.ct_module.proofs.Base.{empty_of_length}
use Rattle.std.specs.List.{zip}
use Rattle.ct_algebra.specs.Actions.{Action}
use Rattle.ct_algebra.specs.Group.{Group, zero_add}
use Rattle.ct_algebra.specs.RangeSum.{sum_below}
use Rattle.ct_algebra.specs.Ring.{mul_zero}
use Rattle.ct_checked.specs.Traversal.{checked_fold}
use Rattle.ct_frac.proofs.Fractions.{whole-value}
use Rattle.ct_frac.specs.Written.{Written, value}
use Rattle.ct_telescoping.specs.Laws.SumsBelow.{sum_below-zero}
use Rattle.ct_module.specs.Action.{checked_share, entries_at}
use Rattle.ct_module.specs.Modules.{entry, written_zero}
use Rattle.ct_module.specs.Values.{values, row_values, moved_product, moved_sum}

sum_below-first :
    {A : Type 0} (G : Group A) (n : ℕ) (f : ℕ → A) →
    sum_below G (suc n) f ≡ G.◌+◌ (f 0) (sum_below G n (λ k. f (suc k)))
sum_below-first G zero f = zero_add G (f 0) ∙ sym (G.add_zero (f 0))
sum_below-first G (suc n) f = ap (λ u. G.◌+◌ u (f (suc n))) (sum_below-first G n f) ∙ G.add_assoc _ _ _

pub written_zero-value : value written_zero ≡ field.zero
written_zero-value = whole-value polys.zero

module _ (t : Action) (i : Name) (c : ℕ) (v more : List Written) (x : Written) (rows others : List (List Written)) (row : List Written) where
  pub shares_open :
      (s : Written) → v ≡ x ∷ more → rows ≡ row ∷ others →
      checked_fold (checked_share t i) s (zip v (entries_at c rows)) ≡
      (checked_share t i s (x, entry row c) >>= (λ u. checked_fold (checked_share t i) u (zip more (entries_at c others))))
  shares_open s v_is rows_is = ap₂ (λ xs rs. checked_fold (checked_share t i) s (zip xs (entries_at c rs))) v_is rows_is

  pub share_more :
      (s u : Written) → v ≡ x ∷ more → rows ≡ row ∷ others → checked_share t i s (x, entry row c) ≡ Ok u →
      checked_fold (checked_share t i) s (zip v (entries_at c rows)) ≡
      checked_fold (checked_share t i) u (zip more (entries_at c others))
  share_more s u v_is rows_is made =
      shares_open s v_is rows_is ∙ ap (λ r. r >>= (λ u. checked_fold (checked_share t i) u (zip more (entries_at c others)))) made

module _ (a : Name → Action) (i : Name) (c : ℕ) where
  pub moved_sum-more :
      (v more : List Written) (x : Written) (rows others : List (List Written)) (row : List Written) (s u w : K) →
      v ≡ x ∷ more → rows ≡ row ∷ others → u ≡ field.◌+◌ s (moved_product a i x (entry row c)) →
      field.◌+◌ s (moved_sum a i v rows c) ≡ w → field.◌+◌ u (moved_sum a i more others c) ≡ w
  moved_sum-more v more x rows others row s u w v_is rows_is made whole =
      ap (λ s. field.◌+◌ s (moved_sum a i more others c)) made
      ∙ field.add_assoc s (moved_product a i x (entry row c)) (moved_sum a i more others c)
      ∙ ap (field.◌+◌ s) (sym (sum_below-first field.group (length more)
      (λ b. field.◌*◌ ((coefficients a).σ i (values (x ∷ more) b)) (row_values (row ∷ others) b c))))
      ∙ ap₂ (λ xs rs. field.◌+◌ s (moved_sum a i xs rs c)) (sym v_is) (sym rows_is)
      ∙ whole

  pub moved_sum-no_rows :
      (v : List Written) (rows : List (List Written)) (s w : K) → rows ≡ [] → field.◌+◌ s (moved_sum a i v rows c) ≡ w → s ≡ w
  moved_sum-no_rows v rows s w none whole =
      sym (field.add_zero s)
      ∙ ap (field.◌+◌ s) (sym (ap (λ rs. moved_sum a i v rs c) none ∙ sum_below-zero field.group (length v) _
      (λ b within. ap (field.◌*◌ ((coefficients a).σ i (values v b))) written_zero-value ∙ mul_zero field _)))
      ∙ whole

  pub moved_sum-no_entries :
      (v : List Written) (rows : List (List Written)) (s w : K) → v ≡ [] → field.◌+◌ s (moved_sum a i v rows c) ≡ w → s ≡ w
  moved_sum-no_entries v rows s w none whole =
      sym (field.add_zero s) ∙ ap (λ xs. field.◌+◌ s (moved_sum a i xs rows c)) (sym none) ∙ whole
