-- The action of rows on vectors is additive, passes coefficients by the commutation rule, and commutes where it commutes
-- on the rows: main lemma `action-action`, cited by the module of vectors.
use Rattle.std.specs.Prelude.{◌≡◌, refl, ℕ, ◌<◌, zero, suc}
use Rattle.std.proofs.Common.{sym, ◌∙◌, ap, ap₂}
use Rattle.ct_algebra.specs.Group.{Group, swap_sum}
use Rattle.ct_algebra.specs.Ring.{Ring, add_mul, zero_mul}
use Rattle.ct_algebra.specs.RingTactic.{ring5, reify}
use Rattle.ct_algebra.specs.Ore.{Ore, σ_zero, δ_zero}
use Rattle.ct_algebra.specs.RangeSum.{sum_below}
use Rattle.ct_algebra.specs.Laws.RangeSums.{sum_below-same, mul-sum_below}
use Rattle.ct_telescoping.specs.Laws.SumsBelow.{sum_below-zero, sum_below-sum}
use Rattle.ct_telescoping.specs.RowAction.{action, Commutes}

module _ {A I : Type 0} (R : Ring A) (E : Ore I R) (d : ℕ) (M : I → ℕ → ℕ → A) where
  open R use {◌+◌, ◌*◌}

  infixl 60 ◌+◌
  infixl 70 ◌*◌
  abbrev G : Group A
  G = R.group

  abbrev action' : I → (ℕ → A) → ℕ → A
  action' = action R E d M

  pub action-same :
      (i : I) (x y : ℕ → A) (b' : ℕ) → b' < d → ((b : ℕ) → b < d → x b ≡ y b) → action' i x b' ≡ action' i y b'
  action-same i x y b' l h =
      ap₂ ◌+◌ (sum_below-same G d _ _ (λ b m. ap (λ u. E.σ i u * M i b b') (h b m))) (ap (E.δ i) (h b' l))

  pub action-sum : (i : I) (x y : ℕ → A) (b' : ℕ) → action' i (λ b. x b + y b) b' ≡ action' i x b' + action' i y b'
  action-sum i x y b' =
      ap₂ ◌+◌
      (sum_below-same G d _ _ (λ b l. ap (λ u. u * M i b b') (E.σ_add i _ _) ∙ add_mul R _ _ _)
      ∙ sum_below-sum G d (λ b. E.σ i (x b) * M i b b') (λ b. E.σ i (y b) * M i b b'))
      (E.δ_add i _ _)
      ∙ swap_sum G _ _ _ _

  pub action-scale :
      (i : I) (c : A) (x : ℕ → A) (b' : ℕ) → action' i (λ b. c * x b) b' ≡ E.σ i c * action' i x b' + E.δ i c * x b'
  action-scale i c x b' =
      ap₂ ◌+◌
      (sum_below-same G d _ _ (λ b l. ap (λ u. u * M i b b') (E.σ_mul i _ _) ∙ R.mul_assoc _ _ _)
      ∙ mul-sum_below R d (E.σ i c) (λ b. E.σ i (x b) * M i b b'))
      (E.δ_mul i _ _)
      ∙ gathered _ _ _ _ _
    where
      gathered : (s e l g f : A) → s * l + (s * g + e * f) ≡ s * (l + g) + e * f
      gathered s e l g f = ring5 R s e l g f (λ a1 a2 a3 a4 a5. (search reify depth 9, search reify depth 9)) refl

  -- of a sum of multiples
  pub action-sum_below :
      (i : I) (n : ℕ) (c : ℕ → A) (v : ℕ → ℕ → A) (b' : ℕ) →
      action' i (λ b. sum_below G n (λ k. c k * v k b)) b' ≡ sum_below G n (λ k. E.σ i (c k) * action' i (v k) b' + E.δ i (c k) * v k b')
  action-sum_below i zero c v b' =
      ap₂ ◌+◌ (sum_below-zero G d _ (λ b l. ap (λ u. u * M i b b') (σ_zero E i) ∙ zero_mul R _)) (δ_zero E i)
      ∙ R.add_zero R.zero
  action-sum_below i (suc n) c v b' =
      action-sum i (λ b. sum_below G n (λ k. c k * v k b)) (λ b. c n * v n b) b'
      ∙ ap₂ ◌+◌ (action-sum_below i n c v b') (action-scale i (c n) (v n) b')

  -- two actions, one after the other, as four sums
  twice :
      (i j : I) (x : ℕ → A) (b' : ℕ) →
      action' i (action' j x) b' ≡
      (sum_below G d (λ b. E.σ i (E.σ j (x b)) * action' i (M j b) b') + sum_below G d (λ b. E.δ i (E.σ j (x b)) * M j b b'))
      + (sum_below G d (λ b. E.σ i (E.δ j (x b)) * M i b b') + E.δ i (E.δ j (x b')))
  twice i j x b' =
      action-sum i (λ b''. sum_below G d (λ b. E.σ j (x b) * M j b b'')) (λ b''. E.δ j (x b'')) b'
      ∙ ap (λ u. u + action' i (λ b''. E.δ j (x b'')) b')
      (action-sum_below i d (λ b. E.σ j (x b)) (M j) b'
      ∙ sum_below-sum G d (λ b. E.σ i (E.σ j (x b)) * action' i (M j b) b') (λ b. E.δ i (E.σ j (x b)) * M j b b'))

  pub action-action :
      Commutes R E d M → (i j : I) (x : ℕ → A) (b' : ℕ) → b' < d → action' i (action' j x) b' ≡ action' j (action' i x) b'
  action-action commutes i j x b' l =
      twice i j x b'
      ∙ swap_sum G _ _ _ _
      ∙ ap₂ ◌+◌
      (ap₂ ◌+◌
      (sum_below-same G d _ _ (λ b m. ap₂ ◌*◌ (E.σ_σ i j (x b)) (commutes j i b m b' l)))
      (sum_below-same G d _ _ (λ b m. ap (λ u. u * M i b b') (E.σ_δ i j (x b)))))
      (ap₂ ◌+◌
      (sum_below-same G d _ _ (λ b m. ap (λ u. u * M j b b') (sym (E.σ_δ j i (x b)))))
      (E.δ_δ i j (x b')))
      ∙ sym (twice j i x b')
