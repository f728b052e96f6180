-- One row of multipliers: what a step and a division of the row do to the row that it gives, and how both are undone.
-- Main lemma `isolated`: a vector that the matrix sends to zero is zero at each isolated column.
use Rattle.ct_telescoping.proofs.Base.{◌≡◌, ℕ, ◌<◌, ◌≢◌, sym, ◌∙◌, ap, ap₂, refl, Group, neg_zero, Ring, mul_zero, zero_mul, IsDomain, mul_cancel}
use Rattle.ct_telescoping.proofs.Base.{zero_factor, ring3, ring5, reify, sum_below, sum_below-same, mul-sum_below}
use Rattle.ct_telescoping.specs.Laws.SumsBelow.{sum_below-zero, sum_below-sum, sum_below-neg, sum_below-sum_below, sum_below-one}
use Rattle.ct_telescoping.specs.Elimination.{row_times, matrix_times, Gives, Annuls}
use Rattle.ct_telescoping.specs.Refutation.{Isolates}

module _ {A : Type 0} (R : Ring A) (D : IsDomain R) (n m : ℕ) (matrix : ℕ → ℕ → A) where
  open R use {zero, ◌+◌, ◌*◌, neg}

  infixl 60 ◌+◌
  infixl 70 ◌*◌
  abbrev G : Group A
  G = R.group

  -- a sum over k of (p·u − a·w)·x
  step_sum :
      (p a : A) (u w x : ℕ → A) →
      sum_below G n (λ k. (p * u k + neg (a * w k)) * x k) ≡ p * sum_below G n (λ k. u k * x k) + neg (a * sum_below G n (λ k. w k * x k))
  step_sum p a u w x =
      sum_below-same G n _ _ (λ k l. at p a (u k) (w k) (x k))
      ∙ sum_below-sum G n (λ k. p * (u k * x k)) (λ k. neg (a * (w k * x k)))
      ∙ ap₂ ◌+◌ (mul-sum_below R n p _) (sum_below-neg G n _ ∙ ap neg (mul-sum_below R n a _))
    where
      at : (p a u w x : A) → (p * u + neg (a * w)) * x ≡ p * (u * x) + neg (a * (w * x))
      at p a u w x = ring5 R p a u w x (λ rp ra ru rw rx. (search reify depth 9, search reify depth 9)) refl

  scaled_sum :
      (f : A) (u u' x : ℕ → A) → ((k : ℕ) → k < n → u k ≡ f * u' k) →
      sum_below G n (λ k. u k * x k) ≡ f * sum_below G n (λ k. u' k * x k)
  scaled_sum f u u' x h =
      sum_below-same G n _ _ (λ k l. ap (λ y. y * x k) (h k l) ∙ R.mul_assoc _ _ _)
      ∙ mul-sum_below R n f _

  pub Gives-step :
      (p a : A) (u w l l' : ℕ → A) →
      Gives R n m matrix u l → Gives R n m matrix w l' →
      Gives R n m matrix (λ k. p * u k + neg (a * w k)) (λ c. p * l c + neg (a * l' c))
  Gives-step p a u w l l' h g c lt =
      step_sum p a u w (λ k. matrix k c)
      ∙ ap₂ (λ y z. p * y + neg (a * z)) (h c lt) (g c lt)

  pub Gives-divided :
      (f : A) (u u' l l' : ℕ → A) → f ≢ zero →
      ((k : ℕ) → k < n → u k ≡ f * u' k) → ((c : ℕ) → c < m → l c ≡ f * l' c) →
      Gives R n m matrix u l → Gives R n m matrix u' l'
  Gives-divided f u u' l l' ne hu hl h c lt =
      mul_cancel R D f _ _ ne (sym (scaled_sum f u u' (λ k. matrix k c) hu) ∙ h c lt ∙ hl c lt)

  pub Annuls-before_step :
      (p a : A) (u w y : ℕ → A) → p ≢ zero →
      Annuls R n m matrix w y → Annuls R n m matrix (λ k. p * u k + neg (a * w k)) y → Annuls R n m matrix u y
  Annuls-before_step p a u w y ne hw h =
      zero_factor R D p _ ne
      (sym (R.add_zero _) ∙ ap (λ z. p * sum_below G n (λ k. u k * y k) + z)
      (sym (neg_zero G) ∙ ap neg (sym (mul_zero R a) ∙ ap (λ z. a * z) (sym hw)))
      ∙ sym (step_sum p a u w y) ∙ h)

  pub Annuls-before_division :
      (f : A) (u u' y : ℕ → A) → ((k : ℕ) → k < n → u k ≡ f * u' k) → Annuls R n m matrix u' y → Annuls R n m matrix u y
  Annuls-before_division f u u' y hu h = scaled_sum f u u' y hu ∙ ap (λ z. f * z) h ∙ mul_zero R f

  -- a row of multipliers times what the matrix makes of y is the row that it gives, times y
  pub Gives-image :
      (u l y : ℕ → A) → Gives R n m matrix u l →
      sum_below G n (λ k. u k * matrix_times R n m matrix y k) ≡ sum_below G m (λ c. l c * y c)
  Gives-image u l y h =
      sum_below-same G n _ _ (λ k q. sym (mul-sum_below R m (u k) _))
      ∙ sum_below-sum_below G n m (λ k c. u k * (matrix k c * y c))
      ∙ sum_below-same G m _ _ (λ c q.
      sum_below-same G n _ _ (λ k q'. ring3 R (u k) (matrix k c) (y c) (λ ra rb rc. (search reify, search reify)) refl)
      ∙ mul-sum_below R n (y c) (λ k. u k * matrix k c)
      ∙ ap (λ z. y c * z) (h c q) ∙ R.mul_comm _ _)

  pub isolated :
      (u y : ℕ → A) (g : ℕ) → g < m → Isolates R n m matrix u g →
      ((k : ℕ) → k < n → matrix_times R n m matrix y k ≡ zero) → y g ≡ zero
  isolated u y g lt h null =
      zero_factor R D (row_times R n m matrix u g) (y g) h.nonzero
      (sym (sum_below-one G m g (λ c. row_times R n m matrix u c * y c) lt (λ c q e. ap (λ w. w * y c) (h.elsewhere c q e) ∙ zero_mul R _))
      ∙ sym (Gives-image u (row_times R n m matrix u) y (λ c l. refl))
      ∙ sum_below-zero G n _ (λ k q. ap (λ w. u k * w) (null k q) ∙ mul_zero R _))
