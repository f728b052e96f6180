-- Laws of sums over the numbers below a bound: sums of zeros, of sums and of negatives, exchange of two sums, and sums with one
-- or two terms that are not zero. Cited wherever a row, a vector or an operator is a sum over numbers.
use Rattle.std.specs.Prelude.{◌≡◌, ℕ, ◌<◌, ◌≢◌, zero, suc, ◌⊎◌}
use Rattle.std.proofs.Common.{sym, ◌∙◌, ap, ap₂, refl, arith, inl, inr, eq-or-lt_of_le, lt_trans, lt-suc_self}
use native.Mathlib.Decide.{ℕ_discrete}
use Rattle.ct_algebra.specs.Group.{Group, zero_add, neg_zero, neg_sum, swap_sum}
use Rattle.ct_algebra.specs.RangeSum.{sum_below}

module _ {A : Type 0} (G : Group A) where
  open G use {◌+◌, neg}

  infixl 60 ◌+◌
  pub sum_below-zero : (n : ℕ) (f : ℕ → A) → ((k : ℕ) → k < n → f k ≡ G.zero) → sum_below G n f ≡ G.zero
  sum_below-zero zero f none = refl
  sum_below-zero (suc n) f none =
      ap₂ ◌+◌ (sum_below-zero n f (λ k below. none k (lt_trans below (lt-suc_self _)))) (none n (lt-suc_self _))
      ∙ G.add_zero G.zero

  pub sum_below-sum : (n : ℕ) (f g : ℕ → A) → sum_below G n (λ k. f k + g k) ≡ sum_below G n f + sum_below G n g
  sum_below-sum zero f g = sym (G.add_zero G.zero)
  sum_below-sum (suc n) f g = ap (λ u. u + (f n + g n)) (sum_below-sum n f g) ∙ swap_sum G _ _ _ _

  pub sum_below-neg : (n : ℕ) (f : ℕ → A) → sum_below G n (λ k. neg (f k)) ≡ neg (sum_below G n f)
  sum_below-neg zero f = sym (neg_zero G)
  sum_below-neg (suc n) f = ap (λ u. u + neg (f n)) (sum_below-neg n f) ∙ sym (neg_sum G _ _)

  -- the order of two sums
  pub sum_below-sum_below :
      (n m : ℕ) (f : ℕ → ℕ → A) →
      sum_below G n (λ k. sum_below G m (f k)) ≡ sum_below G m (λ c. sum_below G n (λ k. f k c))
  sum_below-sum_below zero m f = sym (sum_below-zero m (λ c. G.zero) (λ k below. refl))
  sum_below-sum_below (suc n) m f =
      ap (λ u. u + sum_below G m (f n)) (sum_below-sum_below n m f)
      ∙ sym (sum_below-sum m (λ c. sum_below G n (λ k. f k c)) (f n))

  -- a sum with one term
  pub sum_below-one : (n i : ℕ) (f : ℕ → A) → i < n → ((k : ℕ) → k < n → k ≢ i → f k ≡ G.zero) → sum_below G n f ≡ f i
  sum_below-one zero i f below none = absurd (omega arith)
  sum_below-one (suc n) i f below none =
      by (eq-or-lt_of_le (omega arith)) (λ smaller. sum_below-one n i f smaller (λ k small other. none k (lt_trans small (lt-suc_self _)) other))
    where
      by : (i ≡ n) ⊎ (i < n) → (i < n → sum_below G n f ≡ f i) → sum_below G (suc n) f ≡ f i
      by (inl last) earlier =
          ap₂ ◌+◌ (sum_below-zero n f (λ k small. none k (lt_trans small (lt-suc_self _)) (omega arith))) (sym (ap f last))
          ∙ zero_add G _
      by (inr smaller) earlier = ap₂ ◌+◌ (earlier smaller) (none n (lt-suc_self _) (omega arith)) ∙ G.add_zero _

  -- a sum with two terms
  pub sum_below-two :
      (n i j : ℕ) (f : ℕ → A) → i < n → j < n → i ≢ j → ((k : ℕ) → k < n → k ≢ i → k ≢ j → f k ≡ G.zero) →
      sum_below G n f ≡ f i + f j
  sum_below-two zero i j f first second apart none = absurd (omega arith)
  sum_below-two (suc n) i j f first second apart none =
      by (ℕ_discrete i n) (ℕ_discrete j n) (λ small smaller. sum_below-two n i j f small smaller apart (λ k below. none k (omega arith)))
    where
      by :
          Dec (i ≡ n) → Dec (j ≡ n) → (i < n → j < n → sum_below G n f ≡ f i + f j) →
          sum_below G n f + f n ≡ f i + f j
      by (yes last) other earlier =
          ap₂ ◌+◌ (sum_below-one n j f (omega arith) (λ k below differs. none k (omega arith) (omega arith) differs)) (ap f (sym last))
          ∙ G.add_comm _ _
      by (no differs) (yes last) earlier =
          ap₂ ◌+◌ (sum_below-one n i f (omega arith) (λ k below other. none k (omega arith) other (omega arith))) (ap f (sym last))
      by (no differs) (no other) earlier =
          ap₂ ◌+◌ (earlier (omega arith) (omega arith)) (none n (omega arith) (λ same. differs (sym same)) (λ same. other (sym same)))
          ∙ G.add_zero _
