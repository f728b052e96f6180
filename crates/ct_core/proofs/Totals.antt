-- Totals over lists, and what each element meets, under the changes that a run makes.
-- Main lemmas: `sum_over-set` and `each_set`, one element changes; `sum_below-times`, each number below n stands once.
use Rattle.std.proofs.Common.{◌≡◌, ℕ, zero, suc, ◌+◌, ◌<◌, ◌≤◌, List, [], ◌∷◌, ◌++◌, set, Some, refl, ap, subst, arith}
use Rattle.std.specs.Prelude.{slice_get, ◌==◌}
use Rattle.std.proofs.lemmas.Bool.Decides.{nat_tests}
use Rattle.ct_core.specs.Counting.{sum_over, one_if, times, once_below, sum_below, Each}

module _ {X : Type 0} where
  pub sum_over-append : (f : X → ℕ) (xs ys : List X) → sum_over f (xs ++ ys) ≡ sum_over f xs + sum_over f ys
  sum_over-append f [] ys = omega arith
  sum_over-append f (x ∷ xs) ys = omega (arith, sum_over-append f xs ys)

  pub sum_over-set : (f : X → ℕ) (xs : List X) (w : ℕ) (v u : X) → slice_get xs w ≡ Some v → sum_over f (set xs w u) + f v ≡ sum_over f xs + f u
  sum_over-set f [] w v u e = absurd (cc)
  sum_over-set f (x ∷ xs) zero v u e = let same : x ≡ v = cc in let s = ap f same in omega arith
  sum_over-set f (x ∷ xs) (suc w) v u e = omega (arith, sum_over-set f xs w v u e)

  pub each_at : (P : X → Type 0) (xs : List X) (w : ℕ) (v : X) → slice_get xs w ≡ Some v → Each P xs → P v
  each_at P [] w v e a = absurd (cc)
  each_at P (x ∷ xs) zero v e a = let same : x ≡ v = cc in subst P same a.0
  each_at P (x ∷ xs) (suc w) v e a = each_at P xs w v e a.1

  pub each_set : (P : X → Type 0) (xs : List X) (w : ℕ) (u : X) → P u → Each P xs → Each P (set xs w u)
  each_set P [] w u p a = tt
  each_set P (x ∷ xs) zero u p a = (p, a.1)
  each_set P (x ∷ xs) (suc w) u p a = (a.0, each_set P xs w u p a.1)

  pub each_map : (P Q : X → Type 0) (xs : List X) → ((x : X) → P x → Q x) → Each P xs → Each Q xs
  each_map P Q [] f a = tt
  each_map P Q (x ∷ xs) f a = (f x a.0, each_map P Q xs f a.1)

  pub each_append : (P : X → Type 0) (xs ys : List X) → Each P xs → Each P ys → Each P (xs ++ ys)
  each_append P [] ys a b = b
  each_append P (x ∷ xs) ys a b = (a.0, each_append P xs ys a.1 b)

  pub each_here : (P : X → Type 0) (xs ys : List X) → Each P (xs ++ ys) → Each P xs
  each_here P [] ys a = tt
  each_here P (x ∷ xs) ys a = (a.0, each_here P xs ys a.1)

  pub each_there : (P : X → Type 0) (xs ys : List X) → Each P (xs ++ ys) → Each P ys
  each_there P [] ys a = a
  each_there P (x ∷ xs) ys a = each_there P xs ys a.1

  pub sum_over-same : (f g : X → ℕ) (xs : List X) → Each (λ x. f x ≡ g x) xs → sum_over f xs ≡ sum_over g xs
  sum_over-same f g [] a = refl
  sum_over-same f g (x ∷ xs) a = let h = a.0 in omega (arith, sum_over-same f g xs a.1)

  pub sum_over-below : (f g : X → ℕ) (xs : List X) → Each (λ x. f x ≤ g x) xs → sum_over f xs ≤ sum_over g xs
  sum_over-below f g [] a = omega arith
  sum_over-below f g (x ∷ xs) a = let h = a.0 in omega (arith, sum_over-below f g xs a.1)

pub sum_over-zero : {X : Type 0} (f : X → ℕ) (xs : List X) → Each (λ x. f x ≡ 0) xs → sum_over f xs ≡ 0
sum_over-zero f [] a = refl
sum_over-zero f (x ∷ xs) a = let h = a.0 in omega (arith, sum_over-zero f xs a.1)

pub sum_below-times : (x n : ℕ) → sum_below (λ y. one_if (y == x)) n ≡ once_below x n
sum_below-times x zero = grind (arith, nat_tests)
sum_below-times x (suc n) = counted x n (sum_below-times x n)
  where
    counted : (x n : ℕ) → sum_below (λ y. one_if (y == x)) n ≡ once_below x n →
        sum_below (λ y. one_if (y == x)) n + one_if (n == x) ≡ once_below x (suc n)
    counted x n h = rw h (grind (arith, nat_tests))

-- a number that no element is
pub times_none : (x : ℕ) (xs : List ℕ) → Each (λ y. y < x) xs → times x xs ≡ 0
times_none x [] a = refl
times_none x (y ∷ ys) a = let h : y < x = a.0 in let r = times_none x ys a.1 in let o : one_if (y == x) ≡ 0 = grind (arith, nat_tests) in omega arith
