-- A monomial with one exponent changed: its exponents, its total, and the arrays that stand for it.
-- Main lemmas `exp-with_exponent`, `total-with_exponent`. Cited by what raises and lowers single exponents.
use Rattle.std.specs.Prelude.{◌≡◌, refl, ℕ, zero, suc, ◌+◌, ◌<◌, Bool, true, false, cond, eqb, List, length, get_or, set}
use Rattle.std.proofs.Common.{sym, ◌∙◌, ap, arith, lit<, eqb→eq, subst, T, eq-eqb, ne_eqb, get_or-set_same, get_or-set_other, ◌≢◌}
use Rattle.ct_algebra.specs.Monomial.{Mono, exp, mono, exp-mono, same_mono, mono_of, exp-mono_of, total, sum_six, unit, exp-unit}
use Rattle.ct_algebra.specs.Names.{name_with, place, symbol, exp-symbol}
use Rattle.ct_mono.specs.Exponents.{with_exponent}

pub exp-with_exponent :
    (i e : ℕ) (m : Mono) (k : ℕ) → k < 6 → exp (with_exponent i e m) k ≡ cond (eqb k i) e (exp m k)
unfolding with_exponent
exp-with_exponent i e m k h = exp-mono _ k h

pub exp-with_exponent_same : (i e : ℕ) (m : Mono) → i < 6 → exp (with_exponent i e m) i ≡ e
exp-with_exponent_same i e m h =
    exp-with_exponent i e m i h ∙ ap (λ b. cond b e (exp m i)) (eq-eqb i i refl)

pub exp-with_exponent_other :
    (i e : ℕ) (m : Mono) (k : ℕ) → k < 6 → (k ≡ i → ⊥) → exp (with_exponent i e m) k ≡ exp m k
exp-with_exponent_other i e m k h n =
    exp-with_exponent i e m k h ∙ ap (λ b. cond b e (exp m k)) (ne_eqb k i n)

six_are : (m : Mono) → exp m 0 + exp m 1 + exp m 2 + exp m 3 + exp m 4 + exp m 5 ≡ total m
unfolding exp total
six_are m = sum_six m.exps m.six

pub total-with_exponent : (i e : ℕ) (m : Mono) → i < 6 → total (with_exponent i e m) + exp m i ≡ total m + e
total-with_exponent i e m h = by i h
  where
    by : (i : ℕ) → i < 6 → total (with_exponent i e m) + exp m i ≡ total m + e
    by zero h =
        omega (
          arith,
          six_are m,
          six_are (with_exponent 0 e m),
          exp-with_exponent 0 e m 0 (lit< tt),
          exp-with_exponent 0 e m 1 (lit< tt),
          exp-with_exponent 0 e m 2 (lit< tt),
          exp-with_exponent 0 e m 3 (lit< tt),
          exp-with_exponent 0 e m 4 (lit< tt),
          exp-with_exponent 0 e m 5 (lit< tt),
        )
    by (suc zero) h =
        omega (
          arith,
          six_are m,
          six_are (with_exponent 1 e m),
          exp-with_exponent 1 e m 0 (lit< tt),
          exp-with_exponent 1 e m 1 (lit< tt),
          exp-with_exponent 1 e m 2 (lit< tt),
          exp-with_exponent 1 e m 3 (lit< tt),
          exp-with_exponent 1 e m 4 (lit< tt),
          exp-with_exponent 1 e m 5 (lit< tt),
        )
    by (suc (suc zero)) h =
        omega (
          arith,
          six_are m,
          six_are (with_exponent 2 e m),
          exp-with_exponent 2 e m 0 (lit< tt),
          exp-with_exponent 2 e m 1 (lit< tt),
          exp-with_exponent 2 e m 2 (lit< tt),
          exp-with_exponent 2 e m 3 (lit< tt),
          exp-with_exponent 2 e m 4 (lit< tt),
          exp-with_exponent 2 e m 5 (lit< tt),
        )
    by (suc (suc (suc zero))) h =
        omega (
          arith,
          six_are m,
          six_are (with_exponent 3 e m),
          exp-with_exponent 3 e m 0 (lit< tt),
          exp-with_exponent 3 e m 1 (lit< tt),
          exp-with_exponent 3 e m 2 (lit< tt),
          exp-with_exponent 3 e m 3 (lit< tt),
          exp-with_exponent 3 e m 4 (lit< tt),
          exp-with_exponent 3 e m 5 (lit< tt),
        )
    by (suc (suc (suc (suc zero)))) h =
        omega (
          arith,
          six_are m,
          six_are (with_exponent 4 e m),
          exp-with_exponent 4 e m 0 (lit< tt),
          exp-with_exponent 4 e m 1 (lit< tt),
          exp-with_exponent 4 e m 2 (lit< tt),
          exp-with_exponent 4 e m 3 (lit< tt),
          exp-with_exponent 4 e m 4 (lit< tt),
          exp-with_exponent 4 e m 5 (lit< tt),
        )
    by (suc (suc (suc (suc (suc zero))))) h =
        omega (
          arith,
          six_are m,
          six_are (with_exponent 5 e m),
          exp-with_exponent 5 e m 0 (lit< tt),
          exp-with_exponent 5 e m 1 (lit< tt),
          exp-with_exponent 5 e m 2 (lit< tt),
          exp-with_exponent 5 e m 3 (lit< tt),
          exp-with_exponent 5 e m 4 (lit< tt),
          exp-with_exponent 5 e m 5 (lit< tt),
        )
    by (suc (suc (suc (suc (suc (suc i)))))) h = absurd (omega arith)

-- an array with one number written
pub mono_of-set :
    {m : Mono} (xs : List ℕ) (i e : ℕ) → length xs ≡ 6 → i < 6 → mono_of xs ≡ m → mono_of (set xs i e) ≡ with_exponent i e m
mono_of-set {m} xs i e six h view =
    same_mono _ _ (λ k l. exp-mono_of (set xs i e) k l ∙ by k l (eqb k i) refl ∙ sym (exp-with_exponent i e m k l))
  where
    by :
        (k : ℕ) → k < 6 → (b : Bool) → eqb k i ≡ b → get_or (set xs i e) k 0 ≡ cond b e (exp m k)
    by k l true p =
        let same : k ≡ i = eqb→eq _ _ (subst T (sym p) tt) in
        let below : i < length xs = omega arith in
        ap (λ j. get_or (set xs i e) j 0) same ∙ get_or-set_same xs i e 0 below
    by k l false p =
        let other : k ≢ i = λ q. false_true (sym p ∙ eq-eqb k i q) in
        get_or-set_other xs i k e 0 other ∙ sym (exp-mono_of xs k l) ∙ ap (λ n. exp n k) view
      where
        false_true : false ≡ true → ⊥
        false_true q = cc

pub total-unit : total unit ≡ 0
unfolding total unit mono
total-unit = refl

pub place-name_with : (i : ℕ) → i < 6 → place (name_with i) ≡ i
place-name_with zero h = refl
place-name_with (suc zero) h = refl
place-name_with (suc (suc zero)) h = refl
place-name_with (suc (suc (suc zero))) h = refl
place-name_with (suc (suc (suc (suc zero)))) h = refl
place-name_with (suc (suc (suc (suc (suc zero))))) h = refl
place-name_with (suc (suc (suc (suc (suc (suc i)))))) h = absurd (omega arith)

pub one_exponent : (i : ℕ) → i < 6 → with_exponent i 1 unit ≡ symbol (name_with i)
one_exponent i h =
    same_mono _ _ (λ k l. exp-with_exponent i 1 unit k l ∙ ap (λ n. cond (eqb k i) 1 n) (exp-unit k l)
    ∙ ap (λ j. cond (eqb k j) 1 0) (sym (place-name_with i h)) ∙ sym (exp-symbol (name_with i) k l))
