-- Monomials with one exponent changed, times a name and lowered, and powers of commuting maps as each exponent says.
-- Main lemmas: `symbol-with`, `lower-with`, and `power-is`, by which a power acts name after name.
-- A monomial is the power of its first name times the rest, which is without it.
use Rattle.ct_ore.proofs.Base.{◌≡◌, refl, ℕ, zero, suc, ◌+◌, ◌-◌, ◌<◌, Bool, true, false, cond, eqb, ltb, sym, ◌∙◌, ap, ap₂, subst, arith, eqb-true}
use Rattle.ct_ore.proofs.Base.{eq-eqb, lt-ltb, ltb-true, ltb-false, ◌≤◌, Mono, exp, mono, exp-mono, exp-·, exp-unit, same_mono, ◌·◌, unit, Name}
use Rattle.ct_ore.proofs.Base.{name_with, place, symbol, exp-symbol, times_over, power, power_unit, power_symbol, with_exponent, exp-with_exponent}
use Rattle.ct_ore.proofs.Base.{place-name_with}
use Rattle.ct_algebra.specs.Derivative.{lower, exp-lower, plus_nat_is}
use Rattle.ct_ore.specs.AllNames.{number_of_names}

-- ---- one exponent changed

pub with_same : (i : ℕ) (m : Mono) → with_exponent i (exp m i) m ≡ m
with_same i m = same_mono _ _ (λ k small. exp-with_exponent i (exp m i) m k small ∙ by k (eqb k i) refl)
  where
    by : (k : ℕ) (b : Bool) → eqb k i ≡ b → cond b (exp m i) (exp m k) ≡ exp m k
    by k true here = ap (exp m) (sym (eqb-true k i here))
    by k false other = refl

pub symbol-with : (i : Name) (e : ℕ) (m : Mono) → symbol i · with_exponent (place i) e m ≡ with_exponent (place i) (suc e) m
symbol-with i e m =
    same_mono _ _ (λ k small. exp-· (symbol i) (with_exponent (place i) e m) k small
    ∙ ap₂ ◌+◌ (exp-symbol i k small) (exp-with_exponent (place i) e m k small) ∙ by (eqb k (place i)) (exp m k)
    ∙ sym (exp-with_exponent (place i) (suc e) m k small))
  where
    by : (b : Bool) (n : ℕ) → cond b 1 0 + cond b e n ≡ cond b (suc e) n
    by true n = omega arith
    by false n = omega arith

pub lower-with : (i : Name) (e : ℕ) (m : Mono) → lower i (with_exponent (place i) e m) ≡ with_exponent (place i) (e - 1) m
lower-with i e m =
    same_mono _ _ (λ k small. exp-lower i (with_exponent (place i) e m) k small
    ∙ ap₂ ◌-◌ (exp-with_exponent (place i) e m k small) (plus_nat_is i k) ∙ by (eqb k (place i)) (exp m k)
    ∙ sym (exp-with_exponent (place i) (e - 1) m k small))
  where
    by : (b : Bool) (n : ℕ) → cond b e n - cond b 1 0 ≡ cond b (e - 1) n
    by true n = refl
    by false n = omega arith

-- ---- powers, name after name

-- the exponents of the names from the number j on
from : ℕ → Mono → Mono
from j m = mono (λ k. cond (ltb k j) 0 (exp m k))

exp-from : (j : ℕ) (m : Mono) (k : ℕ) → k < 6 → exp (from j m) k ≡ cond (ltb k j) 0 (exp m k)
unfolding from
exp-from j m k small = exp-mono _ k small

exp-over :
    (n : ℕ) (i : Name) (w : Mono) (k : ℕ) → k < 6 →
    exp (times_over n (λ w. symbol i · w) w) k ≡ cond (eqb k (place i)) n 0 + exp w k
exp-over zero i w k small = by (eqb k (place i)) (exp w k)
  where
    by : (b : Bool) (x : ℕ) → x ≡ cond b 0 0 + x
    by true x = omega arith
    by false x = omega arith
exp-over (suc n) i w k small =
    exp-· (symbol i) _ k small ∙ ap₂ ◌+◌ (exp-symbol i k small) (exp-over n i w k small) ∙ by (eqb k (place i)) (exp w k)
  where
    by : (b : Bool) (x : ℕ) → cond b 1 0 + (cond b n 0 + x) ≡ cond b (suc n) 0 + x
    by true x = omega arith
    by false x = omega arith

-- the power of one name, and the names after it
first_name : (i : Name) (m : Mono) → times_over (exp m (place i)) (λ w. symbol i · w) (from (suc (place i)) m) ≡ from (place i) m
first_name i m =
    same_mono _ _ (λ k small. exp-over (exp m (place i)) i (from (suc (place i)) m) k small
    ∙ ap (λ n. cond (eqb k (place i)) (exp m (place i)) 0 + n) (exp-from (suc (place i)) m k small)
    ∙ parted k (place i) ∙ sym (exp-from (place i) m k small))
  where
    parted :
        (k j : ℕ) → cond (eqb k j) (exp m j) 0 + cond (ltb k (suc j)) 0 (exp m k) ≡ cond (ltb k j) 0 (exp m k)
    parted k j = by (eqb k j) (ltb k j) (ltb k (suc j)) refl refl refl
      where
        by :
            (here before reached : Bool) → eqb k j ≡ here → ltb k j ≡ before → ltb k (suc j) ≡ reached →
            cond here (exp m j) 0 + cond reached 0 (exp m k) ≡ cond before 0 (exp m k)
        by true true reached p q r =
            let same : k ≡ j = eqb-true k j p in
            let less : k < j = ltb-true k j q in
            absurd (omega arith)
        by true false true p q r = let same : exp m k ≡ exp m j = ap (exp m) (eqb-true k j p) in omega arith
        by true false false p q r =
            let same : k ≡ j = eqb-true k j p in
            let more : suc j ≤ k = ltb-false k (suc j) r in
            absurd (omega arith)
        by false true true p q r = refl
        by false true false p q r =
            let less : k < j = ltb-true k j q in
            let more : suc j ≤ k = ltb-false k (suc j) r in
            absurd (omega arith)
        by false false true p q r =
            let less : k < suc j = ltb-true k (suc j) r in
            let more : j ≤ k = ltb-false k j q in
            let same : eqb k j ≡ true = eq-eqb k j (omega arith) in
            absurd (different (sym p ∙ same))
          where
            different : false ≡ true → ⊥
            different e = cc
        by false false false p q r = omega arith

from_none : (m : Mono) → from 6 m ≡ unit
from_none m = same_mono _ _ (λ k small. exp-from 6 m k small ∙ ap (λ b. cond b 0 (exp m k)) (lt-ltb k 6 small) ∙ sym (exp-unit k small))

from_all : (m : Mono) → from 0 m ≡ m
from_all m = same_mono _ _ (λ k small. exp-from 0 m k small ∙ ap (λ b. cond b 0 (exp m k)) (not_before k (ltb k 0) refl))
  where
    not_before : (k : ℕ) (b : Bool) → ltb k 0 ≡ b → b ≡ false
    not_before k true less = let none : k < 0 = ltb-true k 0 less in absurd (omega arith)
    not_before k false less = refl

module _ {V : Type 0} (D : Name → V → V) (commute : (i j : Name) (v : V) → D i (D j v) ≡ D j (D i v)) where
  power-over : (n : ℕ) (i : Name) (w : Mono) (v : V) → power D (times_over n (λ w. symbol i · w) w) v ≡ times_over n (D i) (power D w v)
  power-over zero i w v = refl
  power-over (suc n) i w v = power_symbol D commute i _ v ∙ ap (D i) (power-over n i w v)

  power-from :
      (i : Name) (m : Mono) (v : V) →
      power D (from (place i) m) v ≡ times_over (exp m (place i)) (D i) (power D (from (suc (place i)) m) v)
  power-from i m v =
      ap (λ w. power D w v) (sym (first_name i m)) ∙ power-over (exp m (place i)) i (from (suc (place i)) m) v

  -- the symbols of the names below n, the last name first
  abbrev pub power_below : ℕ → Mono → V → V
  power_below zero m v = v
  power_below (suc n) m v = power_below n m (times_over (exp m n) (D (name_with n)) v)

  below-from : (n : ℕ) → n ≤ number_of_names → (m : Mono) (v : V) → power_below n m (power D (from n m) v) ≡ power D m v
  below-from zero small m v = ap (λ w. power D w v) (from_all m)
  below-from (suc n) small m v =
      let here : place (name_with n) ≡ n = place-name_with n (omega arith) in
      ap (power_below n m) (sym (subst (λ k. power D (from k m) v ≡ times_over (exp m k) (D (name_with n)) (power D (from (suc k) m) v)) here
      (power-from (name_with n) m v)))
      ∙ below-from n (omega arith) m v

  pub power-is : (m : Mono) (v : V) → power D m v ≡ power_below number_of_names m v
  power-is m v =
      sym (below-from number_of_names (omega arith) m v)
      ∙ ap (power_below number_of_names m) (ap (λ w. power D w v) (from_none m) ∙ power_unit D v)
