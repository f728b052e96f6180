-- What the code that computes the numbers before the terms of a pair needs of them: a quotient that is exact, and that no
-- number is larger than the weight. Main lemmas `exact_quotient`, `way-le-weight`.
use Rattle.ct_ore.proofs.Base.{◌≡◌, ℕ, zero, suc, ◌+◌, ◌-◌, ◌*◌, ◌/◌, ◌%◌, ◌<◌, ◌≤◌, eqb, false, ◌⊎◌, ◌∙◌, ap, arith, inl, inr}
use Rattle.std.specs.Prelude.{refl}
use Rattle.std.proofs.lemmas.Nat.{div-add-mod', div-mul-add, le-div}
use Rattle.ct_ore.specs.Kinds.{choose, falling_power, ways_below, derivation_weight}
use Rattle.ct_ore.proofs.PairWeightLaws.{choose-past}

-- a product over a divisor, taken apart before anything is multiplied
pub exact_quotient : (v n a b : ℕ) → 0 < b → v * b ≡ n * a → v ≡ n / b * a + n % b * a / b
exact_quotient v n a b some exact =
    by (v - n / b * a) refl
  where
    whole : n / b * b + n % b ≡ n
    whole = div-add-mod' n b

    spread : v * b ≡ n / b * a * b + n % b * a
    spread = exact ∙ omega (arith, ap (λ x. x * a) whole)

    small : n / b * a ≤ v
    small = le_of_products v (n / b * a) b (n % b * a) some spread
      where
        le_of_products : (v x b r : ℕ) → 0 < b → v * b ≡ x * b + r → x ≤ v
        le_of_products v x b r some e =
            let more : x * b ≤ v * b = omega arith in
            let back : v * b / b ≡ v = ap (λ y. y / b) (omega arith) ∙ div-mul-add v b 0 some in
            omega (arith, le-div x (v * b) b some more, back)

    by : (d : ℕ) → v - n / b * a ≡ d → v ≡ n / b * a + n % b * a / b
    by d e =
        let sum : v ≡ n / b * a + d = omega (arith, small, e) in
        let rest : n % b * a ≡ d * b + 0 = omega (arith, spread, ap (λ x. x * b) sum) in
        let part : n % b * a / b ≡ d = ap (λ x. x / b) rest ∙ div-mul-add d b 0 some in
        omega (arith, small, part)

-- ---- the weight is the sum of the numbers

way-le-ways : (n k e j : ℕ) → j < n → choose k j * falling_power e j ≤ ways_below n k e
way-le-ways zero k e j below = absurd (omega arith)
way-le-ways (suc n) k e j below = by (split j n below) (way-le-ways n k e j)
  where
    split : (j n : ℕ) → j < suc n → (j < n) ⊎ (j ≡ n)
    split zero zero below = inr refl
    split zero (suc n) below = inl (omega arith)
    split (suc j) zero below = absurd (omega arith)
    split (suc j) (suc n) below = next (split j n (omega arith))
      where
        next : (j < n) ⊎ (j ≡ n) → (suc j < suc n) ⊎ (suc j ≡ suc n)
        next (inl l) = inl (omega arith)
        next (inr e) = inr (ap (λ x. suc x) e)

    by :
        (j < n) ⊎ (j ≡ n) → (j < n → choose k j * falling_power e j ≤ ways_below n k e) →
        choose k j * falling_power e j ≤ ways_below n k e + choose k n * falling_power e n
    by (inl l) before = omega (arith, before l)
    by (inr same) before = omega (arith, ap (λ x. choose k x * falling_power e x) same)

pub way-le-weight : (k e j : ℕ) → choose k j * falling_power e j ≤ derivation_weight k e
unfolding derivation_weight
way-le-weight k e j = by (within j k)
  where
    within : (j k : ℕ) → (j < k + 1) ⊎ (k < j)
    within zero k = inl (omega arith)
    within (suc j) zero = inr (omega arith)
    within (suc j) (suc k) = next (within j k)
      where
        next : (j < k + 1) ⊎ (k < j) → (suc j < suc k + 1) ⊎ (suc k < suc j)
        next (inl l) = inl (omega arith)
        next (inr l) = inr (omega arith)

    by : (j < k + 1) ⊎ (k < j) → choose k j * falling_power e j ≤ ways_below (k + 1) k e
    by (inl l) = way-le-ways (k + 1) k e j l
    by (inr l) = omega (arith, ap (λ x. x * falling_power e j) (choose-past k j l))

pub told_positive : (v : ℕ) → eqb v 0 ≡ false → 0 < v
told_positive zero told = cc
told_positive (suc v) told = omega arith
