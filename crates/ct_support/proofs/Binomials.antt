-- Counts of monomials as binomial coefficients: main lemmas `next_count` (the count with one more name, as the loop makes it) and
-- `few_of_three`, `few_of_four` (the bounds that keep it within 64 bits).
use Rattle.ct_support.proofs.Base.{◌≡◌, ℕ, zero, suc, ◌+◌, ◌*◌, ◌/◌, ◌<◌, ◌≤◌, refl, sym, ◌∙◌, ap, subst, arith, mul-div_cancel_left, mul-le-mul}
use Rattle.ct_support.proofs.Base.{mul_comm, inl, inr, ◌⊎◌, eq-or-lt_of_le}
use Rattle.ct_support.specs.ColumnCount.{monomial_count}

same_name :
    (n k x y u : ℕ) → suc n * u ≡ (k + n + 1) * x → suc k * y ≡ (n + k + 1) * x → suc n * (y + u) ≡ (suc k + n + 1) * y
same_name n k x y u first second = omega (arith, first, second)

same_total :
    (n k x y u : ℕ) → suc n * u ≡ (k + n + 1) * x → suc k * y ≡ (n + k + 1) * x → suc k * (y + u) ≡ (suc n + k + 1) * u
same_total n k x y u first second = omega (arith, first, second)

of_no_total : (n : ℕ) → monomial_count n 0 ≡ 1
of_no_total zero = refl
of_no_total (suc n) = refl

next_name :
    (n : ℕ) → ((k : ℕ) → suc k * monomial_count n (suc k) ≡ (n + k + 1) * monomial_count n k) → (k : ℕ) →
    suc n * monomial_count (suc n) k ≡ (k + n + 1) * monomial_count n k
next_name n totals zero = let one = of_no_total n in omega (arith, ap (λ m. (0 + n + 1) * m) one)
next_name n totals (suc k) =
    same_name n k (monomial_count n k) (monomial_count n (suc k)) (monomial_count (suc n) k) (next_name n totals k) (totals k)

next_total : (n k : ℕ) → suc k * monomial_count n (suc k) ≡ (n + k + 1) * monomial_count n k
next_total zero k = omega arith
next_total (suc n) k =
    same_total n k (monomial_count n k) (monomial_count n (suc k)) (monomial_count (suc n) k) (next_name n (next_total n) k)
    (next_total n k)

-- one more name: as the loop goes on
next : (n k : ℕ) → suc n * monomial_count (suc n) k ≡ monomial_count n k * (k + n + 1)
next n k = next_name n (next_total n) k ∙ mul_comm (k + n + 1) (monomial_count n k)

pub next_count : (n k m : ℕ) → m ≡ monomial_count n k → m * (k + n + 1) / (n + 1) ≡ monomial_count (n + 1) k
next_count n k m is =
    let more : n + 1 ≡ suc n = omega arith in
    ap (λ m. m * (k + n + 1) / (n + 1)) is ∙ ap (λ s. monomial_count n k * (k + n + 1) / s) more
    ∙ ap (λ m. m / suc n) (sym (next n k)) ∙ mul-div_cancel_left (monomial_count (suc n) k) (omega arith)
    ∙ ap (λ s. monomial_count s k) (sym more)

-- ---- bounds, where the total has 16 bits

module _ (k : ℕ) (small : k < 65536) where
  step : (n most : ℕ) → monomial_count n k ≤ most → suc n * monomial_count (suc n) k ≤ most * (65536 + n)
  step n most few =
      let product : monomial_count n k * (k + n + 1) ≤ most * (65536 + n) = mul-le-mul few (omega (arith, small)) in
      omega (arith, next n k, product)

  of_one : monomial_count 1 k ≤ 65536
  of_one = let most = step 0 1 (omega arith) in omega (arith, most)

  of_two : monomial_count 2 k ≤ 2147516416
  of_two = let most = step 1 65536 of_one in omega (arith, most)

  of_three : monomial_count 3 k ≤ 46914643623936
  of_three = let most = step 2 2147516416 of_two in omega (arith, most)

  pub few_of_four : monomial_count 4 k ≤ 1000000000000000000
  few_of_four = let most = step 3 46914643623936 of_three in omega (arith, most)

  pub few_of_three : (n : ℕ) → n < 4 → monomial_count n k ≤ 46914643623936
  few_of_three zero below = omega arith
  few_of_three (suc zero) below = let most = of_one in omega (arith, most)
  few_of_three (suc (suc zero)) below = let most = of_two in omega (arith, most)
  few_of_three (suc (suc (suc zero))) below = of_three
  few_of_three (suc (suc (suc (suc n)))) below = absurd (omega (arith, below))

  pub few_of_names : (n : ℕ) → n ≤ 4 → monomial_count n k ≤ 1000000000000000000
  few_of_names n most = by (eq-or-lt_of_le most)
    where
      by : (n ≡ 4) ⊎ (n < 4) → monomial_count n k ≤ 1000000000000000000
      by (inl four) = subst (λ n. monomial_count n k ≤ 1000000000000000000) (sym four) few_of_four
      by (inr less) = let few = few_of_three n less in omega (arith, few)
