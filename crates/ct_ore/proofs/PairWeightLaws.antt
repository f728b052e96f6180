-- Binomial numbers and falling powers: what the count and the weight of a pair are made of.
-- Main lemmas: `ways-next` (from the number before one term to the next, as code goes), `ways_in_all-is` (all of them add
-- up to the weight), `derivation_weight-min`, `weight-positive` and `how_many-positive`. By induction over Pascal's rule.
use Rattle.ct_ore.proofs.Base.{◌≡◌, refl, ℕ, zero, suc, ◌+◌, ◌-◌, ◌*◌, ◌^◌, ◌<◌, ◌≤◌, min, cond, Bool, true, false, sym, ◌∙◌, ap, ap₂, subst, arith}
use Rattle.ct_ore.proofs.Base.{ltb, pow-suc, mul-zero, zero-mul, eq-or-lt_of_le, mul-pos, inl, inr, ◌⊎◌, lt-ltb, Action, Shift, Derive, Still}
use Rattle.ct_ore.proofs.Base.{by_action}
use Rattle.ct_ore.specs.Kinds.{choose, falling_power, ways_below, derivation_weight, how_many, ways, weight}
use native.Mathlib.Nat.{pow-zero}

-- ---- past the end

pub choose-past : (k j : ℕ) → k < j → choose k j ≡ 0
choose-past k zero past = absurd (omega arith)
choose-past zero (suc j) past = refl
choose-past (suc k) (suc j) past =
    let one : choose k j ≡ 0 = choose-past k j (omega arith) in
    let other : choose k (suc j) ≡ 0 = choose-past k (suc j) (omega arith) in
    omega arith

pub falling_power-past : (e j : ℕ) → e < j → falling_power e j ≡ 0
falling_power-past e zero past = absurd (omega arith)
falling_power-past e (suc j) past = by (eq-or-lt_of_le (omega arith)) (falling_power-past e j)
  where
    by : (e ≡ j) ⊎ (e < j) → (e < j → falling_power e j ≡ 0) → falling_power e j * (e - j) ≡ 0
    by (inl same) before =
        let none : e - j ≡ 0 = omega arith in
        ap (λ d. falling_power e j * d) none ∙ mul-zero _
    by (inr less) before = ap (λ n. n * (e - j)) (before less) ∙ zero-mul _

-- ---- one more

last_choice : (b c j : ℕ) → b ≡ 0 → c * suc (suc j) ≡ 0 → (b + c) * suc (suc j) ≡ 0
last_choice b c j none last = ap (λ x. (x + c) * suc (suc j)) none ∙ omega arith

more_choices :
    (a b c j d : ℕ) → b * suc j ≡ a * suc d → c * suc (suc j) ≡ b * d → (b + c) * suc (suc j) ≡ (a + b) * suc d
more_choices a b c j d one other = omega arith

-- choose k (j + 1) times (j + 1) is choose k j times (k - j)
pub choose-suc : (k j : ℕ) → choose k (suc j) * suc j ≡ choose k j * (k - j)
choose-suc zero zero = omega arith
choose-suc zero (suc j) = omega arith
choose-suc (suc k) zero = omega (arith, choose-suc k zero)
choose-suc (suc k) (suc j) = by (k - j) refl (choose-suc k j) (choose-suc k (suc j))
  where
    by :
        (d : ℕ) → k - j ≡ d → choose k (suc j) * suc j ≡ choose k j * (k - j) →
        choose k (suc (suc j)) * suc (suc j) ≡ choose k (suc j) * (k - suc j) →
        (choose k (suc j) + choose k (suc (suc j))) * suc (suc j) ≡ (choose k j + choose k (suc j)) * (suc k - suc j)
    by zero same one other =
        let none : choose k (suc j) ≡ 0 = choose-past k (suc j) (omega arith) in
        let left : suc k - suc j ≡ 0 = omega arith in
        last_choice (choose k (suc j)) (choose k (suc (suc j))) j none (other ∙ ap (λ n. n * (k - suc j)) none ∙ zero-mul _)
        ∙ sym (ap (λ n. (choose k j + choose k (suc j)) * n) left ∙ mul-zero _)
    by (suc d) same one other =
        let left : suc k - suc j ≡ suc d = omega arith in
        let less : k - suc j ≡ d = omega arith in
        more_choices (choose k j) (choose k (suc j)) (choose k (suc (suc j))) j d (one ∙ ap (λ n. choose k j * n) same)
        (other ∙ ap (λ n. choose k (suc j) * n) less)
        ∙ ap (λ n. (choose k j + choose k (suc j)) * n) (sym left)

-- what takes the number before a term to that of the next, up to the division by j + 1
abbrev pub step : Action → ℕ → ℕ → ℕ → ℕ
step t k e j = by_action t ((e - j) * k) ((k - j) * (e - j)) (suc j)

scaled : (a b d p g j : ℕ) → b * suc j ≡ a * d → (b * (p * g)) * suc j ≡ (a * p) * (d * g)
scaled a b d p g j same = omega (arith, ap (λ n. n * (p * g)) same)

pub ways-next : (t : Action) (k e j : ℕ) → ways t k e (suc j) * suc j ≡ ways t k e j * step t k e j
ways-next Shift k e j =
    ap (λ n. (choose e (suc j) * n) * suc j) (pow-suc k j)
    ∙ scaled (choose e j) (choose e (suc j)) (e - j) (k ^ j) k j (choose-suc e j)
ways-next Derive k e j =
    scaled (choose k j) (choose k (suc j)) (k - j) (falling_power e j) (e - j) j (choose-suc k j)
ways-next Still k e j = refl

-- ---- the numbers of all terms

-- the numbers before the terms that lower the power by less than n
abbrev pub ways_in_all : Action → ℕ → ℕ → ℕ → ℕ
ways_in_all t zero k e = 0
ways_in_all t (suc n) k e = ways_in_all t n k e + ways t k e n

derived_ways : (n k e : ℕ) → ways_in_all Derive n k e ≡ ways_below n k e
derived_ways zero k e = refl
derived_ways (suc n) k e = ap (λ m. m + choose k n * falling_power e n) (derived_ways n k e)

ways_below-past : (n k e : ℕ) → e < n → ways_below n k e ≡ ways_below (suc e) k e
ways_below-past zero k e past = absurd (omega arith)
ways_below-past (suc n) k e past = by (eq-or-lt_of_le (omega arith)) (ways_below-past n k e)
  where
    by :
        (e ≡ n) ⊎ (e < n) → (e < n → ways_below n k e ≡ ways_below (suc e) k e) →
        ways_below n k e + choose k n * falling_power e n ≡ ways_below (suc e) k e
    by (inl same) before = ap (λ m. ways_below (suc m) k e) (sym same)
    by (inr less) before =
        let none : choose k n * falling_power e n ≡ 0 = ap (λ m. choose k n * m) (falling_power-past e n less) ∙ mul-zero _ in
        let same : ways_below n k e ≡ ways_below (suc e) k e = before less in
        omega arith

-- the sum may stop at the smaller of both
pub derivation_weight-min : (k e : ℕ) → derivation_weight k e ≡ ways_below (min k e + 1) k e
unfolding derivation_weight
derivation_weight-min k e = by (eq-or-lt_of_le (omega arith))
  where
    by : (min k e ≡ k) ⊎ (min k e < k) → ways_below (k + 1) k e ≡ ways_below (min k e + 1) k e
    by (inl same) = ap (λ n. ways_below (n + 1) k e) (sym same)
    by (inr less) =
        let least : suc e ≡ min k e + 1 = omega arith in
        ways_below-past (k + 1) k e (omega arith) ∙ ap (λ n. ways_below n k e) least

-- Pascal's rule, added up
shift_ways-suc :
    (n k e : ℕ) → ways_in_all Shift (suc n) k (suc e) ≡ ways_in_all Shift (suc n) k e + k * ways_in_all Shift n k e
shift_ways-suc zero k e = omega (arith, mul-zero k)
shift_ways-suc (suc n) k e =
    ap₂ ◌+◌ (shift_ways-suc n k e) (ap (λ p. (choose e n + choose e (suc n)) * p) (pow-suc k n))
    ∙ added (ways_in_all Shift (suc n) k e) (ways_in_all Shift n k e) k (choose e n) (choose e (suc n)) (k ^ n)
    ∙ ap (λ p. (ways_in_all Shift (suc n) k e + choose e (suc n) * p) + k * ways_in_all Shift (suc n) k e) (sym (pow-suc k n))
  where
    added :
        (s r k a b p : ℕ) → (s + k * r) + (a + b) * (p * k) ≡ (s + b * (p * k)) + k * (r + a * p)
    added s r k a b p = omega arith

-- the theorem of the binomial
shift_ways : (e k : ℕ) → ways_in_all Shift (suc e) k e ≡ (1 + k) ^ e
shift_ways zero k = ap (λ p. 0 + 1 * p) (pow-zero k) ∙ sym (pow-zero (1 + k))
shift_ways (suc e) k =
    let last : choose e (suc e) * k ^ suc e ≡ 0 = ap (λ n. n * k ^ suc e) (choose-past e (suc e) (omega arith)) ∙ zero-mul _ in
    shift_ways-suc (suc e) k e ∙ ap₂ (λ x y. (x + y) + k * x) (shift_ways e k) last
    ∙ multiplied ((1 + k) ^ e) k ∙ sym (pow-suc (1 + k) e)
  where
    multiplied : (p k : ℕ) → (p + 0) + k * p ≡ p * (1 + k)
    multiplied p k = omega arith

pub power_of_one : (m : ℕ) → 1 ^ m ≡ 1
power_of_one zero = refl
power_of_one (suc m) = pow-suc 1 m ∙ omega (arith, power_of_one m)

-- what `pair_weight` says, by the action
pub ways_in_all-is : (t : Action) (k e : ℕ) → ways_in_all t (how_many t k e) k e ≡ weight t k e
ways_in_all-is Shift zero e = sym (power_of_one e)
ways_in_all-is Shift (suc k) e =
    let some : cond (ltb 0 (suc k)) (e + 1) 1 ≡ e + 1 = ap (λ b. cond b (e + 1) 1) (lt-ltb 0 (suc k) (omega arith)) in
    let one_more : e + 1 ≡ suc e = omega arith in
    ap (λ n. ways_in_all Shift n (suc k) e) (some ∙ one_more) ∙ shift_ways e (suc k)
ways_in_all-is Derive k e = derived_ways (min k e + 1) k e ∙ sym (derivation_weight-min k e)
ways_in_all-is Still k e = refl

-- past the last term there is none

pub shift_few : (k e : ℕ) → how_many Shift k e ≤ suc e
shift_few k e = by (ltb 0 k)
  where
    by : (b : Bool) → cond b (e + 1) 1 ≤ suc e
    by true = omega arith
    by false = omega arith

pub shift_ways-past : (k e j : ℕ) → how_many Shift k e ≤ j → ways Shift k e j ≡ 0
shift_ways-past zero e zero past = absurd (omega arith)
shift_ways-past zero e (suc j) past = ap (λ p. choose e (suc j) * p) (pow-suc 0 j) ∙ omega (arith, mul-zero (choose e (suc j)))
shift_ways-past (suc k) e j past =
    let some : cond (ltb 0 (suc k)) (e + 1) 1 ≡ e + 1 = ap (λ b. cond b (e + 1) 1) (lt-ltb 0 (suc k) (omega arith)) in
    ap (λ n. n * suc k ^ j) (choose-past e j (omega arith)) ∙ zero-mul _

pub derived_ways-past : (k e j : ℕ) → how_many Derive k e ≤ j → ways Derive k e j ≡ 0
derived_ways-past k e j past = by (eq-or-lt_of_le (omega arith))
  where
    by : (min k e ≡ k) ⊎ (min k e < k) → choose k j * falling_power e j ≡ 0
    by (inl same) = ap (λ n. n * falling_power e j) (choose-past k j (omega arith)) ∙ zero-mul _
    by (inr less) = ap (λ n. choose k j * n) (falling_power-past e j (omega arith)) ∙ mul-zero _

-- ---- no name makes less of a term

pub power_positive : (n e : ℕ) → 0 < n → 0 < n ^ e
power_positive n zero some = subst (λ m. 0 < m) (sym (pow-zero n)) (omega arith)
power_positive n (suc e) some = subst (λ m. 0 < m) (sym (pow-suc n e)) (mul-pos (power_positive n e some) some)

ways_below-positive : (n k e : ℕ) → 0 < ways_below (suc n) k e
ways_below-positive zero k e = omega arith
ways_below-positive (suc n) k e =
    let before : 0 < ways_below (suc n) k e = ways_below-positive n k e in
    omega arith

pub weight-positive : (t : Action) (k e : ℕ) → 0 < weight t k e
unfolding derivation_weight
weight-positive Shift k e = power_positive (1 + k) e (omega arith)
weight-positive Derive k e =
    let one_more : k + 1 ≡ suc k = omega arith in
    subst (λ n. 0 < ways_below n k e) (sym one_more) (ways_below-positive k k e)
weight-positive Still k e = omega arith

pub how_many-positive : (t : Action) (k e : ℕ) → 0 < how_many t k e
how_many-positive Shift k e = by (ltb 0 k)
  where
    by : (b : Bool) → 0 < cond b (e + 1) 1
    by true = omega arith
    by false = omega arith
how_many-positive Derive k e = omega arith
how_many-positive Still k e = omega arith
