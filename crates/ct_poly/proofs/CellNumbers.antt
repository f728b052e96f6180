-- The numbers of the cells of a box: main lemmas `cell_small`, `same_cell` (different monomials have different cells) and
-- `cell_of-·` (the number of a product is the sum of the numbers).
-- A number is a row of digits, the exponents, each below its own base; so digits are told apart from the last one on.
use Rattle.ct_poly.proofs.Base.{◌≡◌, refl, ℕ, zero, suc, ◌+◌, ◌*◌, ◌-◌, ◌≤◌, ◌<◌, Ordering, Less, Equal, Greater, nat_cmp, ◌∙◌, ap, subst, arith}
use Rattle.ct_poly.proofs.Base.{mul-le-mul_right, below_more, Mono, exp, total, same_mono, ◌·◌, exp-·, Divides, total-with_exponent}
use Rattle.std.specs.Cmp.{ranked}
use Rattle.std.specs.Ordering.{MatchOrdering}
use Rattle.ct_poly.specs.Cells.{most_cells, cells_below, cell_below, cells_of, cell_of}
use Rattle.ct_poly.proofs.CommonMonomials.{divides_exp}

-- one more digit stays below
pub more_small : (a c w e : ℕ) → a < c → e < w → a * w + e < c * w
more_small a c w e first last = let rows : suc a * w ≤ c * w = mul-le-mul_right w (omega (arith, first)) in omega (arith, rows, last)

-- numbers with the same last digit and the same others are the same, and no other numbers
same_digits : (a b w d e : ℕ) → d < w → e < w → a * w + d ≡ b * w + e → (a ≡ b) × (d ≡ e)
same_digits a b w d e first last same = by (nat_cmp a b) (ranked a b _ refl)
  where
    by : (r : Ordering) → MatchOrdering r (a < b) (a ≡ b) (b < a) → (a ≡ b) × (d ≡ e)
    by Less less = absurd (omega (arith, same, more_small a b w d less first))
    by Equal equal = (equal, omega (arith, same, ap (λ n. n * w) equal))
    by Greater greater = absurd (omega (arith, same, more_small b a w e greater last))

abbrev pub IsBelow : ℕ → Mono → Mono → Type 0
IsBelow n m tops = (i : ℕ) → i < n → exp m i ≤ exp tops i

lower : (n : ℕ) (m tops : Mono) → IsBelow (suc n) m tops → IsBelow n m tops
lower n m tops below i small = below i (omega (arith, small))

pub digits_small : (n : ℕ) (tops m : Mono) → IsBelow n m tops → cell_below n tops m < cells_below n tops
digits_small zero tops m below = omega arith
digits_small (suc n) tops m below =
    more_small (cell_below n tops m) (cells_below n tops) (suc (exp tops n)) (exp m n) (digits_small n tops m (lower n m tops below))
    (omega (arith, below n (omega arith)))

digits_apart :
    (n : ℕ) (tops m k : Mono) → IsBelow n m tops → IsBelow n k tops → cell_below n tops m ≡ cell_below n tops k →
    (i : ℕ) → i < n → exp m i ≡ exp k i
digits_apart zero tops m k mine its same i small = absurd (omega (arith, small))
digits_apart (suc n) tops m k mine its same i small =
    let both = same_digits (cell_below n tops m) (cell_below n tops k) (suc (exp tops n)) (exp m n) (exp k n)
    (omega (arith, mine n (omega arith))) (omega (arith, its n (omega arith))) same in
    below_more (λ i. exp m i ≡ exp k i) n (digits_apart n tops m k (lower n m tops mine) (lower n k tops its) both.0) both.1 i (omega (arith, small))

digits-· : (n : ℕ) (tops m k : Mono) → n ≤ 6 → cell_below n tops (m · k) ≡ cell_below n tops m + cell_below n tops k
digits-· zero tops m k six = refl
digits-· (suc n) tops m k six =
    omega (arith, ap (λ a. a * suc (exp tops n)) (digits-· n tops m k (omega (arith, six))), exp-· m k n (omega (arith, six)))

more_cells : (n k : ℕ) (tops : Mono) → cells_below n tops ≤ cells_below (k + n) tops
more_cells n zero tops =
    let none : n ≡ 0 + n = omega arith in
    subst (λ j. cells_below n tops ≤ cells_below j tops) none (let same : cells_below n tops ≤ cells_below n tops = omega arith in same)
more_cells n (suc k) tops =
    let next : suc (k + n) ≡ suc k + n = omega arith in
    subst (λ j. cells_below n tops ≤ cells_below j tops) next
    (omega (arith, more_cells n k tops, wider (cells_below (k + n) tops) (exp tops (k + n))))
  where
    wider : (c e : ℕ) → c ≤ c * suc e
    wider c e = omega arith

pub cells_below_le : (n : ℕ) (tops : Mono) → n ≤ 6 → cells_below n tops ≤ cells_of tops
unfolding cells_of
cells_below_le n tops six =
    let all : (6 - n) + n ≡ 6 = omega (arith, six) in
    subst (λ k. cells_below n tops ≤ cells_below k tops) all (more_cells n (6 - n) tops)

-- ---- all six names

pub cell_small : (tops m : Mono) → Divides m tops → cell_of tops m < cells_of tops
unfolding cells_of cell_of
cell_small tops m divides = digits_small 6 tops m (divides_exp m tops divides)

pub same_cell : (tops m k : Mono) → Divides m tops → Divides k tops → cell_of tops m ≡ cell_of tops k → m ≡ k
unfolding cell_of
same_cell tops m k mine its same =
    same_mono m k (digits_apart 6 tops m k (divides_exp m tops mine) (divides_exp k tops its) same)

pub cell_of-· : (tops m k : Mono) → cell_of tops (m · k) ≡ cell_of tops m + cell_of tops k
unfolding cell_of
cell_of-· tops m k = digits-· 6 tops m k (omega arith)

-- ---- the loops

pub exp_total : (m : Mono) (i : ℕ) → i < 6 → exp m i ≤ total m
exp_total m i small = omega (arith, total-with_exponent i 0 m small)

pub cell_more : (i : ℕ) (tops m : Mono) → cell_below (i + 1) tops m ≡ cell_below i tops m * (exp tops i + 1) + exp m i
cell_more i tops m =
    let next : i + 1 ≡ suc i = omega arith in
    let wide : suc (exp tops i) ≡ exp tops i + 1 = omega arith in
    ap (λ n. cell_below n tops m) next ∙ ap (λ w. cell_below i tops m * w + exp m i) wide

pub cell_fits : (i : ℕ) (tops m : Mono) → i < 6 → Divides m tops → cells_of tops ≤ most_cells →
    cell_below i tops m * (exp tops i + 1) + exp m i < most_cells
cell_fits i tops m small divides few =
    let next : suc i ≤ 6 = omega (arith, small) in
    let all = divides_exp m tops divides in
    let below : cell_below (suc i) tops m < cells_below (suc i) tops = digits_small (suc i) tops m (λ k less. all k (omega (arith, less, small))) in
    let wide : suc (exp tops i) ≡ exp tops i + 1 = omega arith in
    omega (arith, below, few, cells_below_le (suc i) tops next, ap (λ w. cell_below i tops m * w) wide)

pub all_cells : {i : ℕ} (tops : Mono) → i ≡ 6 → cells_below i tops ≡ cells_of tops
unfolding cells_of
all_cells tops all = ap (λ n. cells_below n tops) all

pub all_digits : {i : ℕ} (tops m : Mono) → i ≡ 6 → cell_below i tops m ≡ cell_of tops m
unfolding cell_of
all_digits tops m all = ap (λ n. cell_below n tops m) all
