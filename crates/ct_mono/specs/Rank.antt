-- The place of a monomial among all monomials in rising order, at most: a number that falls where the monomial does.
--     value_in_base b xs    the list read as a number to the base b, first element first
--     lower_totals t        how many places are left for the totals below t
--     mono_rank m           the places of the lower totals, and the exponents as a number to the base total m + 1
-- Law `rank-less`: a lower monomial has a lower rank. So what makes a leading monomial fall ends.
-- Cited by the loops of exact division and left reduction, as their rank.
use Rattle.std.specs.Prelude.{◌≡◌, refl, ℕ, zero, suc, ◌+◌, ◌*◌, ◌<◌, ◌≤◌, List, [], ◌∷◌, length, get_or}
use Rattle.std.proofs.Common.{sym, ◌∙◌, ap, ap₂, subst, Ordering, Less, Equal, Greater, nat_cmp, arith}
use Rattle.std.specs.Cmp.Lexicographic.{slice_cmp}
use Rattle.std.specs.Cmp.{ranked}
use Rattle.std.specs.Ordering.{ordering_then, MatchOrdering}
use Rattle.std.proofs.Math.Nat.{mul-le-mul_left}
use Rattle.std.proofs.lemmas.List.Sums.{get_or-le-sum_by}
use Rattle.ct_algebra.specs.Monomial.{Mono, total, mono_cmp, graded}

abbrev pub power : ℕ → ℕ → ℕ
power b zero = 1
power b (suc n) = b * power b n

abbrev pub value_in_base : ℕ → List ℕ → ℕ
value_in_base b [] = 0
value_in_base b (x ∷ xs) = x * power b (length xs) + value_in_base b xs

abbrev pub lower_totals : ℕ → ℕ
lower_totals zero = 0
lower_totals (suc t) = lower_totals t + power (suc t) 6

unfoldable pub mono_rank : Mono → ℕ
mono_rank m = lower_totals (total m) + value_in_base (suc (total m)) m.exps

-- ---- digits

abbrev AllUnder : ℕ → List ℕ → Type 0
AllUnder b [] = Unit {0}
AllUnder b (x ∷ xs) = (x < b) × AllUnder b xs

all_under : (b : ℕ) (xs : List ℕ) → ((k : ℕ) → k < length xs → get_or xs k 0 < b) → AllUnder b xs
all_under b [] each = tt
all_under b (x ∷ xs) each = (each 0 (omega arith), all_under b xs (λ k small. each (suc k) (omega arith)))

value-lt : (b : ℕ) (xs : List ℕ) → AllUnder b xs → value_in_base b xs < power b (length xs)
value-lt b [] under = omega arith
value-lt b (x ∷ xs) under =
    let rest = value-lt b xs under.1 in
    let next : suc x ≤ b = let first = under.0 in omega arith in
    let times = mul-le-mul_left (power b (length xs)) next in
    omega (arith, times)

value-less :
    (b : ℕ) (xs ys : List ℕ) → length xs ≡ length ys → AllUnder b xs → AllUnder b ys → slice_cmp nat_cmp xs ys ≡ Less →
    value_in_base b xs < value_in_base b ys
value-less b [] [] long under also less = cc
value-less b [] (y ∷ ys) long under also less = absurd (omega arith)
value-less b (x ∷ xs) [] long under also less = absurd (omega arith)
value-less b (x ∷ xs) (y ∷ ys) long under also less =
    by (nat_cmp x y) (ranked x y _ refl) less (value-less b xs ys (omega arith) under.1 also.1)
  where
    places : power b (length xs) ≡ power b (length ys)
    places = ap (power b) (omega arith)

    by :
        (r : Ordering) → MatchOrdering r (x < y) (x ≡ y) (y < x) → ordering_then r (slice_cmp nat_cmp xs ys) ≡ Less →
        (slice_cmp nat_cmp xs ys ≡ Less → value_in_base b xs < value_in_base b ys) →
        x * power b (length xs) + value_in_base b xs < y * power b (length ys) + value_in_base b ys
    by Less order less rest =
        let bounded = value-lt b xs under.1 in
        let next : suc x ≤ y = omega arith in
        let times = mul-le-mul_left (power b (length xs)) next in
        rw (← places) (omega (arith, times))
    by Equal order less rest =
        let below = rest less in
        let first : x * power b (length xs) ≡ y * power b (length ys) = ap₂ ◌*◌ order places in
        omega arith
    by Greater order less rest = cc

-- ---- totals

lower_le : (s t : ℕ) → s ≤ t → lower_totals s ≤ lower_totals t
lower_le s zero most =
    let none : s ≡ 0 = omega arith in subst (λ s. lower_totals s ≤ 0) (sym none) (omega arith)
lower_le s (suc t) most = by (nat_cmp s (suc t)) (ranked s (suc t) _ refl) (lower_le s t)
  where
    by :
        (r : Ordering) → MatchOrdering r (s < suc t) (s ≡ suc t) (suc t < s) →
        (s ≤ t → lower_totals s ≤ lower_totals t) → lower_totals s ≤ lower_totals (suc t)
    by Less order lower = let before = lower (omega arith) in omega arith
    by Equal order lower = subst (λ s. lower_totals s ≤ lower_totals (suc t)) (sym order) (omega arith)
    by Greater order lower = absurd (omega arith)

under_total : (m : Mono) → AllUnder (suc (total m)) m.exps
unfolding total
under_total m =
    all_under _ m.exps (λ k small. let most = get_or-le-sum_by (λ x. x) m.exps k 0 small in omega arith)

lower-less :
    (s t : ℕ) (xs ys : List ℕ) → length xs ≡ 6 → AllUnder (suc s) xs → s < t →
    lower_totals s + value_in_base (suc s) xs < lower_totals t + value_in_base (suc t) ys
lower-less s t xs ys six under less =
    let bounded : value_in_base (suc s) xs < power (suc s) 6 = subst
    (λ k. value_in_base (suc s) xs < power (suc s) k) six (value-lt (suc s) xs under) in
    let before : lower_totals s + power (suc s) 6 ≤ lower_totals t = lower_le (suc s) t (omega arith) in
    joined (lower_totals s) (lower_totals t) (value_in_base (suc s) xs) (power (suc s) 6)
    (value_in_base (suc t) ys) bounded before
  where
    joined : (a b n p k : ℕ) → n < p → a + p ≤ b → a + n < b + k
    joined a b n p k bounded before = omega arith

same-less :
    (s t : ℕ) (xs ys : List ℕ) → length xs ≡ length ys → AllUnder (suc s) xs → AllUnder (suc t) ys → s ≡ t →
    slice_cmp nat_cmp xs ys ≡ Less →
    lower_totals s + value_in_base (suc s) xs < lower_totals t + value_in_base (suc t) ys
same-less s t xs ys long under also same less =
    let lower : value_in_base (suc s) xs < value_in_base (suc s) ys = value-less (suc s) xs ys long under
    (subst (λ k. AllUnder (suc k) ys) (sym same) also) less in
    subst (λ k. lower_totals s + value_in_base (suc s) xs < lower_totals k + value_in_base (suc k) ys) same
    (more (lower_totals s) _ _ lower)
  where
    more : (a n m : ℕ) → n < m → a + n < a + m
    more a n m less = omega arith

by_totals :
    (m n : Mono) (r : Ordering) → MatchOrdering r (total m < total n) (total m ≡ total n) (total n < total m) →
    ordering_then r (slice_cmp nat_cmp m.exps n.exps) ≡ Less → mono_rank m < mono_rank n
unfolding mono_rank
by_totals m n Less order less = lower-less (total m) (total n) m.exps n.exps m.six (under_total m) order
by_totals m n Equal order less =
    same-less (total m) (total n) m.exps n.exps (m.six ∙ sym n.six) (under_total m) (under_total n) order less
by_totals m n Greater order less = cc

pub rank-less : (m n : Mono) → mono_cmp m n ≡ Less → mono_rank m < mono_rank n
rank-less m n less =
    by_totals m n (nat_cmp (total m) (total n)) (ranked (total m) (total n) _ refl)
    (unfold mono_cmp graded total in less)
