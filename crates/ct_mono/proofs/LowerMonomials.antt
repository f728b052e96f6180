-- When a monomial is below another of the same total, and the exponents and the total of a name. Main lemmas `less_at`,
-- `times_less`, `total-symbol`, `exp-own`, `exp-other`, cited by `ListingLaws` and the functions of the listing.
use Rattle.std.specs.Prelude.{◌≡◌, ◌≢◌, refl, ℕ, zero, suc, ◌<◌, ◌≤◌, List, [], ◌∷◌, length, get_or, cond, eqb}
use Rattle.std.proofs.Common.{sym, ◌∙◌, ap, ap₂, arith, Less, Equal, nat_cmp}
use Rattle.std.proofs.lemmas.Bool.{eq-eqb, ne_eqb}
use Rattle.std.specs.Cmp.Lexicographic.{slice_cmp}
use Rattle.std.specs.Cmp.{nat_cmp_is}
use Rattle.std.specs.Ordering.{ordering_then}
use Rattle.ct_algebra.specs.Monomial.{Mono, exp, mono, unit, total, ◌·◌, mono_cmp, graded, same_mono, exp-unit, ·_comm, mono_ordered}
use Rattle.ct_algebra.specs.Names.{Name, x0, x1, x2, x3, x4, x5, name_with, symbol, exp-symbol}
use Rattle.ct_algebra.proofs.MonomialLists.{exp-le-total}
use Rattle.ct_mono.proofs.ExponentLaws.{place-name_with}

slice_cmp-first :
    (xs ys : List ℕ) (j : ℕ) → j < length xs → j < length ys →
    ((k : ℕ) → k < j → get_or xs k 0 ≡ get_or ys k 0) → get_or xs j 0 < get_or ys j 0 → slice_cmp nat_cmp xs ys ≡ Less
slice_cmp-first [] ys j small also same less = absurd (omega arith)
slice_cmp-first (x ∷ xs) [] j small also same less = absurd (omega arith)
slice_cmp-first (x ∷ xs) (y ∷ ys) zero small also same less =
    ap (λ r. ordering_then r (slice_cmp nat_cmp xs ys)) (sym (nat_cmp_is x y Less less))
slice_cmp-first (x ∷ xs) (y ∷ ys) (suc j) small also same less =
    ap (λ r. ordering_then r (slice_cmp nat_cmp xs ys)) (sym (nat_cmp_is x y Equal (same 0 (omega arith))))
    ∙ slice_cmp-first xs ys j (omega arith) (omega arith) (λ k earlier. same (suc k) (omega arith)) less

-- of equal totals, the first exponent that differs decides
pub less_at :
    (m n : Mono) (j : ℕ) → j < 6 → total m ≡ total n → ((k : ℕ) → k < j → exp m k ≡ exp n k) → exp m j < exp n j →
    mono_cmp m n ≡ Less
unfolding mono_cmp graded total exp
less_at m n j small totals same less =
    ap (λ r. ordering_then r (slice_cmp nat_cmp m.exps n.exps)) (sym (nat_cmp_is (total m) (total n) Equal totals))
    ∙ slice_cmp-first m.exps n.exps j (omega (arith, m.six)) (omega (arith, n.six)) same less

pub times_less : (x m n : Mono) → mono_cmp m n ≡ Less → mono_cmp (x · m) (x · n) ≡ Less
times_less x m n less = ap₂ mono_cmp (·_comm x m) (·_comm x n) ∙ mono_ordered.shifted x m n ∙ less

-- ---- totals

exp-total : (m : Mono) (i : ℕ) → i < 6 → exp m i ≤ total m
unfolding exp total
exp-total m i small = exp-le-total m.exps i (omega (arith, m.six))

pub no_total : (m : Mono) → total m ≡ 0 → m ≡ unit
no_total m none = same_mono m unit (λ i small. omega (arith, exp-total m i small, exp-unit i small))

pub total-symbol : (i : Name) → total (symbol i) ≡ 1
unfolding total symbol mono
total-symbol x0 = refl
total-symbol x1 = refl
total-symbol x2 = refl
total-symbol x3 = refl
total-symbol x4 = refl
total-symbol x5 = refl

-- ---- names

pub exp-own : (i k : ℕ) → i < 6 → k ≡ i → exp (symbol (name_with i)) k ≡ 1
exp-own i k small same =
    exp-symbol (name_with i) k (omega arith) ∙ ap (λ j. cond (eqb k j) 1 0) (place-name_with i small)
    ∙ ap (λ b. cond b 1 0) (eq-eqb k i same)

pub exp-other : (i k : ℕ) → i < 6 → k < 6 → k ≢ i → exp (symbol (name_with i)) k ≡ 0
exp-other i k small also differ =
    exp-symbol (name_with i) k also ∙ ap (λ j. cond (eqb k j) 1 0) (place-name_with i small)
    ∙ ap (λ b. cond b 1 0) (ne_eqb k i differ)
