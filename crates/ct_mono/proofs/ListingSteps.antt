-- The steps in which `append_of_total` makes the list of a total: 1 at total 0, nothing without names, and else the
-- monomials without the first name before those with it. Main lemmas `one_of_no_total`,
-- `both_parts_on_ok`, cited by that function, and `more_below`, cited by `up_to`.
use Rattle.std.specs.Prelude.{◌≡◌, refl, ℕ, zero, suc, ◌+◌, ◌-◌, ◌<◌, List, [], ◌∷◌, ◌++◌, map}
use Rattle.std.specs.Result.{OnOk}
use Rattle.std.proofs.lemmas.Result.{on_ok_weaker}
use Rattle.std.proofs.Common.{Result, sym, ◌∙◌, ap, ap₂, arith, append_assoc}
use Rattle.std.proofs.lemmas.List.{map-append}
use Rattle.ct_algebra.specs.Monomial.{Mono, unit, ◌·◌, ·-unit, ·_assoc, ·_comm}
use Rattle.ct_algebra.specs.Names.{name_with, symbol}
use Rattle.ct_mono.specs.Listing.{of_total, below}

pub one_of_no_total :
    (m : Mono) (ms ns : List Mono) (names : List ℕ) (t : ℕ) → t ≡ 0 → ns ≡ ms ++ m ∷ [] →
    ns ≡ ms ++ map (λ n. m · n) (of_total names t)
one_of_no_total m ms ns names zero none pushed = pushed ∙ by names
  where
    by : (names : List ℕ) → ms ++ m ∷ [] ≡ ms ++ map (λ n. m · n) (of_total names 0)
    by [] = ap (λ n. ms ++ n ∷ []) (sym (·-unit m))
    by (i ∷ names) = ap (λ n. ms ++ n ∷ []) (sym (·-unit m))
one_of_no_total m ms ns names (suc t) none pushed = cc

times_each :
    (m x : Mono) (ns : List Mono) → map (λ n. m · n) (map (λ n. x · n) ns) ≡ map (λ n. (m · x) · n) ns
times_each m x [] = refl
times_each m x (n ∷ ns) = ap₂ ◌∷◌ (sym (·_assoc m x n)) (times_each m x ns)

both_parts :
    (m : Mono) (ms ns ls : List Mono) (i : ℕ) (names : List ℕ) (t : ℕ) → 0 < t →
    ns ≡ ms ++ map (λ n. m · n) (of_total names t) →
    ls ≡ ns ++ map (λ n. (m · symbol (name_with i)) · n) (of_total (i ∷ names) (t - 1)) →
    ls ≡ ms ++ map (λ n. m · n) (of_total (i ∷ names) t)
both_parts m ms ns ls i names zero some first second = absurd (omega arith)
both_parts m ms ns ls i names (suc t) some first second =
    second ∙ ap₂ ◌++◌ first
    (ap (λ k. map (λ n. (m · symbol (name_with i)) · n) (of_total (i ∷ names) k)) (omega arith)
    ∙ sym (times_each m (symbol (name_with i)) (of_total (i ∷ names) t)))
    ∙ append_assoc ms _ _
    ∙ ap (λ l. ms ++ l) (sym
    (map-append (λ n. m · n) (of_total names (suc t))
    (map (λ n. symbol (name_with i) · n) (of_total (i ∷ names) t))))

-- the same of the call that appends the second part
pub both_parts_on_ok :
    {E : Type 0} (r : Result (Unit {0}) E) (m x y : Mono) (ms ns ls : List Mono) (i : ℕ) (others names : List ℕ)
    (t : ℕ) →
    0 < t → names ≡ i ∷ others → x ≡ symbol (name_with i) → y ≡ m · x →
    ns ≡ ms ++ map (λ n. m · n) (of_total others t) →
    OnOk r (ls ≡ ns ++ map (λ n. y · n) (of_total names (t - 1))) →
    OnOk r (ls ≡ ms ++ map (λ n. m · n) (of_total names t))
both_parts_on_ok r m x y ms ns ls i others names t some whole name product first =
    on_ok_weaker r (λ second.
    both_parts m ms ns ls i others t some first
    (second ∙ ap₂ (λ y names. ns ++ map (λ n. y · n) (of_total names (t - 1)))
    (product ∙ ap (λ x. m · x) name) whole)
    ∙ ap (λ names. ms ++ map (λ n. m · n) (of_total names t)) (sym whole))

one_times : (m : Mono) (ns : List Mono) → m ≡ unit → map (λ n. m · n) ns ≡ ns
one_times m [] one = refl
one_times m (n ∷ ns) one =
    ap₂ ◌∷◌ (ap (λ m. m · n) one ∙ ·_comm unit n ∙ ·-unit n) (one_times m ns one)

pub more_below :
    (names : List ℕ) (t : ℕ) (m : Mono) (ms ns : List Mono) → m ≡ unit → ms ≡ below names t →
    ns ≡ ms ++ map (λ n. m · n) (of_total names t) → ns ≡ below names (t + 1)
more_below names t m ms ns one before appended =
    let next : suc t ≡ t + 1 = omega arith in
    appended ∙ ap₂ ◌++◌ before (one_times m (of_total names t) one) ∙ ap (below names) next
