-- What `up_to` lists: exactly the monomials in the names of total at most the degree, strictly rising. Main lemma
-- `up_to-listing`, cited by the function `up_to`. By induction over the names and then the total: those without the first
-- name come before those with it, since their exponent there is lower and no earlier name stands in either.
use Rattle.std.specs.Prelude.{◌≡◌, ◌≢◌, ℕ, zero, suc, ◌-◌, ◌<◌, ◌≤◌, List, [], ◌∷◌, ◌++◌, map, eqb, ◌⊎◌, true, false}
use Rattle.std.specs.List.{All, AllPairs, Contains}
use Rattle.std.proofs.Common.{sym, ◌∙◌, ap, subst, inl, inr, arith, refl, Less}
use Rattle.std.proofs.lemmas.Bool.Decides.{eqb_tells}
use Rattle.std.proofs.lemmas.List.Elements.{All-nil, All-cons, All-head, All-tail, All-append, All-map, All-weaker, Contains-append_left}
use Rattle.std.proofs.lemmas.List.Elements.{Contains-append_right}
use Rattle.ct_algebra.specs.Monomial.{Mono, exp, mono, unit, total, ◌·◌, mono_cmp, exp-mono, same_mono, exp-·, exp-unit, total-·, less_of_total}
use Rattle.ct_algebra.specs.Names.{name_with, symbol}
use Rattle.ct_mono.specs.Listing.{UsesOnly, IsListing, only_unit, with_first, of_total, below, up_to}
use Rattle.ct_mono.proofs.ExponentLaws.{total-unit}
use Rattle.ct_mono.proofs.ListPairs.{pairs_head, pairs_tail, pairs-append, pairs-map, Contains-map}
use Rattle.ct_mono.proofs.LowerMonomials.{less_at, times_less, no_total, total-symbol, exp-own, exp-other}

-- ---- the names of a monomial

not_later : (i : ℕ) (names : List ℕ) (k : ℕ) → All (λ j. i < j) names → k ≤ i → ¬ Contains names k
not_later i names k later before (place, small, is) = let above = later place k small in omega arith

not_of_more : (i : ℕ) (names : List ℕ) (k : ℕ) → k ≢ i → ¬ Contains names k → ¬ Contains (i ∷ names) k
not_of_more i names k differ none (zero, small, is) = differ (sym is)
not_of_more i names k differ none (suc place, small, is) = none (place, omega arith, is)

uses_more : (i : ℕ) (names : List ℕ) (m : Mono) → UsesOnly names m → UsesOnly (i ∷ names) m
uses_more i names m uses k small none =
    uses k small (λ (place, inside, is). none (suc place, omega arith, is))

-- ---- one more name

abbrev LessThan : Mono → Mono → Type 0
LessThan m n = mono_cmp m n ≡ Less

abbrev HasTotal : List ℕ → ℕ → Mono → Type 0
HasTotal names t m = (total m ≡ t) × UsesOnly names m

-- what the monomials of a total satisfy
record Listed (names : List ℕ) (t : ℕ) (ms : List Mono) : Type 0 where
  pub rises : AllPairs LessThan ms
  pub within : All (HasTotal names t) ms
  pub complete : (m : Mono) → total m ≡ t → UsesOnly names m → Contains ms m

-- the monomial 1, of total 0
listed_unit : (names : List ℕ) → Listed names 0 (unit ∷ [])
listed_unit names = record {
  rises = λ i j d order small. absurd (omega arith);
  within =
      All-cons (HasTotal names 0) unit [] (total-unit, λ i small none. exp-unit i small) (All-nil (HasTotal names 0));
  complete = λ m none uses. (0, omega arith, sym (no_total m none));
}

-- without names there is nothing else
listed_none : (t : ℕ) → Listed [] t (only_unit t)
listed_none zero = listed_unit []
listed_none (suc t) = record {
  rises = λ i j d order small. absurd (omega arith);
  within = All-nil (HasTotal [] (suc t));
  complete = λ m is uses.
      let no_names = same_mono m unit (λ i small. uses i small (λ (k, inside, _). absurd (omega arith))
      ∙ sym (exp-unit i small)) in
      absurd (omega (arith, is, ap total no_names, total-unit));
}

module _ (i : ℕ) (names : List ℕ) (small : i < 6) (later : All (λ j. i < j) names) where
  x : Mono
  x = symbol (name_with i)

  -- the monomial without one x
  less_one : Mono → Mono
  less_one m = mono (λ k. exp m k - exp x k)

  exp-x : (k : ℕ) → k < 6 → (exp x k ≡ 0) ⊎ ((k ≡ i) × (exp x k ≡ 1))
  unfolding x
  exp-x k inside = by (eqb_tells k i)
    where
      by : ((eqb k i ≡ true) × (k ≡ i)) ⊎ ((eqb k i ≡ false) × (k ≢ i)) → (exp (symbol (name_with i)) k ≡ 0) ⊎
          ((k ≡ i) × (exp (symbol (name_with i)) k ≡ 1))
      by (inl (_, same)) = inr (same, exp-own i k small same)
      by (inr (_, differ)) = inl (exp-other i k small inside differ)

  back : (m : Mono) → 0 < exp m i → x · less_one m ≡ m
  unfolding less_one
  back m some = same_mono _ _ (λ k inside. by k inside (exp-x k inside))
    where
      by : (k : ℕ) → k < 6 → (exp x k ≡ 0) ⊎ ((k ≡ i) × (exp x k ≡ 1)) →
          exp (x · mono (λ k. exp m k - exp x k)) k ≡ exp m k
      by k inside (inl none) =
          omega (arith, exp-· x (mono (λ k. exp m k - exp x k)) k inside, exp-mono (λ k. exp m k - exp x k) k inside)
      by k inside (inr (same, one)) =
          let here : 0 < exp m k = subst (λ k. 0 < exp m k) (sym same) some in
          omega (arith, exp-· x (mono (λ k. exp m k - exp x k)) k inside, exp-mono (λ k. exp m k - exp x k) k inside)

  total-less_one : (m : Mono) (t : ℕ) → 0 < exp m i → total m ≡ suc t → total (less_one m) ≡ t
  unfolding x
  total-less_one m t some is =
      omega (arith, ap total (back m some), total-· x (less_one m), total-symbol (name_with i))

  uses_less_one : (m : Mono) → UsesOnly (i ∷ names) m → UsesOnly (i ∷ names) (less_one m)
  unfolding less_one
  uses_less_one m uses k inside none = omega (arith, uses k inside none, exp-mono (λ k. exp m k - exp x k) k inside)

  uses_times : (m : Mono) → UsesOnly (i ∷ names) m → UsesOnly (i ∷ names) (x · m)
  uses_times m uses k inside none = by (exp-x k inside)
    where
      by : (exp x k ≡ 0) ⊎ ((k ≡ i) × (exp x k ≡ 1)) → exp (x · m) k ≡ 0
      by (inl no_x) = omega (arith, exp-· x m k inside, uses k inside none)
      by (inr (same, one)) = absurd (none (0, omega arith, sym same))

  uses_fewer : (m : Mono) → exp m i ≡ 0 → UsesOnly (i ∷ names) m → UsesOnly names m
  uses_fewer m none_here uses k inside none = by (eqb_tells k i)
    where
      by : ((eqb k i ≡ true) × (k ≡ i)) ⊎ ((eqb k i ≡ false) × (k ≢ i)) → exp m k ≡ 0
      by (inl (_, same)) = subst (λ k. exp m k ≡ 0) (sym same) none_here
      by (inr (_, differ)) = uses k inside (not_of_more i names k differ none)

  -- a monomial without x is below one with x, of the same total
  across :
      (m n : Mono) → total m ≡ total (x · n) → UsesOnly names m → UsesOnly (i ∷ names) n → mono_cmp m (x · n) ≡ Less
  unfolding x
  across m n totals uses_m uses_n =
      less_at m (x · n) i small totals
      (λ k earlier. uses_m k (omega arith) (not_later i names k later (omega arith))
      ∙ sym (uses_times n uses_n k (omega arith)
      (not_of_more i names k (omega arith) (not_later i names k later (omega arith)))))
      (omega (
        arith,
        uses_m i small (not_later i names i later (omega arith)),
        exp-· x n i small,
        exp-own i i small refl,
      ))

  total_times : (m : Mono) → total (x · m) ≡ suc (total m)
  unfolding x
  total_times m = omega (arith, total-· x m, total-symbol (name_with i))

  -- those of a total without x, and those of the total below with x once more
  module _ (t : ℕ) (fewer lower : List Mono) (without : Listed names (suc t) fewer)
      (before : Listed (i ∷ names) t lower) where
    with_x : List Mono
    with_x = map (λ m. x · m) lower

    step_rises : AllPairs LessThan (fewer ++ with_x)
    unfolding with_x
    step_rises =
        pairs-append LessThan fewer with_x without.rises
        (pairs-map LessThan (λ m. x · m) (times_less x) lower before.rises)
        (All-weaker (HasTotal names (suc t)) (λ m. All (LessThan m) with_x) above fewer without.within)
      where
        above : (m : Mono) → HasTotal names (suc t) m → All (LessThan m) (map (λ n. x · n) lower)
        above m (totals, uses) =
            All-map (LessThan m) (λ n. x · n) lower
            (All-weaker (HasTotal (i ∷ names) t) (λ n. LessThan m (x · n))
            (λ n (its, uses_n). across m n (omega (arith, totals, its, total_times n)) uses uses_n) lower
            before.within)

    step_within : All (HasTotal (i ∷ names) (suc t)) (fewer ++ with_x)
    unfolding with_x
    step_within =
        All-append (HasTotal (i ∷ names) (suc t)) fewer with_x
        (All-weaker (HasTotal names (suc t)) (HasTotal (i ∷ names) (suc t))
        (λ m (totals, uses). (totals, uses_more i names m uses)) fewer without.within)
        (All-map (HasTotal (i ∷ names) (suc t)) (λ m. x · m) lower
        (All-weaker (HasTotal (i ∷ names) t) (λ m. HasTotal (i ∷ names) (suc t) (x · m))
        (λ m (totals, uses). (omega (arith, totals, total_times m), uses_times m uses)) lower before.within))

    step_complete : (m : Mono) → total m ≡ suc t → UsesOnly (i ∷ names) m → Contains (fewer ++ with_x) m
    unfolding with_x
    step_complete m totals uses = by (exp m i) refl
      where
        by : (e : ℕ) → exp m i ≡ e → Contains (fewer ++ map (λ m. x · m) lower) m
        by zero none = Contains-append_left fewer _ m (without.complete m totals (uses_fewer m none uses))
        by (suc e) some =
            Contains-append_right fewer _ m
            (subst (Contains (map (λ m. x · m) lower)) (back m (omega arith))
            (Contains-map (λ m. x · m) lower (less_one m)
            (before.complete (less_one m) (total-less_one m t (omega arith) totals) (uses_less_one m uses))))

    listed_step : Listed (i ∷ names) (suc t) (fewer ++ with_x)
    listed_step = record { rises = step_rises; within = step_within; complete = step_complete }

  listed_with : (without : ℕ → List Mono) → ((t : ℕ) → Listed names t (without t)) → (t : ℕ) → Listed (i ∷ names) t
      (with_first x without t)
  unfolding with_x
  listed_with without listed zero = listed_unit (i ∷ names)
  listed_with without listed (suc t) =
      listed_step t (without (suc t)) (with_first x without t) (listed (suc t)) (listed_with without listed t)

listed_total :
    (names : List ℕ) → AllPairs (λ i j. i < j) names → All (λ i. i < 6) names → (t : ℕ) → Listed names t
    (of_total names t)
unfolding x
listed_total [] rise small t = listed_none t
listed_total (i ∷ names) rise small t =
    listed_with i names (All-head (λ i. i < 6) i names small) (pairs_head (λ i j. i < j) i names rise) (of_total names)
    (listed_total names (pairs_tail (λ i j. i < j) i names rise) (All-tail (λ i. i < 6) i names small)) t

-- ---- all totals up to the degree

abbrev IsBelow : List ℕ → ℕ → Mono → Type 0
IsBelow names n m = (total m < n) × UsesOnly names m

record ListedBelow (names : List ℕ) (n : ℕ) (ms : List Mono) : Type 0 where
  pub rises : AllPairs LessThan ms
  pub within : All (IsBelow names n) ms
  pub complete : (m : Mono) → total m < n → UsesOnly names m → Contains ms m

module _ (names : List ℕ) (listed : (t : ℕ) → Listed names t (of_total names t)) where
  listed_below : (n : ℕ) → ListedBelow names n (below names n)
  listed_below zero = record {
    rises = λ i j d order small. absurd (omega arith);
    within = All-nil (IsBelow names 0);
    complete = λ m less uses. absurd (omega arith);
  }
  listed_below (suc n) = more (below names n) (of_total names n) (listed_below n) (listed n)
    where
      more : (lower here : List Mono) → ListedBelow names n lower → Listed names n here → ListedBelow names (suc n)
          (lower ++ here)
      more lower here before now = record {
        rises = pairs-append LessThan lower here before.rises now.rises
            (All-weaker (IsBelow names n) (λ m. All (LessThan m) here)
            (λ m (less, uses). All-weaker (HasTotal names n) (LessThan m)
            (λ k (is, its). less_of_total m k (omega (arith, less, is))) here now.within) lower before.within);
        within = All-append (IsBelow names (suc n)) lower here
            (All-weaker (IsBelow names n) (IsBelow names (suc n))
            (λ m (less, uses). (omega (arith, less), uses)) lower before.within)
            (All-weaker (HasTotal names n) (IsBelow names (suc n))
            (λ m (is, uses). (omega (arith, is), uses)) here now.within);
        complete = λ m less uses. by m uses (eqb_tells (total m) n) less;
      }
        where
          by : (m : Mono) → UsesOnly names m → ((eqb (total m) n ≡ true) × (total m ≡ n)) ⊎
              ((eqb (total m) n ≡ false) × (total m ≢ n)) → total m < suc n → Contains (lower ++ here) m
          by m uses (inl (_, is)) less = Contains-append_right lower here m (now.complete m is uses)
          by m uses (inr (_, differ)) less = Contains-append_left lower here m (before.complete m (omega arith) uses)

pub up_to-listing :
    (names : List ℕ) (degree : ℕ) → AllPairs (λ i j. i < j) names → All (λ i. i < 6) names →
    IsListing names degree (up_to names degree)
up_to-listing names degree rise small =
    let all = listed_below names (listed_total names rise small) (suc degree) in
    record {
      rises = all.rises;
      within =
          All-weaker (IsBelow names (suc degree)) (λ m. (total m ≤ degree) × UsesOnly names m)
          (λ m (less, uses). (omega (arith, less), uses)) (up_to names degree) all.within;
      complete = λ m most uses. all.complete m (omega arith) uses;
    }
