-- The monomials in some names, counted: main lemmas `counted` and `columns_counted`, the laws.
-- A list by recursion on the names has each of them once, so it is as long as the rising list.
use Rattle.ct_support.proofs.Base.{◌≡◌, ℕ, zero, suc, ◌+◌, ◌-◌, ◌*◌, ◌<◌, ◌≤◌, Bool, true, false, cond, eqb, List, [], ◌∷◌, ◌++◌, length, map}
use Rattle.ct_support.proofs.Base.{◌⊎◌, inl, inr, refl, sym, ◌∙◌, ap, ap₂, subst, arith, Contains, Ordering, Less, Equal, Greater, filter}
use Rattle.ct_support.proofs.Base.{length-append, length-map, Contains-append_cases, Contains-append_left, Contains-append_right}
use Rattle.ct_support.proofs.Base.{Mono, mono, unit, exp, total, ◌·◌, exp-mono, exp-unit, exp-·, same_mono, total-·, Name, place, place_small}
use Rattle.ct_support.proofs.Base.{same_place}
use Rattle.ct_support.proofs.Base.{symbol, exp-symbol, IsIn, IsOnce, rising, monomials_in, listing_unique, rises_rising, contains_rising}
use Rattle.ct_support.proofs.Base.{rising_contains}
use Rattle.ct_support.proofs.Base.{total_within, total_unit, total-symbol, monomials_in-listing, inside, inside_whole, eqb-true, eq-eqb, by_order}
use Rattle.ct_support.proofs.Base.{contains_first, contains_later, contains_cases, contains_none, contains_map, contains_map_cases}
use Rattle.ct_support.proofs.Base.{contains_filter_cases}
use Rattle.ct_support.proofs.Base.{once_append, once_map, insert_rising, mono_cmp, mono_tied, free_names, is_free_name, all_names, is_chosen}
use Rattle.ct_support.proofs.Base.{chosen_of}
use Rattle.ct_support.proofs.Base.{x0, x1, x2, x3, x4, x5}
use Rattle.ct_support.proofs.Base.{OfMonomial, OfSummand, columns_of_name, certificate_columns}
use Rattle.ct_support.specs.ColumnCount.{with_name, monomial_count}
use Rattle.ct_support.specs.SupportLaws.{MonomialsAreCounted, ColumnsAreCounted}
use Rattle.ct_support.proofs.EvenLists.{length-flat_map_even}

-- ---- rising lists are as long as what they are of

length-insert_rising : (m : Mono) (ns : List Mono) → (Contains ns m → ⊥) → length (insert_rising m ns) ≡ suc (length ns)
length-insert_rising m [] new = refl
length-insert_rising m (n ∷ ns) new = by (mono_cmp m n) refl (length-insert_rising m ns (λ found. new (contains_later n m ns found)))
  where
    by : (r : Ordering) → mono_cmp m n ≡ r → length (insert_rising m ns) ≡ suc (length ns) →
        length (by_order r (m ∷ n ∷ ns) (n ∷ ns) (n ∷ insert_rising m ns)) ≡ suc (suc (length ns))
    by Less is rest = refl
    by Equal is rest = absurd (new (subst (Contains (n ∷ ns)) (sym (mono_tied m n is)) (contains_first n ns)))
    by Greater is rest = ap suc rest

length-rising : (ms : List Mono) → IsOnce ms → length (rising ms) ≡ length ms
length-rising [] once = refl
length-rising (m ∷ ms) once =
    length-insert_rising m (rising ms) (λ found. once.0 (rising_contains ms m found)) ∙ ap suc (length-rising ms once.1)

-- ---- the list by recursion on the names

abbrev listed_with : Name → (ℕ → List Mono) → ℕ → List Mono
listed_with j without zero = unit ∷ []
listed_with j without (suc k) = without (suc k) ++ map (λ m. symbol j · m) (listed_with j without k)

abbrev listed_in : List Name → ℕ → List Mono
listed_in [] k = unit ∷ []
listed_in (j ∷ js) k = listed_with j (listed_in js) k

record AreAll (js : List Name) (k size : ℕ) (ms : List Mono) : Type 0 where
  pub sound : (m : Mono) → Contains ms m → (total m ≤ k) × IsIn js m
  pub complete : (m : Mono) → total m ≤ k → IsIn js m → Contains ms m
  pub once : IsOnce ms
  pub size_is : length ms ≡ size

only_unit :
    (js : List Name) (k : ℕ) → ((m : Mono) → total m ≤ k → IsIn js m → unit ≡ m) → AreAll js k 1 (unit ∷ [])
only_unit js k only = record {
  sound = λ m found. by (contains_cases unit m [] found);
  complete = λ m small within. subst (Contains (unit ∷ [])) (only m small within) (contains_first unit []);
  once = (λ found. contains_none unit found, tt);
  size_is = refl;
}
  where
    by : {m : Mono} → (unit ≡ m) ⊎ Contains [] m → (total m ≤ k) × IsIn js m
    by (inl same) =
        subst (λ m. (total m ≤ k) × IsIn js m) same (omega (arith, total_unit), λ i some. absurd (some (exp-unit (place i) (place_small i))))
    by (inr found) = absurd (contains_none _ found)

of_no_total : (m : Mono) → total m ≤ 0 → unit ≡ m
of_no_total m small = by (contains_cases unit m [] (total_within m 0 small))
  where
    by : (unit ≡ m) ⊎ Contains [] m → unit ≡ m
    by (inl same) = same
    by (inr found) = absurd (contains_none m found)

of_no_names : (m : Mono) → IsIn [] m → unit ≡ m
unfolding inside unit
of_no_names m within = inside_whole [] m within

module _ (j : Name) (js : List Name) (new : Contains js j → ⊥) where
  own : exp (symbol j) (place j) ≡ 1
  own = exp-symbol j (place j) (place_small j) ∙ ap (λ b. cond b 1 0) (eq-eqb (place j) (place j) refl)

  -- the monomial without one j
  less_one : Mono → Mono
  less_one m = mono (λ i. exp m i - exp (symbol j) i)

  back : (m : Mono) → 0 < exp m (place j) → symbol j · less_one m ≡ m
  unfolding less_one
  back m some = same_mono _ _ (λ i small.
      let here = exp-symbol j i small in
      let product = exp-· (symbol j) (mono (λ i. exp m i - exp (symbol j) i)) i small in
      let rest = exp-mono (λ i. exp m i - exp (symbol j) i) i small in
      by i (eqb i (place j)) refl here product rest)
    where
      by : (i : ℕ) (b : Bool) → eqb i (place j) ≡ b → exp (symbol j) i ≡ cond (eqb i (place j)) 1 0 →
          exp (symbol j · mono (λ i. exp m i - exp (symbol j) i)) i ≡ exp (symbol j) i + exp (mono (λ i. exp m i - exp (symbol j) i)) i →
          exp (mono (λ i. exp m i - exp (symbol j) i)) i ≡ exp m i - exp (symbol j) i →
          exp (symbol j · mono (λ i. exp m i - exp (symbol j) i)) i ≡ exp m i
      by i true same here product rest =
          let is : exp (symbol j) i ≡ 1 = here ∙ ap (λ b. cond b 1 0) same in
          let there : 0 < exp m i = subst (λ i. 0 < exp m i) (sym (eqb-true i (place j) same)) some in
          omega (arith, is, there, product, rest)
      by i false other here product rest =
          let is : exp (symbol j) i ≡ 0 = here ∙ ap (λ b. cond b 1 0) other in omega (arith, is, product, rest)

  total-less_one : (m : Mono) → 0 < exp m (place j) → total m ≡ suc (total (less_one m))
  total-less_one m some = omega (arith, ap total (back m some), total-· (symbol j) (less_one m), total-symbol j)

  exp-less_one : (m : Mono) (i : Name) → exp m (place i) ≡ 0 → exp (less_one m) (place i) ≡ 0
  unfolding less_one
  exp-less_one m i none = omega (arith, none, exp-mono (λ i. exp m i - exp (symbol j) i) (place i) (place_small i))

  in_less_one : (m : Mono) → IsIn (j ∷ js) m → IsIn (j ∷ js) (less_one m)
  in_less_one m within i some = within i (λ none. some (exp-less_one m i none))

  in_fewer : (m : Mono) → exp m (place j) ≡ 0 → IsIn (j ∷ js) m → IsIn js m
  in_fewer m none within i some = by (contains_cases j i js (within i some))
    where
      by : (j ≡ i) ⊎ Contains js i → Contains js i
      by (inl same) = absurd (some (ap (λ i. exp m (place i)) (sym same) ∙ none))
      by (inr later) = later

  in_times : (m : Mono) → IsIn (j ∷ js) m → IsIn (j ∷ js) (symbol j · m)
  in_times m within i some = by (eqb (place i) (place j)) refl
    where
      by : (b : Bool) → eqb (place i) (place j) ≡ b → Contains (j ∷ js) i
      by true same = subst (Contains (j ∷ js)) (sym (same_place i j (eqb-true (place i) (place j) same))) (contains_first j js)
      by false other =
          let none : exp (symbol j) (place i) ≡ 0 = exp-symbol j (place i) (place_small i) ∙ ap (λ b. cond b 1 0) other in
          within i (λ rest. some (exp-· (symbol j) m (place i) (place_small i) ∙ ap₂ ◌+◌ none rest))

  -- monomials in js are without j
  without_new : (m : Mono) → IsIn js m → exp m (place j) ≡ 0
  without_new m within = by (exp m (place j)) refl
    where
      by : (n : ℕ) → exp m (place j) ≡ n → exp m (place j) ≡ 0
      by zero is = is
      by (suc n) is = absurd (new (within j (λ none. let clash : suc n ≡ 0 = sym is ∙ none in cc)))

  has_new : (m : Mono) → 0 < exp (symbol j · m) (place j)
  has_new m = omega (arith, exp-· (symbol j) m (place j) (place_small j), own)

  times_differ : (m n : Mono) → symbol j · m ≡ symbol j · n → m ≡ n
  times_differ m n same = same_mono m n (λ i small.
      omega (arith, ap (λ k. exp k i) same, exp-· (symbol j) m i small, exp-· (symbol j) n i small))

  module _ (k x y : ℕ) (fewer lower : List Mono) (first : AreAll js (suc k) x fewer) (second : AreAll (j ∷ js) k y lower) where
    abbrev multiples : List Mono
    multiples = map (λ m. symbol j · m) lower

    joined_sound : (m : Mono) → Contains (fewer ++ multiples) m → (total m ≤ suc k) × IsIn (j ∷ js) m
    joined_sound m found = by (Contains-append_cases fewer multiples m found)
      where
        by : Contains fewer m ⊎ Contains multiples m → (total m ≤ suc k) × IsIn (j ∷ js) m
        by (inl early) =
            let holds = first.sound m early in (holds.0, λ i some. contains_later j i js (holds.1 i some))
        by (inr late) =
            let image = contains_map_cases (λ m. symbol j · m) lower m late in
            let holds = second.sound image.of image.found in
            subst (λ m. (total m ≤ suc k) × IsIn (j ∷ js) m) image.is
            (omega (arith, total-· (symbol j) image.of, total-symbol j, holds.0), in_times image.of holds.1)

    joined_complete : (m : Mono) → total m ≤ suc k → IsIn (j ∷ js) m → Contains (fewer ++ multiples) m
    joined_complete m small within = by (exp m (place j)) refl
      where
        by : (n : ℕ) → exp m (place j) ≡ n → Contains (fewer ++ multiples) m
        by zero none = Contains-append_left fewer multiples m (first.complete m small (in_fewer m none within))
        by (suc n) some =
            let here : 0 < exp m (place j) = omega (arith, some) in
            Contains-append_right fewer multiples m
            (subst (Contains multiples) (back m here)
            (contains_map (λ m. symbol j · m) lower (less_one m)
            (second.complete (less_one m) (omega (arith, small, total-less_one m here)) (in_less_one m within))))

    joined : AreAll (j ∷ js) (suc k) (x + y) (fewer ++ multiples)
    joined = record {
      sound = joined_sound;
      complete = joined_complete;
      once = once_append fewer multiples first.once (once_map (λ m. symbol j · m) times_differ lower second.once)
          (λ m early late.
          let image = contains_map_cases (λ m. symbol j · m) lower m late in
          let some : 0 < exp m (place j) = subst (λ m. 0 < exp m (place j)) image.is (has_new image.of) in
          let none = without_new m (first.sound m early).1 in omega (arith, some, none));
      size_is = length-append fewer multiples ∙ ap₂ ◌+◌ first.size_is (length-map lower (λ m. symbol j · m) ∙ second.size_is);
    }

  all_with :
      (without : ℕ → List Mono) (size : ℕ → ℕ) → ((k : ℕ) → AreAll js k (size k) (without k)) → (k : ℕ) →
      AreAll (j ∷ js) k (with_name size k) (listed_with j without k)
  all_with without size all zero = only_unit (j ∷ js) 0 (λ m small within. of_no_total m small)
  all_with without size all (suc k) =
      joined k (size (suc k)) (with_name size k) (without (suc k)) (listed_with j without k) (all (suc k)) (all_with without size all k)

all_in : (js : List Name) → IsOnce js → (k : ℕ) → AreAll js k (monomial_count (length js) k) (listed_in js k)
all_in [] once k = only_unit [] k (λ m small within. of_no_names m within)
all_in (j ∷ js) once k = all_with j js once.0 (listed_in js) (monomial_count (length js)) (all_in js once.1) k

pub counted : MonomialsAreCounted
counted js k once =
    let all = all_in js once k in
    ap length (listing_unique (λ m. (total m ≤ k) × IsIn js m) (monomials_in js k) (rising (listed_in js k)) (monomials_in-listing js k)
    (record {
      rises = rises_rising (listed_in js k);
      sound = λ m found. all.sound m (rising_contains (listed_in js k) m found);
      complete = λ m holds. contains_rising (listed_in js k) m (all.complete m holds.0 holds.1);
    }))
    ∙ length-rising (listed_in js k) all.once ∙ all.size_is

-- ---- columns

once_filter : {X : Type 0} (test : X → Bool) (xs : List X) → IsOnce xs → IsOnce (filter test xs)
once_filter test [] once = tt
once_filter test (x ∷ xs) once = by (test x) (once_filter test xs once.1)
  where
    by : (b : Bool) → IsOnce (filter test xs) → IsOnce (cond b (x ∷ filter test xs) (filter test xs))
    by true rest = (λ found. once.0 (contains_filter_cases test xs x found).0, rest)
    by false rest = rest

not_in : (j : Name) (js : List Name) → is_chosen js (place j) ≡ false → Contains js j → ⊥
not_in j js other found = let chosen = chosen_of js j found.0 found.1 found.2 in cc

once_names : IsOnce all_names
once_names = (
  not_in x0 (x1 ∷ x2 ∷ x3 ∷ x4 ∷ x5 ∷ []) refl,
  (
    not_in x1 (x2 ∷ x3 ∷ x4 ∷ x5 ∷ []) refl,
    (
      not_in x2 (x3 ∷ x4 ∷ x5 ∷ []) refl,
      (
        not_in x3 (x4 ∷ x5 ∷ []) refl,
        (
          not_in x4 (x5 ∷ []) refl,
          (
            not_in x5 ([]) refl,
            tt,
          ),
        ),
      ),
    ),
  ),
)

pub columns_counted : ColumnsAreCounted
columns_counted a summed elements s once =
    length-append (certificate_columns elements powers summed) (map OfMonomial free)
    ∙ ap₂ ◌+◌ (of_summed ∙ ap (λ n. length summed * (length elements * n)) (counted summed s.degree once))
    (length-map free OfMonomial ∙ counted (free_names a summed) s.order (once_filter (is_free_name a summed) all_names once_names))
  where
    powers : List Mono
    powers = monomials_in summed s.degree

    free : List Mono
    free = monomials_in (free_names a summed) s.order

    of_summed : length (certificate_columns elements powers summed) ≡ length summed * (length elements * length powers)
    of_summed =
        length-flat_map_even (columns_of_name elements powers) (length elements * length powers)
        (λ j. length-flat_map_even (λ b. map (λ e. OfSummand j b e) powers) (length powers)
        (λ b. length-map powers (λ e. OfSummand j b e)) elements) summed
