-- Rising lists of monomials: main lemmas `rising-listing` (the rising list of a list has its monomials), `up_to-listing`
-- (`up_to` lists the monomials of total at most n that pass the test) and `listing_unique`.
use Rattle.ct_telescoping.proofs.Base.{◌≡◌, ℕ, zero, suc, ◌<◌, ◌≤◌, Bool, true, false, cond, List, [], ◌∷◌, length, map, get_or, ◌⊎◌, Contains}
use Rattle.ct_telescoping.proofs.Base.{filter, flat_map, refl, sym, ◌∙◌, ap, subst, arith, inl, inr, Ordering, Less, Equal, Greater}
use Rattle.ct_telescoping.proofs.Base.{Contains-append_left, Contains-append_right, Contains-append_cases, by_order, Mono, mono, unit, ◌·◌, mono_cmp}
use Rattle.ct_telescoping.proofs.Base.{mono_tied, mono_turned_back, monomials, total, total-·, Name, x0, x1, x2, x3, x4, x5, symbol, by_symbols}
use Rattle.ct_telescoping.specs.Rising.{Rises, IsListingOf, insert_rising, rising, all_names, within, up_to, IsOnce}
use Rattle.ct_telescoping.proofs.OrderedLists.{ordered_at, ordered_unique}
use Rattle.ct_telescoping.proofs.ListParts.{contains_first, contains_later, contains_cases, contains_none, contains_map, contains_map_cases}
use Rattle.ct_telescoping.proofs.ListParts.{contains_flat_map, contains_flat_map_cases, contains_filter, contains_filter_cases}

pub not_lower : (m : Mono) → mono_cmp m m ≡ Less → ⊥
not_lower m less = clash (sym (monomials.same m) ∙ less)
  where
    clash : Equal ≡ Less → ⊥
    clash e = cc

-- ---- one more

pub contains_insert : (m : Mono) (ns : List Mono) → Contains (insert_rising m ns) m
contains_insert m [] = contains_first m []
contains_insert m (n ∷ ns) = by (mono_cmp m n) refl (contains_insert m ns)
  where
    by : (r : Ordering) → mono_cmp m n ≡ r → Contains (insert_rising m ns) m →
        Contains (by_order r (m ∷ n ∷ ns) (n ∷ ns) (n ∷ insert_rising m ns)) m
    by Less e rest = contains_first m (n ∷ ns)
    by Equal e rest = subst (Contains (n ∷ ns)) (sym (mono_tied m n e)) (contains_first n ns)
    by Greater e rest = contains_later n m (insert_rising m ns) rest

pub insert_keeps : (m k : Mono) (ns : List Mono) → Contains ns k → Contains (insert_rising m ns) k
insert_keeps m k [] found = absurd (contains_none k found)
insert_keeps m k (n ∷ ns) found = by (mono_cmp m n) (insert_keeps m k ns)
  where
    greater : (n ≡ k) ⊎ Contains ns k → (Contains ns k → Contains (insert_rising m ns) k) → Contains (n ∷ insert_rising m ns) k
    greater (inl same) rest = subst (Contains (n ∷ insert_rising m ns)) same (contains_first n (insert_rising m ns))
    greater (inr later) rest = contains_later n k (insert_rising m ns) (rest later)

    by : (r : Ordering) → (Contains ns k → Contains (insert_rising m ns) k) →
        Contains (by_order r (m ∷ n ∷ ns) (n ∷ ns) (n ∷ insert_rising m ns)) k
    by Less rest = contains_later m k (n ∷ ns) found
    by Equal rest = found
    by Greater rest = greater (contains_cases n k ns found) rest

pub insert_cases : (m k : Mono) (ns : List Mono) → Contains (insert_rising m ns) k → (m ≡ k) ⊎ Contains ns k
insert_cases m k [] found = contains_cases m k [] found
insert_cases m k (n ∷ ns) found = by (mono_cmp m n) (insert_cases m k ns) found
  where
    greater : (n ≡ k) ⊎ Contains (insert_rising m ns) k → (Contains (insert_rising m ns) k → (m ≡ k) ⊎ Contains ns k) →
        (m ≡ k) ⊎ Contains (n ∷ ns) k
    greater (inl same) rest = inr (subst (Contains (n ∷ ns)) same (contains_first n ns))
    greater (inr later) rest = last (rest later)
      where
        last : (m ≡ k) ⊎ Contains ns k → (m ≡ k) ⊎ Contains (n ∷ ns) k
        last (inl same) = inl same
        last (inr found) = inr (contains_later n k ns found)

    by : (r : Ordering) → (Contains (insert_rising m ns) k → (m ≡ k) ⊎ Contains ns k) →
        Contains (by_order r (m ∷ n ∷ ns) (n ∷ ns) (n ∷ insert_rising m ns)) k → (m ≡ k) ⊎ Contains (n ∷ ns) k
    by Less rest found = contains_cases m k (n ∷ ns) found
    by Equal rest found = inr found
    by Greater rest found = greater (contains_cases n k (insert_rising m ns) found) rest

rises_insert : (m : Mono) (ns : List Mono) → Rises ns → Rises (insert_rising m ns)
rises_insert m [] rises = (λ n found. absurd (contains_none n found), tt)
rises_insert m (n ∷ ns) rises = by (mono_cmp m n) refl (rises_insert m ns rises.1)
  where
    by : (r : Ordering) → mono_cmp m n ≡ r → Rises (insert_rising m ns) →
        Rises (by_order r (m ∷ n ∷ ns) (n ∷ ns) (n ∷ insert_rising m ns))
    by Less e rest = (λ k found. low k (contains_cases n k ns found), rises)
      where
        low : (k : Mono) → (n ≡ k) ⊎ Contains ns k → mono_cmp m k ≡ Less
        low k (inl same) = ap (mono_cmp m) (sym same) ∙ e
        low k (inr found) = monomials.trans m n k e (rises.0 k found)
    by Equal e rest = rises
    by Greater e rest = (λ k found. low k (insert_cases m k ns found), rest)
      where
        low : (k : Mono) → (m ≡ k) ⊎ Contains ns k → mono_cmp n k ≡ Less
        low k (inl same) = ap (mono_cmp n) (sym same) ∙ mono_turned_back m n e
        low k (inr found) = rises.0 k found

-- ---- the rising list of a list

pub rises_rising : (ms : List Mono) → Rises (rising ms)
rises_rising [] = tt
rises_rising (m ∷ ms) = rises_insert m (rising ms) (rises_rising ms)

pub contains_rising : (ms : List Mono) (k : Mono) → Contains ms k → Contains (rising ms) k
contains_rising [] k found = found
contains_rising (m ∷ ms) k found = by (contains_cases m k ms found) (contains_rising ms k)
  where
    by : (m ≡ k) ⊎ Contains ms k → (Contains ms k → Contains (rising ms) k) → Contains (rising (m ∷ ms)) k
    by (inl same) rest = subst (Contains (rising (m ∷ ms))) same (contains_insert m (rising ms))
    by (inr later) rest = insert_keeps m k (rising ms) (rest later)

pub rising_contains : (ms : List Mono) (k : Mono) → Contains (rising ms) k → Contains ms k
rising_contains [] k found = found
rising_contains (m ∷ ms) k found = by (insert_cases m k (rising ms) found) (rising_contains ms k)
  where
    by : (m ≡ k) ⊎ Contains (rising ms) k → (Contains (rising ms) k → Contains ms k) → Contains (m ∷ ms) k
    by (inl same) rest = subst (Contains (m ∷ ms)) same (contains_first m ms)
    by (inr later) rest = contains_later m k ms (rest later)

pub rising-listing : (ms : List Mono) → IsListingOf (Contains ms) (rising ms)
rising-listing ms = record { rises = rises_rising ms; sound = rising_contains ms; complete = contains_rising ms }

pub rises_filter : (test : Mono → Bool) (ms : List Mono) → Rises ms → Rises (filter test ms)
rises_filter test [] rises = tt
rises_filter test (m ∷ ms) rises = by (test m) (rises_filter test ms rises.1)
  where
    by : (b : Bool) → Rises (filter test ms) → Rises (cond b (m ∷ filter test ms) (filter test ms))
    by true rest = (λ n found. rises.0 n (contains_filter_cases test ms n found).0, rest)
    by false rest = rest

-- ---- all monomials up to a total

pub each_name : (i : Name) → Contains all_names i
each_name x0 = (0, omega arith, refl)
each_name x1 = (1, omega arith, refl)
each_name x2 = (2, omega arith, refl)
each_name x3 = (3, omega arith, refl)
each_name x4 = (4, omega arith, refl)
each_name x5 = (5, omega arith, refl)

pub total_unit : total unit ≡ 0
unfolding total unit mono
total_unit = refl

pub total-symbol : (i : Name) → total (symbol i) ≡ 1
unfolding total symbol mono
total-symbol x0 = refl
total-symbol x1 = refl
total-symbol x2 = refl
total-symbol x3 = refl
total-symbol x4 = refl
total-symbol x5 = refl

pub within_total : (n : ℕ) (m : Mono) → Contains (within n) m → total m ≤ n
within_total zero m found = by (contains_cases unit m [] found)
  where
    by : (unit ≡ m) ⊎ Contains [] m → total m ≤ 0
    by (inl same) = omega (arith, ap total same, total_unit)
    by (inr later) = absurd (contains_none m later)
within_total (suc n) m found =
    by (Contains-append_cases (within n) (flat_map (λ i. map (λ k. symbol i · k) (within n)) all_names) m found) (within_total n)
  where
    by : Contains (within n) m ⊎ Contains (flat_map (λ i. map (λ k. symbol i · k) (within n)) all_names) m →
        ((k : Mono) → Contains (within n) k → total k ≤ n) → total m ≤ suc n
    by (inl early) rest = omega (arith, rest m early)
    by (inr late) rest =
        let part = contains_flat_map_cases (λ i. map (λ k. symbol i · k) (within n)) all_names m late in
        let image = contains_map_cases (λ k. symbol part.of · k) (within n) m part.inside in
        omega (arith, rest image.of image.found, total-· (symbol part.of) image.of, total-symbol part.of, ap total image.is)

pub total_within : (m : Mono) (n : ℕ) → total m ≤ n → Contains (within n) m
total_within =
    by_symbols (λ m. (n : ℕ) → total m ≤ n → Contains (within n) m) of_unit
    (λ i m before n low. of_product i m before n (omega (arith, low, total-· (symbol i) m, total-symbol i)))
  where
    of_unit : (n : ℕ) → total unit ≤ n → Contains (within n) unit
    of_unit zero low = contains_first unit []
    of_unit (suc n) low = Contains-append_left (within n) _ unit (of_unit n (omega (arith, total_unit)))

    of_product :
        (i : Name) (m : Mono) → ((n : ℕ) → total m ≤ n → Contains (within n) m) → (n : ℕ) → suc (total m) ≤ n →
        Contains (within n) (symbol i · m)
    of_product i m before zero low = absurd (omega (arith, low))
    of_product i m before (suc n) low =
        Contains-append_right (within n) _ (symbol i · m)
        (contains_flat_map (λ j. map (λ k. symbol j · k) (within n)) all_names i (symbol i · m) (each_name i)
        (contains_map (λ k. symbol i · k) (within n) m (before n (omega (arith, low)))))

pub up_to-listing : (test : Mono → Bool) (n : ℕ) → IsListingOf (λ m. (total m ≤ n) × (test m ≡ true)) (up_to test n)
unfolding up_to
up_to-listing test n = record {
  rises = rises_filter test (rising (within n)) (rises_rising (within n));
  sound = λ m found. let part = contains_filter_cases test (rising (within n)) m found in
      (within_total n m (rising_contains (within n) m part.0), part.1);
  complete = λ m holds. contains_filter test (rising (within n)) m (contains_rising (within n) m (total_within m n holds.0)) holds.1;
}

-- ---- what rises has no repetition, and is known by its monomials

pub once_of_rises : (ms : List Mono) → Rises ms → IsOnce ms
once_of_rises [] rises = tt
once_of_rises (m ∷ ms) rises = (λ found. not_lower m (rises.0 m found), once_of_rises ms rises.1)

pub rises_at :
    (ms : List Mono) (past : Mono) → Rises ms → (i j : ℕ) → i < j → j < length ms →
    mono_cmp (get_or ms i past) (get_or ms j past) ≡ Less
rises_at ms past rises i j order l = ordered_at (λ m n. mono_cmp m n ≡ Less) ms past rises i j order l

pub listing_unique :
    (P : Mono → Type 0) (ms ns : List Mono) → IsListingOf P ms → IsListingOf P ns → ms ≡ ns
listing_unique P ms ns first second =
    ordered_unique (λ m n. mono_cmp m n ≡ Less) not_lower monomials.trans ms ns first.rises second.rises
    (λ k found. second.complete k (first.sound k found)) (λ k found. first.complete k (second.sound k found))
