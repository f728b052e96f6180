-- Lists that are numbered from 0, walked from the front; and searches in numbers. Main lemmas: `zero_behind`, cited where a loop
-- begins, `each_at`, cited where one says what the values are, and `range_opens`.
use Rattle.ct_linsolve.proofs.Base.{◌≡◌, refl, sym, ap, ◌∙◌, arith, ℕ, zero, suc, ◌+◌, ◌-◌, ◌<◌, ◌≤◌, List, [], ◌∷◌, ◌++◌, length, get_or, subst}
use Rattle.ct_linsolve.proofs.Base.{Result, Ok, Some, None, Bool, true, false, cond, find, range_with_len, ◌>>=◌, both_fit, checked_each_from}
use Rattle.ct_linsolve.proofs.Base.{each_behind}
use Rattle.ct_checked.proofs.Traversals.{behind as behind_one}
use native.Mathlib.Decide.{ℕ_discrete}

module _ {X Y E : Type 0} (f : ℕ → X → Result Y E) where
  -- the values that are done, and those of what is left
  abbrev pub behind : List Y → List X → Result (List Y) E
  behind done [] = Ok done
  behind done (x ∷ xs) = f (length done) x >>= (λ y. behind (done ++ y ∷ []) xs)

  -- numbered from 1
  abbrev later : ℕ → X → Result Y E
  later k x = f (k - 1) x

  each_later : (n : ℕ) (xs : List X) → checked_each_from n f xs ≡ checked_each_from (n + 1) later xs
  each_later n [] = refl
  each_later n (x ∷ xs) =
      let same : n ≡ n + 1 - 1 = omega arith in
      λ i. f (same i) x >>= (λ y. each_later (n + 1) xs i >>= (λ ys. Ok (y ∷ ys)))

  behind_later : (done : List Y) (xs : List X) → behind_one later done xs ≡ behind done xs
  behind_later done [] = refl
  behind_later done (x ∷ xs) =
      let same : length done + 1 - 1 ≡ length done = omega arith in
      λ i. f (same i) x >>= (λ y. behind_later (done ++ y ∷ []) xs i)

  -- a loop begins with nothing done
  pub zero_behind : (done : List Y) (xs : List X) → done ≡ [] → checked_each_from 0 f xs ≡ behind done xs
  zero_behind done xs none = each_later 0 xs ∙ each_behind later done xs none ∙ behind_later done xs

  -- each value is that of its element
  pub each_at :
      (n : ℕ) (xs : List X) (ys : List Y) → checked_each_from n f xs ≡ Ok ys →
      (j : ℕ) (d : X) (e : Y) → j < length xs → f (n + j) (get_or xs j d) ≡ Ok (get_or ys j e)
  each_at n [] ys passes j d e small = absurd (omega (arith, small))
  each_at n (x ∷ xs) ys passes j d e small =
      let one = both_fit (f n x) (λ y. checked_each_from (n + 1) f xs >>= (λ zs. Ok (y ∷ zs))) ys passes in
      let rest = both_fit (checked_each_from (n + 1) f xs) (λ zs. Ok (one.value ∷ zs)) ys one.rest in
      let same : one.value ∷ rest.value ≡ ys = cc in
      subst (λ zs. f (n + j) (get_or (x ∷ xs) j d) ≡ Ok (get_or zs j e)) same
      (by one.value rest.value j one.first (each_at (n + 1) xs rest.value rest.first) small)
    where
      by :
          (y : Y) (ys : List Y) (j : ℕ) → f n x ≡ Ok y →
          ((j : ℕ) (d : X) (e : Y) → j < length xs → f (n + 1 + j) (get_or xs j d) ≡ Ok (get_or ys j e)) →
          j < suc (length xs) → f (n + j) (get_or (x ∷ xs) j d) ≡ Ok (get_or (y ∷ ys) j e)
      by y ys zero first rest small = ap (λ k. f k x) (let same : n + 0 ≡ n = omega arith in same) ∙ first
      by y ys (suc j) first rest small =
          ap (λ k. f k (get_or xs j d)) (let same : n + suc j ≡ n + 1 + j = omega arith in same) ∙ rest j d e (omega (arith, small))

-- the next of some numbers
pub range_opens : (a n : ℕ) → 0 < n → range_with_len a n ≡ a ∷ range_with_len (a + 1) (n - 1)
range_opens a zero some = absurd (omega (arith, some))
range_opens a (suc n) some = ap (λ k. a ∷ range_with_len (a + 1) k) (let same : n ≡ suc n - 1 = omega arith in same)

-- ---- searches

module _ (test : ℕ → Bool) where
  pub record IsFound (a n k : ℕ) : Type 0 where
    pub from : a ≤ k
    pub below : k < a + n
    pub passes : test k ≡ true

  pub found : (a n k : ℕ) → find test (range_with_len a n) ≡ Some k → IsFound a n k
  found a zero k is = cc
  found a (suc n) k is = by (test a) refl is (found (a + 1) n k)
    where
      by : (b : Bool) → test a ≡ b → cond b (Some a) (find test (range_with_len (a + 1) n)) ≡ Some k
          → (find test (range_with_len (a + 1) n) ≡ Some k → IsFound (a + 1) n k) → IsFound a (suc n) k
      by true passes is later =
          let same : a ≡ k = cc in record { from = omega (arith, same); below = omega (arith, same); passes = ap test (sym same) ∙ passes }
      by false fails is later =
          let there = later is in
          record { from = omega (arith, there.from); below = omega (arith, there.below); passes = there.passes }

  pub none_found : (a n k : ℕ) → find test (range_with_len a n) ≡ None → a ≤ k → k < a + n → test k ≡ false
  none_found a zero k is from below = absurd (omega (arith, from, below))
  none_found a (suc n) k is from below = by (test a) refl is (none_found (a + 1) n k)
    where
      further : (b : Bool) → test a ≡ b → cond b (Some a) (find test (range_with_len (a + 1) n)) ≡ None
          → (find test (range_with_len (a + 1) n) ≡ None → a + 1 ≤ k → k < a + 1 + n → test k ≡ false) → Dec (a ≡ k) → test k ≡ false
      further true passes is later there = cc
      further false fails is later (yes same) = ap test (sym same) ∙ fails
      further false fails is later (no other) = later is (omega (arith, from, other)) (omega (arith, below))

      by : (b : Bool) → test a ≡ b → cond b (Some a) (find test (range_with_len (a + 1) n)) ≡ None
          → (find test (range_with_len (a + 1) n) ≡ None → a + 1 ≤ k → k < a + 1 + n → test k ≡ false) → test k ≡ false
      by b is_b is later = further b is_b is later (ℕ_discrete a k)
