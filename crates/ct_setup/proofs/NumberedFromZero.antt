-- Working through a list from the front, as loops do, where its elements are numbered from 0. Main lemma `each_after`, cited where the loop
-- begins.
use Rattle.ct_setup.proofs.Base.{◌≡◌, refl, ap, ap₂, ◌∙◌, arith, ℕ, ◌+◌, ◌-◌, List, [], ◌∷◌, ◌++◌, length, Result, Ok, Err, ◌>>=◌}
use Rattle.ct_setup.proofs.Base.{behind, each_behind, checked_each_from}

module _ {X Y E : Type 0} (f : ℕ → X → Result Y E) where
  -- the values that are done, and those of what is left
  abbrev pub after : List Y → List X → Result (List Y) E
  after done [] = Ok done
  after done (x ∷ xs) = f (length done) x >>= (λ y. after (done ++ y ∷ []) xs)

  -- the same with numbers from 1
  from_one : ℕ → X → Result Y E
  from_one k x = f (k - 1) x

  numbered : (n : ℕ) (xs : List X) → checked_each_from n f xs ≡ checked_each_from (n + 1) from_one xs
  unfolding from_one
  numbered n [] = refl
  numbered n (x ∷ xs) =
      let same : n ≡ n + 1 - 1 = omega arith in
      ap₂ (λ k rest. f k x >>= (λ y. rest >>= (λ ys. Ok (y ∷ ys)))) same (numbered (n + 1) xs)

  left : (done : List Y) (xs : List X) → behind from_one done xs ≡ after done xs
  unfolding from_one
  left done [] = refl
  left done (x ∷ xs) =
      let same : length done + 1 - 1 ≡ length done = omega arith in
      ap (λ k. f k x >>= (λ y. behind from_one (done ++ y ∷ []) xs)) same ∙ by (f (length done) x) (λ y. left (done ++ y ∷ []) xs)
    where
      by :
          (o : Result Y E) → ((y : Y) → behind from_one (done ++ y ∷ []) xs ≡ after (done ++ y ∷ []) xs) →
          o >>= (λ y. behind from_one (done ++ y ∷ []) xs) ≡ o >>= (λ y. after (done ++ y ∷ []) xs)
      by (Ok y) next = next y
      by (Err e) next = refl

  pub each_after : (done : List Y) (xs : List X) → done ≡ [] → checked_each_from 0 f xs ≡ after done xs
  each_after done xs none = numbered 0 xs ∙ each_behind from_one done xs none ∙ left done xs
