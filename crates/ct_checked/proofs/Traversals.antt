-- Working through a list from the front, as loops do, and what comes of it.
-- Main lemmas: `each_behind`, cited where a loop begins; `each_means`, `each_length` and `fold_means`, cited where one says what the
-- values are.
use Rattle.std.proofs.Common.{◌≡◌, refl, sym, ap, ◌∙◌, arith, ℕ, suc, ◌+◌, List, [], ◌∷◌, ◌++◌, length, length-append, append_assoc, append-nil}
use Rattle.std.proofs.Common.{subst, Result, Ok, Err}
use Rattle.ct_checked.specs.Checked.{◌>>=◌, both_fit}
use Rattle.ct_checked.specs.Traversal.{checked_fold, checked_each_from}

-- a fact of the last state, which each step hands back to the state before it, holds of the first
pub fold_means :
    {S X E : Type 0} (f : S → X → Result S E) (P : S → List X → Type 0) (r : S) → P r [] →
    ((s t : S) (x : X) (xs : List X) → f s x ≡ Ok t → P t xs → P s (x ∷ xs)) →
    (s : S) (xs : List X) → checked_fold f s xs ≡ Ok r → P s xs
fold_means f P r ends steps s [] passes = let same : r ≡ s = cc in subst (λ t. P t []) same ends
fold_means f P r ends steps s (x ∷ xs) passes =
    let one = both_fit (f s x) (λ t. checked_fold f t xs) r passes in
    steps s one.value x xs one.first (fold_means f P r ends steps one.value xs one.rest)

module _ {X Y E : Type 0} (f : ℕ → X → Result Y E) where
  -- the values that are done, and those of what is left
  abbrev pub behind : List Y → List X → Result (List Y) E
  behind done [] = Ok done
  behind done (x ∷ xs) = f (length done + 1) x >>= (λ y. behind (done ++ y ∷ []) xs)

  -- what is done before the rest
  after : (done : List Y) (xs : List X) (n : ℕ) → n ≡ length done + 1 → behind done xs ≡ checked_each_from n f xs >>= (λ ys. Ok (done ++ ys))
  after done [] n same = ap Ok (sym (append-nil done))
  after done (x ∷ xs) n same =
      by (f (length done + 1) x) (ap (λ k. f k x) same)
      (λ y. after (done ++ y ∷ []) xs (n + 1) (omega (arith, same, length-append done (y ∷ []))))
    where
      more : (y : Y) (o : Result (List Y) E) → o >>= (λ ys. Ok ((done ++ y ∷ []) ++ ys)) ≡ (o >>= (λ ys. Ok (y ∷ ys))) >>= (λ ys. Ok (done ++ ys))
      more y (Ok ys) = ap Ok (append_assoc done (y ∷ []) ys)
      more y (Err e) = refl

      -- what begins with this value
      begun : Result Y E → Result (List Y) E
      begun o = (o >>= (λ y. checked_each_from (n + 1) f xs >>= (λ ys. Ok (y ∷ ys)))) >>= (λ ys. Ok (done ++ ys))

      by :
          (o : Result Y E) → f n x ≡ o →
          ((y : Y) → behind (done ++ y ∷ []) xs ≡ checked_each_from (n + 1) f xs >>= (λ ys. Ok ((done ++ y ∷ []) ++ ys))) →
          o >>= (λ y. behind (done ++ y ∷ []) xs) ≡ begun (f n x)
      by (Ok y) is next = next y ∙ more y (checked_each_from (n + 1) f xs) ∙ ap begun (sym is)
      by (Err e) is next = ap begun (sym is)

  -- a loop begins with nothing done
  pub each_behind : (done : List Y) (xs : List X) → done ≡ [] → checked_each_from 1 f xs ≡ behind done xs
  each_behind done xs none =
      subst (λ ys. checked_each_from 1 f xs ≡ behind ys xs) (sym none) (sym (after [] xs 1 refl ∙ whole (checked_each_from 1 f xs)))
    where
      whole : (o : Result (List Y) E) → o >>= (λ ys. Ok ys) ≡ o
      whole (Ok ys) = refl
      whole (Err e) = refl

module _ {X Y E : Type 0} (f : ℕ → X → Result Y E) where
  -- a fact of elements and their values, from the last on to the first
  pub each_means :
      (P : List X → List Y → Type 0) → P [] [] →
      ((n : ℕ) (x : X) (y : Y) (xs : List X) (ys : List Y) → f n x ≡ Ok y → P xs ys → P (x ∷ xs) (y ∷ ys)) →
      (n : ℕ) (xs : List X) (ys : List Y) → checked_each_from n f xs ≡ Ok ys → P xs ys
  each_means P none more n [] ys passes = let same : [] ≡ ys = cc in subst (P []) same none
  each_means P none more n (x ∷ xs) ys passes =
      let one = both_fit (f n x) (λ y. checked_each_from (n + 1) f xs >>= (λ zs. Ok (y ∷ zs))) ys passes in
      let rest = both_fit (checked_each_from (n + 1) f xs) (λ zs. Ok (one.value ∷ zs)) ys one.rest in
      let same : one.value ∷ rest.value ≡ ys = cc in
      subst (P (x ∷ xs)) same (more n x one.value xs rest.value one.first (each_means P none more (n + 1) xs rest.value rest.first))

  -- a value for each element
  pub each_length : (n : ℕ) (xs : List X) (ys : List Y) → checked_each_from n f xs ≡ Ok ys → length ys ≡ length xs
  each_length = each_means (λ xs ys. length ys ≡ length xs) refl (λ _ _ _ _ _ _ same. ap suc same)
