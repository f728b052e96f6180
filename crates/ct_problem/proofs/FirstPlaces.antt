-- The first place in a list that passes a test, item by item and list by list.
--     position-append     in one list after another
--     position-none       where there is none, no item passes
use Rattle.ct_problem.proofs.Base.{◌≡◌, ℕ, suc, ◌+◌, Bool, true, false, cond, not, ◌||◌, nat_lt, List, [], ◌∷◌, ◌++◌, length, Option, Some, None}
use Rattle.ct_problem.proofs.Base.{refl, sym, ap, ◌∙◌, arith, rules, tests, position, prefix_len, list_any}

later : Option ℕ → Option ℕ
later None = None
later (Some at) = Some (suc at)

-- a place in the second list, behind the items of the first, where there is none in the first
abbrev pub behind : ℕ → Option ℕ → Option ℕ → Option ℕ
behind n (Some at) o = Some at
behind n None (Some at) = Some (n + at)
behind n None None = None

some_same : (m n : ℕ) → m ≡ n → ◌≡◌ {A = Option ℕ} (Some m) (Some n)
some_same m n e = ap (λ (k : ℕ). let o : Option ℕ = Some k in o) e

module _ {X : Type 0} (p : X → Bool) where
  abbrev front : List X → ℕ
  front xs = prefix_len (λ y. not (p y)) xs

  position-cons : (x : X) (xs : List X) → position p (x ∷ xs) ≡ cond (p x) (Some 0) (later (position p xs))
  unfolding later
  position-cons x xs = by (p x) (nat_lt (front xs) (length xs)) refl
    where
      by : (here rest : Bool) → nat_lt (front xs) (length xs) ≡ rest
          → (let o : Option ℕ = cond (nat_lt (cond (not here) (1 + front xs) 0) (suc (length xs))) (Some (cond (not here) (1 + front xs) 0)) None in
          o)
          ≡ cond here (Some 0) (later (cond rest (Some (front xs)) None))
      by true rest e = let below : nat_lt 0 (suc (length xs)) ≡ true = first_of (search (rules, tests), grind (arith, tests)) in rw below refl
      by false true e = let below : nat_lt (1 + front xs) (suc (length xs)) ≡ true = first_of (search (rules, tests), grind (arith, tests)) in
          rw below (some_same (1 + front xs) (suc (front xs)) (omega arith))
      by false false e = let above : nat_lt (1 + front xs) (suc (length xs)) ≡ false = first_of (search (rules, tests), grind (arith, tests)) in
          rw above refl

  later-behind : (n : ℕ) (o q : Option ℕ) → later (behind n o q) ≡ behind (suc n) (later o) q
  unfolding later
  later-behind n (Some at) q = refl
  later-behind n None (Some at) = some_same (suc (n + at)) (suc n + at) (omega arith)
  later-behind n None None = refl

  pub position-append : (xs ys : List X) → position p (xs ++ ys) ≡ behind (length xs) (position p xs) (position p ys)
  position-append [] ys = by (position p ys)
    where
      by : (o : Option ℕ) → o ≡ behind 0 None o
      by None = refl
      by (Some at) = some_same at (0 + at) (omega arith)
  position-append (x ∷ xs) ys =
      position-cons x (xs ++ ys) ∙ ap (λ o. cond (p x) (Some 0) (later o)) (position-append xs ys)
      ∙ by (p x) ∙ ap (λ o. behind (suc (length xs)) o (position p ys)) (sym (position-cons x xs))
    where
      by : (here : Bool) → (let o : Option ℕ = cond here (Some 0) (later (behind (length xs) (position p xs) (position p ys))) in o) ≡
          behind (suc (length xs)) (cond here (Some 0) (later (position p xs))) (position p ys)
      by true = refl
      by false = later-behind (length xs) (position p xs) (position p ys)

  none_later : (o : Option ℕ) → later o ≡ None → o ≡ None
  unfolding later
  none_later None e = refl
  none_later (Some at) e = cc

  pub position-none : (xs : List X) → position p xs ≡ None → list_any p xs ≡ false
  position-none [] e = refl
  position-none (x ∷ xs) e = by (p x) refl (sym (position-cons x xs) ∙ e) (position-none xs)
    where
      by : (here : Bool) → p x ≡ here → (let o : Option ℕ = cond here (Some 0) (later (position p xs)) in o) ≡ None →
          (position p xs ≡ None → list_any p xs ≡ false) → list_any p (x ∷ xs) ≡ false
      by true is none rest = cc
      by false is none rest = ap (λ (b : Bool). b || list_any p xs) is ∙ rest (none_later (position p xs) none)

  pub position-none_more : (x : X) (xs : List X) → p x ≡ false → position p xs ≡ None → position p (x ∷ xs) ≡ None
  unfolding later
  position-none_more x xs is none = position-cons x xs ∙ ap (λ (b : Bool). cond b (Some 0) (later (position p xs))) is ∙ ap later none
