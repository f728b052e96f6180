-- Sums over the summed names. Main lemmas: `names-one`, a sum with one term that is not zero; `names-sum_below`, by which it
-- goes inside a sum over numbers.
use Rattle.ct_telescoping.proofs.Base.{◌≡◌, ℕ, ◌⊎◌, true, false, List, [], ◌∷◌, Contains, sym, ◌∙◌, ap, ap₂, refl, subst, inl, inr, eq-eqb, ne_eqb}
use Rattle.ct_telescoping.proofs.Base.{eqb-true, Group, zero_add, sum_below, Name, place, same_place}
use Rattle.ct_telescoping.specs.Rising.{IsOnce}
use Rattle.ct_telescoping.specs.Laws.SumsBelow.{sum_below-zero, sum_below-sum}
use Rattle.ct_telescoping.specs.Assembly.{is_same}
use Rattle.ct_telescoping.proofs.ListParts.{contains_first, contains_later, contains_cases, contains_none}

-- ---- whether names are the same

pub is_same-self : (i : Name) → is_same i i ≡ true
is_same-self i = eq-eqb (place i) (place i) refl

pub is_same-true : (i j : Name) → is_same i j ≡ true → i ≡ j
is_same-true i j same = same_place i j (eqb-true (place i) (place j) same)

pub is_same-other : (i j : Name) → (i ≡ j → ⊥) → is_same i j ≡ false
is_same-other i j other = ne_eqb (place i) (place j) (λ same. other (same_place i j same))

module _ {V : Type 0} (G : Group V) where
  open G use {◌+◌}

  infixl 60 ◌+◌
  abbrev pub sum_of_names : (Name → V) → List Name → V
  sum_of_names f [] = G.zero
  sum_of_names f (j ∷ js) = f j + sum_of_names f js

  pub names-same : (f g : Name → V) (js : List Name) → ((j : Name) → Contains js j → f j ≡ g j) → sum_of_names f js ≡ sum_of_names g js
  names-same f g [] same = refl
  names-same f g (j ∷ js) same =
      ap₂ ◌+◌ (same j (contains_first j js)) (names-same f g js (λ i found. same i (contains_later j i js found)))

  pub names-zero : (f : Name → V) (js : List Name) → ((j : Name) → Contains js j → f j ≡ G.zero) → sum_of_names f js ≡ G.zero
  names-zero f [] none = refl
  names-zero f (j ∷ js) none =
      ap₂ ◌+◌ (none j (contains_first j js)) (names-zero f js (λ i found. none i (contains_later j i js found))) ∙ G.add_zero G.zero

  -- one term
  pub names-one :
      (f : Name → V) (js : List Name) (i : Name) → IsOnce js → Contains js i → ((j : Name) → (i ≡ j → ⊥) → f j ≡ G.zero) →
      sum_of_names f js ≡ f i
  names-one f [] i once found none = absurd (contains_none i found)
  names-one f (j ∷ js) i once found none = by (contains_cases j i js found) (λ later. names-one f js i once.1 later none)
    where
      by : (j ≡ i) ⊎ Contains js i → (Contains js i → sum_of_names f js ≡ f i) → f j + sum_of_names f js ≡ f i
      by (inl same) rest =
          ap₂ ◌+◌ (ap f same) (names-zero f js (λ k there. none k (λ is. once.0 (subst (Contains js) (sym (same ∙ is)) there))))
          ∙ G.add_zero _
      by (inr later) rest =
          ap₂ ◌+◌ (none j (λ is. once.0 (subst (Contains js) is later))) (rest later) ∙ zero_add G _

  pub names-sum_below :
      (n : ℕ) (f : ℕ → Name → V) (js : List Name) →
      sum_below G n (λ k. sum_of_names (f k) js) ≡ sum_of_names (λ j. sum_below G n (λ k. f k j)) js
  names-sum_below n f [] = sum_below-zero G n (λ k. G.zero) (λ k below. refl)
  names-sum_below n f (j ∷ js) =
      sum_below-sum G n (λ k. f k j) (λ k. sum_of_names (f k) js) ∙ ap (G.◌+◌ (sum_below G n (λ k. f k j))) (names-sum_below n f js)
