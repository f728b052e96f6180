-- The numbers of names with operators: main lemmas `numbers_rise`, `numbers_small`, and `uses_operators`, `operators_use`: the monomials
-- in these names are those that have operators.
use Rattle.ct_border.proofs.Base.{◌≡◌, ◌≢◌, ℕ, ◌+◌, ◌<◌, Bool, true, false, refl, sym, ◌∙◌, ap, subst, arith, All, All-filter, AllPairs}
use Rattle.ct_border.proofs.Base.{AllPairs-filter, Contains}
use Rattle.ct_border.proofs.Base.{range_with_len, get_or-range_with_len, contains_filter, contains_filter_cases, Action, Shift}
use Rattle.ct_border.proofs.Base.{Derive, Still, Mono, exp, Name, place, place_small, name_with, place-name_with, same_place, UsesOnly, HasOperators}
use Rattle.ct_border.proofs.Base.{List, [], ◌∷◌, ◌++◌, ap₂, cond, filter, filter_more, get_or, take}
use Rattle.ct_border.specs.Staircase.{acts, operator_numbers}

pub name_with-place : (i : Name) → name_with (place i) ≡ i
name_with-place i = same_place (name_with (place i)) i (place-name_with (place i) (place_small i))

not_acting : (t : Action) → acts t ≡ false → t ≡ Still
not_acting Shift other = cc
not_acting Derive other = cc
not_acting Still other = refl

pub acting : (t : Action) → t ≢ Still → acts t ≡ true
acting Shift other = refl
acting Derive other = refl
acting Still other = absurd (other refl)

module _ (a : Name → Action) where
  -- one number more
  pub numbers_more :
      (i : ℕ) (xs : List ℕ) (b : Bool) → i < 6 → xs ≡ filter (λ i. acts (a (name_with i))) (take i (range_with_len 0 6)) →
      b ≡ acts (a (name_with i)) →
      xs ++ cond b (i ∷ []) [] ≡ filter (λ i. acts (a (name_with i))) (take (i + 1) (range_with_len 0 6))
  numbers_more i xs b small before is =
      let here : get_or (range_with_len 0 6) i i ≡ i = get_or-range_with_len 0 6 i i small ∙ omega arith in
      ap₂ (λ xs b. xs ++ cond b (i ∷ []) []) before is
      ∙ ap (λ k. filter (λ i. acts (a (name_with i))) (take i (range_with_len 0 6)) ++ cond (acts (a (name_with k))) (k ∷ []) []) (sym here)
      ∙ sym (filter_more (λ i. acts (a (name_with i))) (range_with_len 0 6) i i small)

  pub numbers_small : All (λ i. i < 6) (operator_numbers a)
  numbers_small =
      All-filter (λ i. acts (a (name_with i))) (λ i. i < 6) (range_with_len 0 6)
      (λ k d below. let is = get_or-range_with_len 0 6 k d below in omega (arith, is, below))

  pub numbers_rise : AllPairs (λ i j. i < j) (operator_numbers a)
  numbers_rise =
      AllPairs-filter (λ i j. i < j) (λ i. acts (a (name_with i))) (range_with_len 0 6)
      (λ i j d less below.
      let first = get_or-range_with_len 0 6 i d (omega (arith, less, below)) in
      let second = get_or-range_with_len 0 6 j d below in omega (arith, first, second, less))

  pub number_of_acting : (i : Name) → acts (a i) ≡ true → Contains (operator_numbers a) (place i)
  number_of_acting i acting =
      contains_filter (λ i. acts (a (name_with i))) (range_with_len 0 6) (place i)
      (place i, omega (arith, place_small i), get_or-range_with_len 0 6 (place i) (place i) (place_small i) ∙ omega arith)
      (ap (λ j. acts (a j)) (name_with-place i) ∙ acting)

  pub uses_operators : (m : Mono) → UsesOnly (operator_numbers a) m → HasOperators a m
  uses_operators m uses i still =
      uses (place i) (place_small i) (λ found.
      let acting = (contains_filter_cases (λ i. acts (a (name_with i))) (range_with_len 0 6) (place i) found).1 in
      let other : acts (a (name_with (place i))) ≡ false = ap (λ j. acts (a j)) (name_with-place i) ∙ ap acts still in cc)

  pub operators_use : (m : Mono) → HasOperators a m → UsesOnly (operator_numbers a) m
  operators_use m has k small other = by (acts (a (name_with k))) refl
    where
      by : (b : Bool) → acts (a (name_with k)) ≡ b → exp m k ≡ 0
      by true acting =
          absurd (other (subst (Contains (operator_numbers a)) (place-name_with k small) (number_of_acting (name_with k) acting)))
      by false still =
          ap (exp m) (sym (place-name_with k small)) ∙ has (name_with k) (not_acting (a (name_with k)) still)
