-- Monomials in some of the names. Main lemmas: `monomials_in-listing`, and `IsIn-free`, `free-IsIn`: the monomials in the free
-- names are the free monomials. `each_contained` and `contained_each` go between facts about each name of a list.
use Rattle.ct_telescoping.proofs.Base.{◌≡◌, ℕ, zero, suc, ◌≤◌, Bool, true, false, cond, List, [], ◌∷◌, ◌⊎◌, Contains, sym, ◌∙◌, ap, subst, inl, inr}
use Rattle.ct_telescoping.proofs.Base.{Ordering, Less, Equal, Greater, by_order, is_chosen, inside, Mono, exp, mono_cmp, mono_tied, mono_same, total}
use Rattle.ct_telescoping.proofs.Base.{Name, place, Action, Shift, Derive, Still, by_action, IsWithout, EachName, chosen_of, one_of, inside_whole}
use Rattle.ct_telescoping.proofs.Base.{inside_within}
use Rattle.std.specs.Prelude.{refl}
use Rattle.ct_algebra.specs.CoefficientLaws.{IsIn}
use Rattle.ct_telescoping.specs.Rising.{IsListingOf, all_names}
use Rattle.ct_telescoping.specs.Columns.{is_in, monomials_in, is_free_name, free_names}
use Rattle.ct_telescoping.specs.NoTelescoper.{IsFreeMonomial}
use Rattle.ct_telescoping.proofs.ListParts.{contains_first, contains_later, contains_cases, contains_none, contains_filter, contains_filter_cases}
use Rattle.ct_telescoping.proofs.RisingLists.{each_name, up_to-listing}

-- ---- names of a list

-- a fact about each name that is there
pub each_contained : (P : Name → Type 0) (js : List Name) → EachName P js → (j : Name) → Contains js j → P j
each_contained P [] each j found = absurd (contains_none j found)
each_contained P (i ∷ js) each j found = by (contains_cases i j js found) (each_contained P js each.1 j)
  where
    by : (i ≡ j) ⊎ Contains js j → (Contains js j → P j) → P j
    by (inl same) rest = subst P same each.0
    by (inr later) rest = rest later

pub contained_each : (P : Name → Type 0) (js : List Name) → ((j : Name) → Contains js j → P j) → EachName P js
contained_each P [] holds = tt
contained_each P (i ∷ js) holds =
    (holds i (contains_first i js), contained_each P js (λ j found. holds j (contains_later i j js found)))

-- ---- the list of monomials

is_in-IsIn : (js : List Name) (m : Mono) → is_in js m ≡ true → IsIn js m
is_in-IsIn js m passes = subst (IsIn js) (by (mono_cmp (inside js m) m) refl passes) (inside_within js m)
  where
    by : (r : Ordering) → mono_cmp (inside js m) m ≡ r → by_order r false true false ≡ true → inside js m ≡ m
    by Less is passes = cc
    by Equal is passes = mono_tied _ _ is
    by Greater is passes = cc

IsIn-is_in : (js : List Name) (m : Mono) → IsIn js m → is_in js m ≡ true
IsIn-is_in js m within =
    ap (λ r. by_order r false true false) (ap (λ k. mono_cmp k m) (inside_whole js m within) ∙ mono_same m)

pub monomials_in-listing :
    (js : List Name) (n : ℕ) → IsListingOf (λ m. (total m ≤ n) × IsIn js m) (monomials_in js n)
monomials_in-listing js n =
    let listing = up_to-listing (is_in js) n in
    record {
      rises = listing.rises;
      sound = λ m found. let holds = listing.sound m found in (holds.0, is_in-IsIn js m holds.1);
      complete = λ m holds. listing.complete m (holds.0, IsIn-is_in js m holds.1);
    }

-- ---- free names

module _ (a : Name → Action) (summed : List Name) where
  -- a name that is free has an operator and is not summed
  free_unsummed : (i : Name) → is_free_name a summed i ≡ true → Contains summed i → ⊥
  free_unsummed i free found =
      let summed_too : is_free_name a summed i ≡ false = ap (λ b. cond b false (by_action (a i) true true false))
      (chosen_of summed i found.0 found.1 found.2) in cc

  free_acts : (i : Name) → is_free_name a summed i ≡ true → a i ≡ Still → ⊥
  free_acts i free still = by (is_chosen summed (place i))
      (sym (ap (λ t. cond (is_chosen summed (place i)) false (by_action t true true false)) still) ∙ free)
    where
      by : (b : Bool) → cond b false false ≡ true → ⊥
      by true is = cc
      by false is = cc

  -- any other is summed or has none
  not_free : (i : Name) → is_free_name a summed i ≡ false → Contains summed i ⊎ (a i ≡ Still)
  not_free i other = by (is_chosen summed (place i)) refl (a i) refl other
    where
      by : (b : Bool) → is_chosen summed (place i) ≡ b → (t : Action) → a i ≡ t →
          cond b false (by_action t true true false) ≡ false → Contains summed i ⊎ (a i ≡ Still)
      by true chosen t acts other = inl (one_of summed i chosen)
      by false chosen Shift acts other = cc
      by false chosen Derive acts other = cc
      by false chosen Still acts other = inr acts

  -- a monomial in the free names is without any other
  absent : (m : Mono) → IsIn (free_names a summed) m → (i : Name) → (is_free_name a summed i ≡ true → ⊥) → IsWithout i m
  absent m within i other = by (exp m (place i)) refl
    where
      by : (n : ℕ) → exp m (place i) ≡ n → n ≡ 0
      by zero is = refl
      by (suc n) is =
          absurd (other (contains_filter_cases (is_free_name a summed) all_names i (within i (λ none. cc))).1)

  pub IsIn-free : (m : Mono) → IsIn (free_names a summed) m → IsFreeMonomial a summed m
  IsIn-free m within = (
    contained_each (λ j. IsWithout j m) summed (λ j found. absent m within j (λ free. free_unsummed j free found)),
    λ i still. absent m within i (λ free. free_acts i free still),
  )

  pub free-IsIn : (m : Mono) → IsFreeMonomial a summed m → IsIn (free_names a summed) m
  free-IsIn m free i some =
      contains_filter (is_free_name a summed) all_names i (each_name i) (by (is_free_name a summed i) refl)
    where
      without : Contains summed i ⊎ (a i ≡ Still) → IsWithout i m
      without (inl found) = each_contained (λ j. IsWithout j m) summed free.0 i found
      without (inr still) = free.1 i still

      by : (b : Bool) → is_free_name a summed i ≡ b → b ≡ true
      by true is = refl
      by false is = absurd (some (without (not_free i is)))
