-- What loops over the declared names find. Main lemmas `told_name`, `summed_found` and `summed_gone` for summed names, and
-- `free_names_are` for free ones. A parameter alone is without operator, so the free names with operators are those of role free.
use Rattle.ct_module.proofs.Base.{◌≡◌, ◌≢◌, refl, ℕ, zero, suc, ◌+◌, ◌<◌, ◌≤◌, Bool, true, false, ◌||◌, cond, eqb, ltb, List, [], ◌∷◌, ◌++◌}
use Rattle.ct_module.proofs.Base.{length, map, filter, list_any, range_with_len, Some, sym, ◌∙◌, ap, ap₂, subst, arith, ◌↔◌}
use Rattle.std.proofs.Common.{◌&&◌, eq-eqb, slice_get, ℤ, length-append, append_assoc}
use Rattle.std.proofs.lemmas.Bool.{ltb-false, ne_eqb}
use Rattle.std.proofs.lemmas.List.{map-append}
use Rattle.std.proofs.lemmas.List.Elements.{All-nil, All-push, All-weaker}
use Rattle.std.proofs.lemmas.List.Quantifiers.{all_pairs_push}
use Rattle.std.specs.List.{All, AllPairs}
use Rattle.ct_algebra.specs.Actions.{by_action, Shift, Derive, Still}
use Rattle.ct_algebra.specs.Actions as actions
use Rattle.ct_algebra.specs.Coefficients.{is_chosen}
use Rattle.ct_algebra.specs.FreeOf.{IsFreeOf}
use Rattle.ct_algebra.specs.Monomial.{Mono, exp}
use Rattle.ct_algebra.specs.Names.{Name, place, name_with}
use Rattle.ct_algebra.specs.Polynomial.{Polynomial}
use Rattle.ct_algebra.specs.Terms.{EachTerm}
use Rattle.ct_frac.specs.Symbols.{has_name}
use Rattle.ct_ore.proofs.PairMeasureLaws.{known_action, no_action}
use Rattle.ct_ore.specs.Naming.{Naming, IsAlgebra, IsNaming, EachIsNaming, actions_of, summed_from, with_summed, is_summed}
unfoldable use Rattle.ct_ore.specs.Naming.{summed_of}
use Rattle.ct_ore.specs.declared.algebra.Role.{Role}
use Rattle.ct_ore.specs.declared.algebra.Role.TheVariants.{Free, Summed, Param}
use Rattle.ct_poly.proofs.TermLists.{place-name_with}
use Rattle.ct_telescoping.specs.Columns.{is_free_name, free_names}
use Rattle.ct_module.specs.Columns.{has_summed}

-- ---- whether a polynomial has a name

none_above : (n : ℕ) → ltb 0 n ≡ false → n ≡ 0
none_above n none = let low = ltb-false 0 n none in omega arith

none_has : (k : ℕ) (es : List (Mono × ℤ)) → list_any (λ e. ltb 0 (exp e.0 k)) es ≡ false → EachTerm (λ m c. exp m k ≡ 0) es
none_has k [] none = tt
none_has k (e ∷ es) none = by (ltb 0 (exp e.0 k)) refl (none_has k es) none
  where
    by :
        (b : Bool) → ltb 0 (exp e.0 k) ≡ b → (list_any (λ e. ltb 0 (exp e.0 k)) es ≡ false → EachTerm (λ m c. exp m k ≡ 0) es) →
        (b || list_any (λ e. ltb 0 (exp e.0 k)) es) ≡ false → EachTerm (λ m c. exp m k ≡ 0) (e ∷ es)
    by true told rest none = cc
    by false told rest none = (none_above (exp e.0 k) told, rest none)

all_without : (k : ℕ) (es : List (Mono × ℤ)) → EachTerm (λ m c. exp m k ≡ 0) es → list_any (λ e. ltb 0 (exp e.0 k)) es ≡ false
all_without k [] all = refl
all_without k (e ∷ es) all = ap₂ ◌||◌ (ap (ltb 0) all.0) (all_without k es all.1)

-- the test that the code makes
pub told_name : (i : Name) (p : Polynomial) (b : Bool) → (b ≡ false) ↔ IsFreeOf i p → b ≡ has_name i p
told_name i p true told = by (has_name i p) refl
  where
    by : (b : Bool) → has_name i p ≡ b → true ≡ b
    by true there = refl
    by false none = let bad : true ≡ false = told.1 (none_has (place i) p.terms none) in cc
told_name i p false told = sym (all_without (place i) p.terms (told.0 refl))

-- ---- summed names

pub has_summed_is : (ns : List Naming) (p : Polynomial) → has_summed ns p ≡ list_any (λ j. has_name j p) (summed_from 0 ns)
unfolding summed_of
has_summed_is ns p = refl

module _ (f : Name → Bool) (j : Name) (js : List Name) where
  pub summed_found : (r : Role) → (is_summed r && f j) ≡ true → true ≡ list_any f (with_summed r j js)
  summed_found Summed found = ap (λ b. b || list_any f js) (sym found)
  summed_found Free found = cc
  summed_found Param found = cc

  pub summed_gone : (r : Role) → (is_summed r && f j) ≡ false → list_any f (with_summed r j js) ≡ list_any f js
  summed_gone Summed gone = ap (λ b. b || list_any f js) gone
  summed_gone Free gone = refl
  summed_gone Param gone = refl

-- ---- free names

abbrev pub is_free : Role → Bool
is_free Free = true
is_free Summed = false
is_free Param = false

-- the free names from the number k on
abbrev pub free_from : ℕ → List Naming → List Name
free_from k [] = []
free_from k (n ∷ ns) = cond (is_free n.role) (name_with k ∷ free_from (k + 1) ns) (free_from (k + 1) ns)

-- later summed names are others
chosen_later : (k j : ℕ) (ns : List Naming) → k < j → j + length ns ≤ 6 → is_chosen (summed_from j ns) k ≡ false
chosen_later k j [] less few = refl
chosen_later k j (n ∷ ns) less few = by n.role (chosen_later k (j + 1) ns (omega arith) (omega arith))
  where
    by : (r : Role) → is_chosen (summed_from (j + 1) ns) k ≡ false → is_chosen (with_summed r (name_with j) (summed_from (j + 1) ns)) k ≡ false
    by Summed rest =
        ap (λ b. cond b true (is_chosen (summed_from (j + 1) ns) k))
        (ap (eqb k) (place-name_with j (omega arith)) ∙ ne_eqb k j (λ equal. omega arith)) ∙ rest
    by Free rest = rest
    by Param rest = rest

chosen_at :
    (before : List Naming) (n : Naming) (more : List Naming) (j k : ℕ) → j + length before ≡ k → k + suc (length more) ≤ 6 →
    is_chosen (summed_from j (before ++ n ∷ more)) k ≡ is_summed n.role
chosen_at [] n more j k same few = by n.role (chosen_later k (j + 1) more (omega arith) (omega arith))
  where
    by : (r : Role) → is_chosen (summed_from (j + 1) more) k ≡ false → is_chosen (with_summed r (name_with j) (summed_from (j + 1) more)) k ≡ is_summed r
    by Summed rest =
        ap (λ b. cond b true (is_chosen (summed_from (j + 1) more) k))
        (ap (eqb k) (place-name_with j (omega arith)) ∙ eq-eqb k j (omega arith))
    by Free rest = rest
    by Param rest = rest
chosen_at (m ∷ before) n more j k same few =
    by m.role (chosen_at before n more (j + 1) k (omega arith) few)
  where
    by :
        (r : Role) → is_chosen (summed_from (j + 1) (before ++ n ∷ more)) k ≡ is_summed n.role →
        is_chosen (with_summed r (name_with j) (summed_from (j + 1) (before ++ n ∷ more))) k ≡ is_summed n.role
    by Summed rest =
        ap (λ b. cond b true (is_chosen (summed_from (j + 1) (before ++ n ∷ more)) k))
        (ap (eqb k) (place-name_with j (omega arith)) ∙ ne_eqb k j (λ equal. omega arith)) ∙ rest
    by Free rest = rest
    by Param rest = rest

get_behind : (before : List Naming) (n : Naming) (more : List Naming) → slice_get (before ++ n ∷ more) (length before) ≡ Some n
get_behind [] n more = refl
get_behind (m ∷ before) n more = get_behind before n more

naming_behind : (before : List Naming) (n : Naming) (more : List Naming) → EachIsNaming (before ++ n ∷ more) → IsNaming n
naming_behind [] n more each = each.0
naming_behind (m ∷ before) n more each = naming_behind before n more each.1

-- the two tests of a declared name
role_tells : (r : Role) (t : actions.Action) → (t ≡ Still) ↔ (r ≡ Param) → cond (is_summed r) false (by_action t true true false) ≡ is_free r
role_tells Summed t still = refl
role_tells Param t still = ap (λ t. by_action t true true false) (still.1 refl)
role_tells Free Shift still = refl
role_tells Free Derive still = refl
role_tells Free Still still = let bad : Free ≡ Param = still.0 refl in cc

module _ (ns : List Naming) (is : IsAlgebra ns) where
  abbrev test : Name → Bool
  test = is_free_name (actions_of ns) (summed_of ns)

  free_declared :
      (before : List Naming) (n : Naming) (more : List Naming) (k : ℕ) → length before ≡ k → ns ≡ before ++ n ∷ more →
      test (name_with k) ≡ is_free n.role
  unfolding summed_of
  free_declared before n more k counted all =
      let sizes : length ns ≡ length before + suc (length more) = ap length all ∙ length-append before (n ∷ more) in
      let few = is.few in
      let small : k < 6 = omega arith in
      let there : slice_get ns k ≡ Some n = ap₂ slice_get all (sym counted) ∙ get_behind before n more in
      ap₂ (λ b t. cond b false (by_action t true true false))
      (ap₂ is_chosen (ap (summed_from 0) all) (place-name_with k small) ∙ chosen_at before n more 0 k (omega (arith, counted)) (omega arith))
      (known_action ns n k small there)
      ∙ role_tells n.role n.action (naming_behind before n more (subst EachIsNaming all is.each)).still_parameters

  free_past : (k : ℕ) → k < 6 → length ns ≤ k → test (name_with k) ≡ false
  free_past k small past =
      ap (λ t. cond (is_chosen (summed_of ns) (place (name_with k))) false (by_action t true true false)) (no_action ns k small past)
      ∙ by (is_chosen (summed_of ns) (place (name_with k)))
    where
      by : (b : Bool) → cond b false false ≡ false
      by true = refl
      by false = refl

  past_end : (left k : ℕ) → k + left ≡ 6 → length ns ≤ k → filter test (map name_with (range_with_len k left)) ≡ []
  past_end zero k all past = refl
  past_end (suc left) k all past =
      ap (λ b. cond b (name_with k ∷ filter test (map name_with (range_with_len (k + 1) left))) (filter test (map name_with (range_with_len (k + 1) left))))
      (free_past k (omega arith) past)
      ∙ past_end left (k + 1) (omega arith) (omega arith)

  free_rest :
      (rest before : List Naming) (left k : ℕ) → k + left ≡ 6 → length before ≡ k → ns ≡ before ++ rest →
      filter test (map name_with (range_with_len k left)) ≡ free_from k rest
  free_rest [] before left k all counted parts =
      past_end left k all (let sizes = ap length parts ∙ length-append before [] in omega arith)
  free_rest (n ∷ more) before zero k all counted parts =
      let sizes = ap length parts ∙ length-append before (n ∷ more) in
      let few = is.few in
      absurd (omega arith)
  free_rest (n ∷ more) before (suc left) k all counted parts =
      ap (λ b. cond b (name_with k ∷ filter test (map name_with (range_with_len (k + 1) left))) (filter test (map name_with (range_with_len (k + 1) left))))
      (free_declared before n more k counted parts)
      ∙ ap (λ js. cond (is_free n.role) (name_with k ∷ js) js)
      (free_rest more (before ++ n ∷ []) left (k + 1) (omega arith) (let more_by_one = length-append before (n ∷ []) in omega arith)
      (parts ∙ sym (append_assoc before (n ∷ []) more)))

  pub free_names_are : free_names (actions_of ns) (summed_of ns) ≡ free_from 0 ns
  free_names_are = free_rest ns [] 6 0 refl refl refl

-- ---- a loop that collects the free names

-- those found before the number i, where `rest` are the names from there on
pub record IsSeeking (ns : List Naming) (found : List ℕ) (i : ℕ) (rest : List Naming) : Type 0 where
  pub names : map name_with found ++ free_from i rest ≡ free_names (actions_of ns) (summed_of ns)
  pub few : i + length rest ≤ 6
  pub low : All (λ k. k < i) found
  pub rise : AllPairs (λ k m. k < m) found

pub seeking_start : (ns : List Naming) → IsAlgebra ns → IsSeeking ns [] 0 ns
seeking_start ns is = record {
  names = sym (free_names_are ns is);
  few = let few = is.few in omega arith;
  low = All-nil (λ k. k < 0);
  rise = λ k m d order small. absurd (omega arith);
}

module _ (ns : List Naming) (found : List ℕ) (i : ℕ) (n : Naming) (more : List Naming) (seeking : IsSeeking ns found i (n ∷ more)) where
  low_still : All (λ k. k < i + 1) found
  low_still = All-weaker (λ k. k < i) (λ k. k < i + 1) (λ k less. omega arith) found seeking.low

  pub seeking_free : n.role ≡ Free → IsSeeking ns (found ++ i ∷ []) (i + 1) more
  seeking_free free = record {
    names =
        ap (λ js. js ++ free_from (i + 1) more) (map-append name_with found (i ∷ []))
        ∙ append_assoc (map name_with found) (name_with i ∷ []) (free_from (i + 1) more)
        ∙ ap (λ r. map name_with found ++ cond (is_free r) (name_with i ∷ free_from (i + 1) more) (free_from (i + 1) more)) (sym free)
        ∙ seeking.names;
    few = let few = seeking.few in omega arith;
    low = All-push (λ k. k < i + 1) found i low_still (omega arith);
    rise = all_pairs_push (λ k m. k < m) found i seeking.rise seeking.low;
  }

  pub seeking_other : n.role ≢ Free → IsSeeking ns found (i + 1) more
  seeking_other other = record {
    names =
        ap (λ b. map name_with found ++ cond b (name_with i ∷ free_from (i + 1) more) (free_from (i + 1) more)) (sym (by n.role other))
        ∙ seeking.names;
    few = let few = seeking.few in omega arith;
    low = low_still;
    rise = seeking.rise;
  }
    where
      by : (r : Role) → r ≢ Free → is_free r ≡ false
      by Free other = absurd (other refl)
      by Summed other = refl
      by Param other = refl
