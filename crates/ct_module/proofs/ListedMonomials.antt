-- The monomials that are listed from the numbers of names are those that ct_telescoping lists: main lemma `listed_in`. Both lists
-- rise and have the same monomials.
use Rattle.ct_module.proofs.Base.{◌≡◌, refl, ℕ, zero, suc, ◌<◌, ◌≤◌, Bool, true, false, List, [], ◌∷◌, map, All, Contains, sym, ◌∙◌, ap, subst}
use Rattle.ct_module.proofs.Base.{arith}
use Rattle.std.proofs.Common.{Less}
use Rattle.std.proofs.lemmas.List.Elements.{All-contains, All-contains_itself, All-weaker}
use Rattle.std.specs.List.{AllPairs}
use Rattle.ct_algebra.proofs.CoefficientLawProofs.{chosen_of, one_of}
use Rattle.ct_algebra.specs.Coefficients.{is_chosen}
use Rattle.ct_algebra.specs.CoefficientLaws.{IsIn}
use Rattle.ct_algebra.specs.Monomial.{Mono, exp, total, mono_cmp}
use Rattle.ct_algebra.specs.Names.{Name, name_with, place, place_small, x0, x1, x2, x3, x4, x5}
use Rattle.ct_mono.proofs.ListPairs.{pairs_head, pairs_tail}
use Rattle.ct_mono.specs.Listing.{UsesOnly, IsListing}
use Rattle.ct_ore.specs.Naming.{Naming, actions_of, summed_of}
use Rattle.ct_poly.proofs.TermLists.{place-name_with}
use Rattle.ct_telescoping.proofs.ListParts.{contains_map, contains_map_cases}
use Rattle.ct_telescoping.proofs.NamesIn.{monomials_in-listing, IsIn-free}
use Rattle.ct_telescoping.proofs.RisingLists.{listing_unique}
use Rattle.ct_telescoping.specs.Columns.{monomials_in, free_names}
use Rattle.ct_telescoping.specs.Rising.{Rises}
use Rattle.ct_telescoping.specs.Staircase.{HasOperators}
use Rattle.ct_module.specs.Columns.{free_monomials}

pub name_with-place : (i : Name) → name_with (place i) ≡ i
name_with-place x0 = refl
name_with-place x1 = refl
name_with-place x2 = refl
name_with-place x3 = refl
name_with-place x4 = refl
name_with-place x5 = refl

rises_of : (ms : List Mono) → AllPairs (λ m n. mono_cmp m n ≡ Less) ms → Rises ms
rises_of [] pairs = tt
rises_of (m ∷ ms) pairs = (
  λ n found. All-contains (λ n. mono_cmp m n ≡ Less) ms n (pairs_head (λ m n. mono_cmp m n ≡ Less) m ms pairs) found,
  rises_of ms (pairs_tail (λ m n. mono_cmp m n ≡ Less) m ms pairs),
)

module _ (names : List ℕ) (known : All (λ i. i < 6) names) where
  abbrev js : List Name
  js = map name_with names

  uses_in : (m : Mono) → UsesOnly names m → IsIn js m
  uses_in m uses i some = one_of js i (by (is_chosen js (place i)) refl)
    where
      by : (b : Bool) → is_chosen js (place i) ≡ b → is_chosen js (place i) ≡ true
      by true told = told
      by false told = absurd (some (uses (place i) (place_small i) (λ found. no found)))
        where
          no : Contains names (place i) → ⊥
          no found =
              let there = subst (Contains js) (name_with-place i) (contains_map name_with names (place i) found) in
              let chosen : is_chosen js (place i) ≡ true = chosen_of js i there.0 there.1 there.2 in
              let bad : false ≡ true = sym told ∙ chosen in
              cc

  in_uses : (m : Mono) → IsIn js m → UsesOnly names m
  in_uses m within k small none = by (exp m k) refl
    where
      by : (e : ℕ) → exp m k ≡ e → e ≡ 0
      by zero is = refl
      by (suc e) is =
          let some : exp m (place (name_with k)) ≡ suc e = ap (exp m) (place-name_with k small) ∙ is in
          let image = contains_map_cases name_with names (name_with k) (within (name_with k) (λ gone. omega arith)) in
          let low = All-contains (λ i. i < 6) names image.of known image.found in
          absurd (none (subst (Contains names) (sym (place-name_with image.of low) ∙ ap place image.is ∙ place-name_with k small) image.found))

  pub listed_in : (degree : ℕ) (ms : List Mono) → IsListing names degree ms → ms ≡ monomials_in js degree
  listed_in degree ms is =
      listing_unique (λ m. (total m ≤ degree) × IsIn js m) ms (monomials_in js degree)
      (record {
        rises = rises_of ms is.rises;
        sound = λ m found. let h = All-contains (λ m. (total m ≤ degree) × UsesOnly names m) ms m is.within found in (h.0, uses_in m h.1);
        complete = λ m h. is.complete m h.0 (in_uses m h.1);
      })
      (monomials_in-listing js degree)

-- ---- free monomials

pub free_listed :
    (ns : List Naming) (r : ℕ) (names : List ℕ) (ms : List Mono) → map name_with names ≡ free_names (actions_of ns) (summed_of ns) →
    All (λ i. i < 6) names → IsListing names r ms → ms ≡ free_monomials ns r
free_listed ns r names ms same known listing = listed_in names known r ms listing ∙ ap (λ js. monomials_in js r) same

pub free_operators :
    (ns : List Naming) (r : ℕ) (ms : List Mono) → ms ≡ free_monomials ns r → All (HasOperators (actions_of ns)) ms
free_operators ns r ms same =
    let listing = monomials_in-listing (free_names (actions_of ns) (summed_of ns)) r in
    All-weaker (Contains ms) (HasOperators (actions_of ns))
    (λ γ found. (IsIn-free (actions_of ns) (summed_of ns) γ (listing.sound γ (subst (λ l. Contains l γ) same found)).1).1) ms
    (All-contains_itself ms)
