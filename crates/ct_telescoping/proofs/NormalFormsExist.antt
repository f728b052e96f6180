-- Each staircase has normal forms: main lemma `normal_forms`. They are filled in along a rising list of all monomials up to
-- a total: an element gets its unit vector, any other monomial what makes zero of the first generator that divides it,
-- moved there. What is filled in later changes nothing at lower monomials, and lists up to different totals agree.
use Rattle.ct_telescoping.proofs.Base.{◌≡◌, ◌≢◌, ℕ, ◌<◌, ◌≤◌, List, [], ◌∷◌, get_or, ◌⊎◌, All, Contains, sym, ◌∙◌, ap, subst, arith, inl, inr}
use Rattle.ct_telescoping.proofs.Base.{Ordering, Less, Equal, Greater, All-get_or, neg_add, EachTerm, AllBelow, by_order, less_is, not_zero, Mono}
use Rattle.ct_telescoping.proofs.Base.{mono_cmp, mono_same, mono_tied, monomials, total, total_of_less, ·_comm, Name, Polynomial, polys, polys_domain}
use Rattle.ct_telescoping.proofs.Base.{Action, Operator, no_operator, IsOver, inverse, mul-inverse, embed_nonzero, K, field, LeadingDivides}
use Rattle.ct_telescoping.proofs.Base.{IsIrreducible}
use Rattle.std.specs.Prelude.{refl}
use Rattle.ct_telescoping.specs.Vector.{Vector, unit_vector}
use Rattle.ct_telescoping.specs.VectorModule.{scale_vector, scale_mul, scale_one}
use Rattle.ct_telescoping.specs.Staircase.{HasOperators, IsElement, IsStaircaseOf}
use Rattle.ct_telescoping.specs.Tested.{combined, FirstReducer, ReducesAt, AreNormalForms}
use Rattle.ct_telescoping.specs.Rising.{Rises, rising, within}
use Rattle.ct_telescoping.proofs.ListParts.{contains_first, contains_later, contains_cases, contains_none}
use Rattle.ct_telescoping.proofs.RisingLists.{rises_rising, contains_rising, total_within}
use Rattle.ct_telescoping.proofs.StaircaseGrows.{operators_divisor, elements_differ, found_or_not}
use Rattle.ct_telescoping.proofs.Reducers.{reducer_or_none}
use Rattle.ct_telescoping.proofs.MovedOver.{moved_over}
use Rattle.ct_telescoping.proofs.MovedGenerators.{moved, lead, one_moved, canonical}
use Rattle.ct_telescoping.proofs.NormalFormsUnique.{V, ι, sum_of, combined-terms, same_sums, IsAtMost, forms_agree}

module _ (a : Name → Action) (generators : List Operator) (d : ℕ) (element : ℕ → Mono) where
  abbrev Forms : Type 0
  Forms = Mono → Vector K d

  -- ---- one monomial

  pub solved : Forms → (m : Mono) → FirstReducer generators m → Vector K d
  solved f m r =
      scale_vector field d (inverse polys polys_domain (ι d (lead a generators m r).0)) ((V d).neg (sum_of d f (lead a generators m r).1.rest))

  combined_solved : (f : Forms) (m : Mono) (r : FirstReducer generators m) → f m ≡ solved f m r → combined f (moved a generators m r) ≡ (V d).zero
  unfolding solved
  combined_solved f m r is =
      combined-terms d f (moved a generators m r) ∙ ap (sum_of d f) (lead a generators m r).1.is_first
      ∙ ap (λ v. (V d).◌+◌ (scale_vector field d (ι d (lead a generators m r).0) v) (sum_of d f (lead a generators m r).1.rest)) is
      ∙ ap (λ v. (V d).◌+◌ v (sum_of d f (lead a generators m r).1.rest))
      (sym (scale_mul field d (ι d (lead a generators m r).0) (inverse polys polys_domain (ι d (lead a generators m r).0)) _)
      ∙ ap (λ c. scale_vector field d c ((V d).neg (sum_of d f (lead a generators m r).1.rest)))
      (mul-inverse polys polys_domain (ι d (lead a generators m r).0)
      (embed_nonzero polys polys_domain (lead a generators m r).0
      (not_zero monomials polys.group (lead a generators m r).0 (canonical a generators m r).0)))
      ∙ scale_one field d _)
      ∙ neg_add (V d) _

  solved_same :
      (f g : Forms) (m : Mono) (r : FirstReducer generators m) → ((k : Mono) → mono_cmp k m ≡ Less → f k ≡ g k) →
      solved f m r ≡ solved g m r
  unfolding solved
  solved_same f g m r lower =
      ap (λ s. scale_vector field d (inverse polys polys_domain (ι d (lead a generators m r).0)) ((V d).neg s))
      (same_sums d f g (lead a generators m r).1.rest (all (lead a generators m r).1.rest (canonical a generators m r).1))
    where
      all : (es : List (Mono × Polynomial)) → AllBelow monomials polys.group m es → EachTerm (λ k c. f k ≡ g k) es
      all [] below = tt
      all (e ∷ es) below = (lower e.0 (less_is monomials polys.group _ below.0), all es below.1)

  abbrev Found : Mono → Type 0
  Found m = IsElement d element m ⊎ ((k : ℕ) → k < d → m ≢ element k)

  abbrev Reduced : Mono → Type 0
  Reduced m = FirstReducer generators m ⊎ IsIrreducible generators m

  pub found : (m : Mono) → Found m
  found m = found_or_not d element m d (omega arith)

  abbrev solve_by : Forms → (m : Mono) → Found m → Reduced m → Vector K d
  solve_by f m (inl e) r = unit_vector field d e.place
  solve_by f m (inr none) (inl r) = solved f m r
  solve_by f m (inr none) (inr irreducible) = (V d).zero

  abbrev solve : Forms → Mono → Vector K d
  solve f m = solve_by f m (found m) (reducer_or_none generators m)

  solve_same : (f g : Forms) (m : Mono) → ((k : Mono) → mono_cmp k m ≡ Less → f k ≡ g k) → solve f m ≡ solve g m
  solve_same f g m lower = by (found m) (reducer_or_none generators m)
    where
      by : (x : Found m) (y : Reduced m) → solve_by f m x y ≡ solve_by g m x y
      by (inl e) y = refl
      by (inr none) (inl r) = solved_same f g m r lower
      by (inr none) (inr irreducible) = refl

  -- ---- along a list

  abbrev updated : Mono → Vector K d → Forms → Forms
  updated x v f k = by_order (mono_cmp k x) (f k) v (f k)

  abbrev filled : List Mono → Forms → Forms
  filled [] f = f
  filled (x ∷ xs) f = filled xs (updated x (solve f x) f)

  kept :
      (xs : List Mono) (f : Forms) (k : Mono) → ((y : Mono) → Contains xs y → mono_cmp k y ≡ Less) → filled xs f k ≡ f k
  kept [] f k lower = refl
  kept (x ∷ xs) f k lower =
      kept xs (updated x (solve f x) f) k (λ y there. lower y (contains_later x y xs there))
      ∙ ap (λ r. by_order r (f k) (solve f x) (f k)) (lower x (contains_first x xs))

  at_listed :
      (xs : List Mono) → Rises xs → (f : Forms) (y : Mono) → Contains xs y → filled xs f y ≡ solve (filled xs f) y
  at_listed [] rises f y there = absurd (contains_none y there)
  at_listed (x ∷ xs) rises f y there = by (contains_cases x y xs there) (at_listed xs rises.1 (updated x (solve f x) f) y)
    where
      head : filled (x ∷ xs) f x ≡ solve (filled (x ∷ xs) f) x
      head =
          kept xs (updated x (solve f x) f) x rises.0
          ∙ ap (λ r. by_order r (f x) (solve f x) (f x)) (mono_same x)
          ∙ solve_same f (filled (x ∷ xs) f) x (λ k less. sym (kept (x ∷ xs) f k (λ z in_list. above k less z (contains_cases x z xs in_list))))
        where
          above : (k : Mono) → mono_cmp k x ≡ Less → (z : Mono) → (x ≡ z) ⊎ Contains xs z → mono_cmp k z ≡ Less
          above k less z (inl same) = ap (mono_cmp k) (sym same) ∙ less
          above k less z (inr later) = monomials.trans k x z less (rises.0 z later)

      by : (x ≡ y) ⊎ Contains xs y →
          (Contains xs y → filled xs (updated x (solve f x) f) y ≡ solve (filled xs (updated x (solve f x) f)) y) →
          filled (x ∷ xs) f y ≡ solve (filled (x ∷ xs) f) y
      by (inl same) rest = subst (λ z. filled (x ∷ xs) f z ≡ solve (filled (x ∷ xs) f) z) same head
      by (inr later) rest = rest later

  abbrev base_by : (m : Mono) → Found m → Vector K d
  base_by m (inl e) = unit_vector field d e.place
  base_by m (inr none) = (V d).zero

  abbrev base : Forms
  base m = base_by m (found m)

  -- the vectors of all monomials up to a total
  abbrev pub up_to_total : ℕ → Forms
  up_to_total t = filled (rising (within t)) base

  abbrev pub form : Forms
  form m = up_to_total (total m) m

  module _ (over : All (IsOver a) generators) (staircase : IsStaircaseOf d element a generators) where
    abbrev AreUnits : Forms → Type 0
    AreUnits f = (k : ℕ) → k < d → f (element k) ≡ unit_vector field d k

    unit_of : (k : ℕ) → k < d → (e : IsElement d element (element k)) → unit_vector field d e.place ≡ unit_vector field d k
    unit_of k below e =
        ap (unit_vector field d) (elements_differ a generators d element staircase e.place k e.in_range below (sym e.is))

    base_units : AreUnits base
    base_units k below = by (found (element k))
      where
        by : (x : Found (element k)) → base_by (element k) x ≡ unit_vector field d k
        by (inl e) = unit_of k below e
        by (inr none) = absurd (none k below refl)

    solve_units : (f : Forms) (k : ℕ) → k < d → solve f (element k) ≡ unit_vector field d k
    solve_units f k below = by (found (element k)) (reducer_or_none generators (element k))
      where
        by : (x : Found (element k)) (y : Reduced (element k)) → solve_by f (element k) x y ≡ unit_vector field d k
        by (inl e) y = unit_of k below e
        by (inr none) y = absurd (none k below refl)

    updated_units : (f : Forms) (x : Mono) → AreUnits f → AreUnits (updated x (solve f x) f)
    updated_units f x units k below = by (mono_cmp (element k) x) refl
      where
        by : (r : Ordering) → mono_cmp (element k) x ≡ r →
            by_order r (f (element k)) (solve f x) (f (element k)) ≡ unit_vector field d k
        by Less tie = units k below
        by Equal tie = ap (solve f) (sym (mono_tied (element k) x tie)) ∙ solve_units f k below
        by Greater tie = units k below

    filled_units : (xs : List Mono) (f : Forms) → AreUnits f → AreUnits (filled xs f)
    filled_units [] f units = units
    filled_units (x ∷ xs) f units = filled_units xs (updated x (solve f x) f) (updated_units f x units)

    units_up_to : (t : ℕ) → AreUnits (up_to_total t)
    units_up_to t = filled_units (rising (within t)) base base_units

    reduces_up_to : (t : ℕ) (m : Mono) → total m ≤ t → ReducesAt a generators d element (up_to_total t) m
    reduces_up_to t m low has first =
        by (found m) (reducer_or_none generators m)
        (at_listed (rising (within t)) (rises_rising (within t)) base m (contains_rising (within t) m (total_within m t low)))
      where
        reducible : (k : Mono) → m ≡ k → IsIrreducible generators k → ⊥
        reducible k same irreducible =
            irreducible first.index no_operator first.in_range (subst (LeadingDivides (get_or generators first.index no_operator)) same first.divides)

        by : (x : Found m) (y : Reduced m) → up_to_total t m ≡ solve_by (up_to_total t) m x y →
            combined (up_to_total t) (moved a generators m first) ≡ (V d).zero
        by (inl e) y is = absurd (reducible (element e.place) e.is (staircase.irreducible e.place e.in_range))
        by (inr none) (inl r) is =
            ap (combined (up_to_total t)) (one_moved a generators m first r) ∙ combined_solved (up_to_total t) m r is
        by (inr none) (inr irreducible) is = absurd (reducible m refl irreducible)

    at_most : (n m : Mono) → IsAtMost a generators over d element staircase n m → total n ≤ total m
    at_most n m (inl same) = omega (arith, ap total same)
    at_most n m (inr less) = total_of_less n m less

    -- lists up to different totals agree
    same_up_to : (k : Mono) (t : ℕ) → HasOperators a k → total k ≤ t → form k ≡ up_to_total t k
    same_up_to k t has low =
        forms_agree a generators over d element staircase (up_to_total (total k)) (up_to_total t)
        (λ i below. units_up_to (total k) i below ∙ sym (units_up_to t i below)) k has
        (record {
          first = λ n under. reduces_up_to (total k) n (at_most n k under);
          second = λ n under. let small = at_most n k under in reduces_up_to t n (omega arith);
        })

    pub normal_forms : AreNormalForms a generators d element form
    normal_forms = record {
      elements = λ k below. units_up_to (total (element k)) k below;
      reduces = λ m has first.
          combined-terms d form (moved a generators m first)
          ∙ same_sums d form (up_to_total (total m)) (moved a generators m first).terms (terms m has first)
          ∙ sym (combined-terms d (up_to_total (total m)) (moved a generators m first))
          ∙ reduces_up_to (total m) m (omega arith) has first;
    }
      where
        terms : (m : Mono) → HasOperators a m → (first : FirstReducer generators m) →
            EachTerm (λ k c. form k ≡ up_to_total (total m) k) (moved a generators m first).terms
        terms m has first =
            subst (EachTerm (λ k c. form k ≡ up_to_total (total m) k)) (sym (lead a generators m first).1.is_first) (
              refl,
              all (lead a generators m first).1.rest (canonical a generators m first).1
                  (subst (EachTerm (λ k c. HasOperators a k)) (lead a generators m first).1.is_first is_over).1,
            )
          where
            is_over : IsOver a (moved a generators m first)
            is_over =
                moved_over a first.divides.quotient (get_or generators first.index no_operator)
                (operators_divisor a first.divides.mono first.divides.quotient (subst (HasOperators a) (sym first.divides.product ∙ ·_comm _ _) has))
                (All-get_or (IsOver a) generators first.index no_operator first.in_range over)

            all :
                (es : List (Mono × Polynomial)) → AllBelow monomials polys.group m es → EachTerm (λ k c. HasOperators a k) es →
                EachTerm (λ k c. form k ≡ up_to_total (total m) k) es
            all [] below have = tt
            all (e ∷ es) below have =
                (same_up_to e.0 (total m) have.0 (total_of_less e.0 m (less_is monomials polys.group _ below.0)), all es below.1 have.1)
