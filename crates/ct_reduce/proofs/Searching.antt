-- What the search finds. Main lemmas `found`, `nothing_found`, `greatest_is_greatest`: the terms fall, so the first term with
-- a reducer has the greatest monomial. Cited by `ReductionEnds` and the laws.
use Rattle.ct_reduce.proofs.Base.{◌≡◌, ◌≢◌, None, Some, List, [], ◌∷◌, ◌⊎◌, refl, MatchOption, T, Option, sym, ◌∙◌, ap, subst, inl, inr, Ordering}
use Rattle.ct_reduce.proofs.Base.{Less, Equal, Greater, zero_add, AllBelow, IsCanonical, value_at, by_order, is_less, at_below, at_head, less_is}
use Rattle.ct_reduce.proofs.Base.{not_zero, AllBelow_trans, at, Mono, monomials, mono_cmp, mono_tied, mono_turned, Polynomial, polys, Operator}
use Rattle.ct_reduce.proofs.Base.{polynomial_at, IsIrreducible, IsReduced, Reduction}
use Rattle.ct_reduce.specs.Reduction.{Reducer, Reducible, or_later, first_reducer, reducible_by, first_reducible, greatest_reducible}
use Rattle.ct_reduce.specs.ReductionLaws.{IsGreatestReducible}
use Rattle.ct_reduce.proofs.FirstReducers.{none_reduces, found_is_first}

abbrev pub value : List (Mono × Polynomial) → Mono → Polynomial
value es k = value_at monomials polys.group es k

-- nothing is there, or no generator reduces it
abbrev pub IsDone : List Operator → List (Mono × Polynomial) → Mono → Type 0
IsDone generators es k = (value es k ≡ polys.zero) ⊎ (first_reducer k generators ≡ None)

pub record Found (generators : List Operator) (es : List (Mono × Polynomial)) (h : Reducible) : Type 0 where
  pub coef_is : value es h.mono ≡ h.coef
  pub nonzero : h.coef ≢ polys.zero
  pub reduces : first_reducer h.mono generators ≡ Some h.reducer
  pub above : (k : Mono) → mono_cmp h.mono k ≡ Less → IsDone generators es k
  pub below : (m : Mono) → AllBelow monomials polys.group m es → mono_cmp h.mono m ≡ Less

skipped :
    (e : Mono × Polynomial) (es : List (Mono × Polynomial)) (k : Mono) (r : Ordering) → mono_cmp e.0 k ≡ r → r ≢ Equal →
    value (e ∷ es) k ≡ value es k
skipped e es k Less order other =
    ap (λ r. polys.◌+◌ (by_order r polys.zero e.1 polys.zero) (value es k)) order ∙ zero_add polys.group _
skipped e es k Equal order other = absurd (other refl)
skipped e es k Greater order other =
    ap (λ r. polys.◌+◌ (by_order r polys.zero e.1 polys.zero) (value es k)) order ∙ zero_add polys.group _

with_head :
    (generators : List Operator) (e : Mono × Polynomial) (es : List (Mono × Polynomial)) →
    first_reducer e.0 generators ≡ None → (k : Mono) → IsDone generators es k → IsDone generators (e ∷ es) k
with_head generators e es none k done = by (mono_cmp e.0 k) refl
  where
    moved : IsDone generators es k → value (e ∷ es) k ≡ value es k → IsDone generators (e ∷ es) k
    moved (inl nothing) same = inl (same ∙ nothing)
    moved (inr irreducible) same = inr irreducible

    by : (r : Ordering) → mono_cmp e.0 k ≡ r → IsDone generators (e ∷ es) k
    by Less order = moved done (skipped e es k Less order (λ q. cc))
    by Equal order = inr (subst (λ m. first_reducer m generators ≡ None) (mono_tied e.0 k order) none)
    by Greater order = moved done (skipped e es k Greater order (λ q. cc))

pub nothing_found :
    (generators : List Operator) (es : List (Mono × Polynomial)) → first_reducible generators es ≡ None → (k : Mono) →
    IsDone generators es k
nothing_found generators [] none k = inl refl
nothing_found generators (e ∷ es) none k =
    by (first_reducer e.0 generators) refl (nothing_found generators es) none
  where
    by :
        (o : Option Reducer) → first_reducer e.0 generators ≡ o →
        (first_reducible generators es ≡ None → (k : Mono) → IsDone generators es k) →
        or_later (reducible_by e o) (first_reducible generators es) ≡ None → IsDone generators (e ∷ es) k
    by None first later none = with_head generators e es first k (later none k)
    by (Some r) first later none = cc

pub found :
    (generators : List Operator) (es : List (Mono × Polynomial)) (h : Reducible) → IsCanonical monomials polys.group es →
    first_reducible generators es ≡ Some h → Found generators es h
found generators [] h canonical is = cc
found generators (e ∷ es) h canonical is =
    by (first_reducer e.0 generators) refl (found generators es h canonical.2) is
  where
    by :
        (o : Option Reducer) → first_reducer e.0 generators ≡ o →
        (first_reducible generators es ≡ Some h → Found generators es h) →
        or_later (reducible_by e o) (first_reducible generators es) ≡ Some h → Found generators (e ∷ es) h
    by None none later is =
        let w = later is in
        let low : mono_cmp h.mono e.0 ≡ Less = w.below e.0 canonical.1 in record {
          coef_is = skipped e es h.mono Greater (mono_turned h.mono e.0 low) (λ z. cc) ∙ w.coef_is;
          nonzero = w.nonzero;
          reduces = w.reduces;
          above = λ k high. with_head generators e es none k (w.above k high);
          below = λ m low. w.below m low.1;
        }
    by (Some r) first later is =
        let same : ◌≡◌ {A = Reducible} (record { mono = e.0; coef = e.1; reducer = r }) h = cc in
        subst (Found generators (e ∷ es)) same (record {
          coef_is = at_head monomials polys.group e es canonical.1;
          nonzero = not_zero monomials polys.group e.1 canonical.0;
          reduces = first;
          above = λ k high.
              inl (at_below monomials polys.group k (e ∷ es) (
                subst (λ r. T (is_less r)) (sym high) tt,
                AllBelow_trans monomials polys.group e.0 k es high canonical.1,
              ));
          below = λ m low. less_is monomials polys.group _ low.0;
        })

irreducible :
    (generators : List Operator) (p : Operator) (k : Mono) → IsDone generators p.terms k →
    polynomial_at p k ≢ polys.zero → IsIrreducible generators k
unfolding at
irreducible generators p k (inl nothing) some = absurd (some nothing)
irreducible generators p k (inr none) some = none_reduces 0 k generators none

pub nothing_is_reduced :
    (generators : List Operator) (s : Reduction) → greatest_reducible generators s ≡ None → IsReduced generators s.rest
nothing_is_reduced generators s none m some =
    irreducible generators s.rest m (nothing_found generators s.rest.terms none m) some

pub greatest_is_greatest :
    (generators : List Operator) (s : Reduction) →
    MatchOption (greatest_reducible generators s) (IsReduced generators s.rest) (IsGreatestReducible generators s.rest)
greatest_is_greatest generators s = by (greatest_reducible generators s) refl
  where
    greatest :
        (h : Reducible) → Found generators s.rest.terms h → polynomial_at s.rest h.mono ≡ h.coef →
        IsGreatestReducible generators s.rest h
    greatest h w same = record {
      coef_is = same;
      coef_nonzero = w.nonzero;
      reduced_by = found_is_first h.mono generators h.reducer w.reduces;
      none_above = λ m high some. irreducible generators s.rest m (w.above m high) some;
    }

    by :
        (o : Option Reducible) → greatest_reducible generators s ≡ o →
        MatchOption o (IsReduced generators s.rest) (IsGreatestReducible generators s.rest)
    by None none = nothing_is_reduced generators s none
    by (Some h) is =
        let w = found generators s.rest.terms h s.rest.canonical is in
        greatest h w (unfold at in w.coef_is)
