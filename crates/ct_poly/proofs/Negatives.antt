-- The list of negative terms is that of the negative: main lemma `negative_is`, which `negative_of_terms` cites.
-- Monomials stay, so the list falls as before, and the values at each monomial are negated.
use Rattle.ct_poly.proofs.Base.{◌≡◌, refl, suc, ℤ, pos, negsuc, zero, neg_ℤ, nat_abs, List, [], ◌∷◌, length, sym, ◌∙◌, ap, ap₂, subst, arith, true}
use Rattle.ct_poly.proofs.Base.{false, cond, T, Ordering, Less, Equal, Greater, sum_by-cons, ints, neg_sum, Mono, monomials, mono_cmp, int_group}
use Rattle.ct_poly.proofs.Base.{int_is_zero, AllBelow, value_at, pick, by_order, same_sum, at-sum_of, at-negated, polys, poly_of}
use Rattle.ct_poly.specs.declared.term.Term.{Term}
use Rattle.ct_poly.specs.Terms.{entries, size_of, IsFalling, IsListOf, poly_of_terms}
use Rattle.ct_poly.proofs.Termwise.{made_of}

abbrev pub negative : Term → List Term
negative t = record { mono = t.mono; coef = neg_ℤ t.coef } ∷ []

abbrev negatives : List Term → List Term
negatives ts = made_of negative ts

below-negatives : (m : Mono) (ts : List Term) → AllBelow monomials int_group m (entries ts) → AllBelow monomials int_group m (entries (negatives ts))
below-negatives m [] below = tt
below-negatives m (t ∷ ts) below = (below.0, below-negatives m ts below.1)

nonzero-neg : (c : ℤ) → T (cond (int_is_zero c) false true) → T (cond (int_is_zero (neg_ℤ c)) false true)
nonzero-neg (pos zero) h = h
nonzero-neg (pos (suc n)) h = tt
nonzero-neg (negsuc n) h = tt

falling-negatives : (ts : List Term) → IsFalling ts → IsFalling (negatives ts)
falling-negatives [] falling = tt
falling-negatives (t ∷ ts) falling = (nonzero-neg t.coef falling.0, below-negatives t.mono ts falling.1, falling-negatives ts falling.2)

size-negatives : (ts : List Term) → size_of (negatives ts) ≡ size_of ts
size-negatives [] = refl
size-negatives (t ∷ ts) =
    omega (
      arith,
      ints,
      size-negatives ts,
      sum_by-cons (λ u. nat_abs u.coef) t ts,
      sum_by-cons (λ u. nat_abs u.coef) (record { mono = t.mono; coef = neg_ℤ t.coef }) (negatives ts),
      abs-neg t.coef,
    )
  where
    abs-neg : (c : ℤ) → nat_abs (neg_ℤ c) ≡ nat_abs c
    abs-neg (pos zero) = refl
    abs-neg (pos (suc n)) = refl
    abs-neg (negsuc n) = refl

length-negatives : (ts : List Term) → length (negatives ts) ≡ length ts
length-negatives [] = refl
length-negatives (t ∷ ts) = ap (λ n. suc n) (length-negatives ts)

value-negatives : (ts : List Term) (k : Mono) →
    value_at monomials int_group (entries (negatives ts)) k ≡ neg_ℤ (value_at monomials int_group (entries ts) k)
value-negatives [] k = refl
value-negatives (t ∷ ts) k =
    ap₂ int_group.◌+◌ (picked (mono_cmp t.mono k) t.coef) (value-negatives ts k)
    ∙ sym (neg_sum int_group (pick monomials int_group k t.mono t.coef) (value_at monomials int_group (entries ts) k))
  where
    picked : (r : Ordering) (c : ℤ) → by_order r (pos 0) (neg_ℤ c) (pos 0) ≡ neg_ℤ (by_order r (pos 0) c (pos 0))
    picked Less c = refl
    picked Equal c = refl
    picked Greater c = refl

pub negative_is :
    (ts v : List Term) → IsFalling ts → v ≡ made_of negative ts →
    IsListOf (polys.neg (poly_of_terms ts)) (length ts) (size_of ts) v
unfolding poly_of_terms poly_of
negative_is ts v falling made = subst (IsListOf (polys.neg (poly_of_terms ts)) (length ts) (size_of ts)) (sym made) (record {
  falling = falling-negatives ts falling;
  value = same_sum monomials int_group _ _
      (λ k. at-sum_of monomials int_group (entries (negatives ts)) k ∙ value-negatives ts k
      ∙ sym (at-negated monomials int_group (poly_of_terms ts) k ∙ ap neg_ℤ (at-sum_of monomials int_group (entries ts) k)));
  few = omega (arith, length-negatives ts);
  small = omega (arith, size-negatives ts);
})
