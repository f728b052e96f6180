-- The proofs of specs/TermLaws: main lemmas `terms_are_coefficients` and `freedom_is_of_coefficients`. The value of a
-- canonical list at a monomial is that of the one term with the monomial (`each_value`), and a value that is not zero is
-- that of a term (`at_each`).
use Rattle.std.specs.Prelude.{◌≡◌, ◌≢◌, ◌↔◌, zero, suc, Bool, true, false, cond, T, List, [], ◌∷◌}
use Rattle.std.specs.List.{Contains}
use Rattle.std.proofs.Common.{sym, ◌∙◌, ap, subst, refl, arith, Ordering, Less, Equal, Greater}
use Rattle.ct_algebra.specs.Group.{Group, zero_add}
use Rattle.ct_algebra.specs.Terms.{Keys, by_order, is_less, EachTerm, EachTerm-weaker, AllBelow, IsCanonical, value_at}
use Rattle.ct_algebra.specs.Laws.Terms.{less_is, at_head, not_zero, AllBelow_trans, same_list}
use Rattle.ct_algebra.specs.Sums.{Sum, at}
use Rattle.ct_algebra.specs.Monomial.{Mono, monomials}
use Rattle.ct_algebra.specs.WholeNumbers.{int_group}
use Rattle.ct_algebra.specs.Names.{Name}
use Rattle.ct_algebra.specs.Polynomial.{polys}
use Rattle.ct_algebra.specs.FreeOf.{IsWithout, EachName, IsFreeOfAll}
use Rattle.ct_algebra.specs.Actions.{Still}
use Rattle.ct_algebra.specs.TermLaws.{AreFalling, AreTermsOf, TermsAreTheCoefficients, FreedomIsOfCoefficients}

module _ {M A : Type 0} (O : Keys M) (G : Group A) where
  -- a term above a key adds nothing to its value
  value_past :
      (e : M × A) (es : List (M × A)) (m : M) (r : Ordering) → r ≢ Equal → O.cmp e.0 m ≡ r →
      value_at O G (e ∷ es) m ≡ value_at O G es m
  value_past e es m Less other is = ap (λ r. G.◌+◌ (by_order r G.zero e.1 G.zero) (value_at O G es m)) is ∙ zero_add G _
  value_past e es m Equal other is = absurd (other refl)
  value_past e es m Greater other is = ap (λ r. G.◌+◌ (by_order r G.zero e.1 G.zero) (value_at O G es m)) is ∙ zero_add G _

  abbrev HasValue : List (M × A) → M → A → Type 0
  HasValue es m c = (value_at O G es m ≡ c) × (c ≢ G.zero)

  each_value : (es : List (M × A)) → IsCanonical O G es → EachTerm (HasValue es) es
  each_value [] canonical = tt
  each_value (e ∷ es) canonical =
      ((at_head O G e es canonical.1, not_zero O G e.1 canonical.0), below es canonical.1 (each_value es canonical.2))
    where
      below : (fs : List (M × A)) → AllBelow O G e.0 fs → EachTerm (HasValue es) fs → EachTerm (HasValue (e ∷ es)) fs
      below [] less has = tt
      below (f ∷ fs) less has =
          ((value_past e es f.0 Greater (λ never. cc) (O.turned f.0 e.0 (less_is O G _ less.0)) ∙ has.0.0, has.0.1), below fs less.1 has.1)

  -- what holds of each term holds of each value that is not zero
  at_each :
      (P : M → A → Type 0) (es : List (M × A)) → IsCanonical O G es → EachTerm P es →
      (m : M) → value_at O G es m ≢ G.zero → P m (value_at O G es m)
  at_each P [] canonical each m there = absurd (there refl)
  at_each P (e ∷ es) canonical each m there = by (O.cmp e.0 m) refl (at_each P es canonical.2 each.1 m)
    where
      past :
          (r : Ordering) → r ≢ Equal → O.cmp e.0 m ≡ r → (value_at O G es m ≢ G.zero → P m (value_at O G es m)) →
          P m (value_at O G (e ∷ es) m)
      past r other is later =
          let same = value_past e es m r other is in
          subst (P m) (sym same) (later (λ none. there (same ∙ none)))

      by :
          (r : Ordering) → O.cmp e.0 m ≡ r → (value_at O G es m ≢ G.zero → P m (value_at O G es m)) →
          P m (value_at O G (e ∷ es) m)
      by Less is later = past Less (λ never. cc) is later
      by Equal is later =
          subst (λ k. P k (value_at O G (e ∷ es) k)) (O.tied e.0 m is) (subst (P e.0) (sym (at_head O G e es canonical.1)) each.0)
      by Greater is later = past Greater (λ never. cc) is later

  each_inside : (es : List (M × A)) → EachTerm (λ m c. Contains es (m, c)) es
  each_inside [] = tt
  each_inside (e ∷ es) =
      ((0, omega arith, refl), EachTerm-weaker (λ m c there. (suc there.0, omega (arith, there.1), there.2)) es (each_inside es))

  module _ (p : Sum O G) where
    pub each_at : EachTerm (λ m c. (at O G p m ≡ c) × (c ≢ G.zero)) p.terms
    unfolding at
    each_at = each_value p.terms p.canonical

    stands : (m : M) → at O G p m ≢ G.zero → Contains p.terms (m, at O G p m)
    unfolding at
    stands = at_each (λ m c. Contains p.terms (m, c)) p.terms p.canonical (each_inside p.terms)

    -- a fact about each term is one about each value that is not zero
    pub by_values : (P : M → A → Type 0) → EachTerm P p.terms ↔ ((m : M) → at O G p m ≢ G.zero → P m (at O G p m))
    unfolding at
    by_values P = (
      at_each P p.terms p.canonical,
      λ holds. EachTerm-weaker (λ m c has. subst (P m) has.0 (holds m (λ none. has.1 (sym has.0 ∙ none)))) p.terms each_at,
    )

falls : {A : Type 0} (G : Group A) (es : List (Mono × A)) → IsCanonical monomials G es → AreFalling es
falls G [] canonical = tt
falls G (e ∷ []) canonical = tt
falls G (e ∷ f ∷ es) canonical = (less_is monomials G _ canonical.1.0, falls G (f ∷ es) canonical.2)

terms_of : {A : Type 0} (G : Group A) (p : Sum monomials G) → AreTermsOf G.zero p.terms (at monomials G p)
terms_of G p = record { falling = falls G p.terms p.canonical; each = each_at monomials G p; no_others = stands monomials G p }

-- ---- no other list

module _ {A : Type 0} (G : Group A) where
  not_none : (c : A) → c ≢ G.zero → T (cond (G.is_zero c) false true)
  not_none c some = by (G.is_zero c) refl
    where
      by : (b : Bool) → G.is_zero c ≡ b → T (cond (G.is_zero c) false true)
      by true none = absurd (some (G.true_zero c none))
      by false there = subst (λ b. T (cond b false true)) (sym there) tt

  canonical_of : (es : List (Mono × A)) → AreFalling es → EachTerm (λ m c. c ≢ G.zero) es → IsCanonical monomials G es
  canonical_of [] falling some = tt
  canonical_of (e ∷ []) falling some = (not_none e.1 some.0, tt, tt)
  canonical_of (e ∷ f ∷ es) falling some =
      let later = canonical_of (f ∷ es) falling.1 some.1 in
      let less = subst (λ r. T (is_less r)) (sym falling.0) tt in
      (not_none e.1 some.0, (less, AllBelow_trans monomials G f.0 e.0 es falling.0 later.1), later)

  at_contained : (P : Mono → A → Type 0) (es : List (Mono × A)) (e : Mono × A) → EachTerm P es → Contains es e → P e.0 e.1
  at_contained P [] e each there = absurd (omega (arith, there.1))
  at_contained P (f ∷ es) e each (zero, within, is) = subst (λ g. P g.0 g.1) is each.0
  at_contained P (f ∷ es) e each (suc k, within, is) = at_contained P es e each.1 (k, omega (arith, within), is)

  only : (p : Sum monomials G) (es : List (Mono × A)) → AreTermsOf G.zero es (at monomials G p) → es ≡ p.terms
  unfolding at
  only p es are = same_list monomials G es p.terms canonical p.canonical same
    where
      canonical : IsCanonical monomials G es
      canonical = canonical_of es are.falling (EachTerm-weaker (λ m c has. has.1) es are.each)

      same : (m : Mono) → value_at monomials G es m ≡ value_at monomials G p.terms m
      same m = by (G.is_zero (at monomials G p m)) refl
        where
          of_es : value_at monomials G es m ≢ G.zero → at monomials G p m ≡ value_at monomials G es m
          of_es = at_each monomials G (λ k c. at monomials G p k ≡ c) es canonical (EachTerm-weaker (λ k c has. has.0) es are.each) m

          none : (b : Bool) → G.is_zero (value_at monomials G es m) ≡ b → at monomials G p m ≡ G.zero →
              value_at monomials G es m ≡ value_at monomials G p.terms m
          none true gone is = G.true_zero _ gone ∙ sym is
          none false there is = sym (of_es (λ gone. let e = ap G.is_zero gone ∙ G.zero_true in cc))

          by : (b : Bool) → G.is_zero (at monomials G p m) ≡ b → value_at monomials G es m ≡ value_at monomials G p.terms m
          by true gone = none (G.is_zero (value_at monomials G es m)) refl (G.true_zero _ gone)
          by false there =
              let listed = are.no_others m (λ gone. let e = ap G.is_zero gone ∙ G.zero_true in cc) in
              (at_contained (λ k c. value_at monomials G es k ≡ c × (c ≢ G.zero)) es (m, at monomials G p m)
              (each_value monomials G es canonical) listed).0

pub terms_are_coefficients : TermsAreTheCoefficients
terms_are_coefficients = record {
  of_polynomials = terms_of int_group;
  of_operators = terms_of polys.group;
  only_of_polynomials = only int_group;
  only_of_operators = only polys.group;
}

pub freedom_is_of_coefficients : FreedomIsOfCoefficients
freedom_is_of_coefficients = record {
  of_polynomials = λ j p. by_values monomials int_group p (λ m c. IsWithout j m);
  of_operators = λ js p. by_values monomials polys.group p (λ m c. EachName (λ j. IsWithout j m) js × IsFreeOfAll js c);
  over_actions = λ a p. by_values monomials polys.group p (λ m c. (i : Name) → a i ≡ Still → IsWithout i m);
}
