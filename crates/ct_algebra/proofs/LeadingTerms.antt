-- The leading term of a sum by its values, and of a product of symbols before an operator.
-- Main lemma `product_leads`: where m leads p, the product of t and m leads t before p. Cited by ShiftedLeading.
-- A symbol moves each key up by itself and keeps their order; what δ leaves stands lower. So the values above the moved
-- key stay zero, and at it stands σ of the leading value, which is nonzero.
use Rattle.std.specs.Prelude.{◌≡◌, List, [], ◌∷◌, ◌⊎◌, refl, T, Some}
use Rattle.std.proofs.Common.{sym, ◌∙◌, ap, ap₂, subst, inl, inr, Ordering, Less, Equal, Greater}
use Rattle.ct_algebra.specs.Group.{Group, IsHom, comp_hom}
use Rattle.ct_algebra.specs.Ring.{Ring}
use Rattle.ct_algebra.specs.Terms.{Keys, by_order, is_less, pick, value_at, AllBelow, IsCanonical, EachTerm, EachTerm-weaker}
use Rattle.ct_algebra.specs.Laws.Terms.{at_below, at_head, not_zero, less_is, AllBelow_trans}
use Rattle.ct_algebra.specs.Sums.{Sum, at, single, sums_group, same_hom_at, at-⊕, at-single}
use Rattle.ct_algebra.specs.Products.{Monoid, IsOrdered}
use Rattle.ct_algebra.specs.Ore.{Ore, Symbols, σ_zero}
use Rattle.ct_algebra.specs.Leading.{leading, Leads}
use Rattle.ct_algebra.specs.OreAlgebra.{one_term, op_D, op_D_hom, op_D-one_term, D_D_is, ◌∘◌, op_module, act-one_term, scale_one_is}

module _ {M A : Type 0} (O : Keys M) (G : Group A) where
  -- where the value at m is nonzero and those above are zero, m leads
  pub leads_of :
      (p : Sum O G) (m : M) → (at O G p m ≡ G.zero → ⊥) →
      ((k : M) → O.cmp m k ≡ Less → at O G p k ≡ G.zero) → Leads O G p m (at O G p m)
  unfolding at
  leads_of p m nonzero above = by p.terms p.canonical refl
    where
      head :
          (d : M × A) (ds : List (M × A)) → IsCanonical O G (d ∷ ds) → p.terms ≡ d ∷ ds →
          (r : Ordering) → O.cmp d.0 m ≡ r → Leads O G p m (value_at O G p.terms m)
      head d ds canonical same Less order =
          absurd (nonzero (ap (λ es. value_at O G es m) same ∙ at_below O G m (d ∷ ds)
          (subst (λ r. T (is_less r)) (sym order) tt, AllBelow_trans O G d.0 m ds order canonical.1)))
      head d ds canonical same Equal order =
          let key : d.0 ≡ m = O.tied d.0 m order in
          let value : d.1 ≡ value_at O G p.terms m =
          sym (at_head O G d ds canonical.1) ∙ ap (value_at O G (d ∷ ds)) key ∙ ap (λ es. value_at O G es m) (sym same) in
          record { rest = ds; is_first = same ∙ ap₂ (λ k c. (k, c) ∷ ds) key value }
      head d ds canonical same Greater order =
          absurd (not_zero O G d.1 canonical.0
          (sym (at_head O G d ds canonical.1) ∙ ap (λ es. value_at O G es d.0) (sym same) ∙ above d.0 (O.turned_back d.0 m order)))

      by : (es : List (M × A)) → IsCanonical O G es → p.terms ≡ es → Leads O G p m (value_at O G p.terms m)
      by [] canonical same = absurd (nonzero (ap (λ es. value_at O G es m) same))
      by (d ∷ ds) canonical same = head d ds canonical same (O.cmp d.0 m) refl

  -- the same by the first of the terms
  pub leading-Leads : (p : Sum O G) (m : M) (c : A) → Leads O G p m c → leading p.terms ≡ Some (m, c)
  leading-Leads p m c leads = ap leading leads.is_first

  pub Leads-leading : (p : Sum O G) (m : M) (c : A) → leading p.terms ≡ Some (m, c) → Leads O G p m c
  Leads-leading p m c first = by p.terms refl first
    where
      by : (es : List (M × A)) → p.terms ≡ es → leading es ≡ Some (m, c) → Leads O G p m c
      by [] same first = cc
      by (e ∷ es) same first = record { rest = es; is_first = same ∙ ap (λ d. d ∷ es) (cc first) }

module _ {M A I : Type 0} (O : Keys M) (N : Monoid M) (R : Ring A) (E : Ore I R) (Y : Symbols I N) (s : IsSet (Sum O R.group)) where
  abbrev Op : Type 0
  Op = Sum O R.group

  abbrev G : Group Op
  G = sums_group O R.group s

  -- symbols are no units, and σ keeps nonzero values
  module _
      (ordered : IsOrdered O N)
      (grows : (i : I) (m : M) → O.cmp m (N.◌·◌ (Y.symbol i) m) ≡ Less)
      (keeps : (i : I) (c : A) → (c ≡ R.zero → ⊥) → E.σ i c ≡ R.zero → ⊥) where
    abbrev up : I → M → M
    up i m = N.◌·◌ (Y.symbol i) m

    up_cmp : (i : I) (m n : M) → O.cmp (up i m) (up i n) ≡ O.cmp m n
    up_cmp i m n = ap₂ O.cmp (N.comm _ m) (N.comm _ n) ∙ ordered.shifted (Y.symbol i) m n

    -- a key at or below m
    abbrev NotAbove : M → M → Type 0
    NotAbove m n = (O.cmp n m ≡ Less) ⊎ (n ≡ m)

    below : (m n k : M) → NotAbove m n → O.cmp m k ≡ Less → O.cmp n k ≡ Less
    below m n k (inl less) high = O.trans n m k less high
    below m n k (inr same) high = ap (λ x. O.cmp x k) same ∙ high

    up_below : (i : I) (m n k : M) → NotAbove m n → O.cmp (up i m) k ≡ Less → O.cmp (up i n) k ≡ Less
    up_below i m n k (inl less) high = O.trans _ (up i m) k (up_cmp i n m ∙ less) high
    up_below i m n k (inr same) high = ap (λ x. O.cmp (up i x) k) same ∙ high

    missed : (k n : M) (c : A) → O.cmp n k ≡ Less → pick O R.group k n c ≡ R.zero
    missed k n c less = ap (λ r. by_order r R.zero c R.zero) less

    not_above : (p : Op) (m : M) (c : A) → Leads O R.group p m c → EachTerm (λ n d. NotAbove m n) p.terms
    not_above p m c leads =
        subst (EachTerm (λ n d. NotAbove m n)) (sym leads.is_first)
        (inr refl, all leads.rest (subst (IsCanonical O R.group) leads.is_first p.canonical).1)
      where
        all : (es : List (M × A)) → AllBelow O R.group m es → EachTerm (λ n d. NotAbove m n) es
        all [] low = tt
        all (e ∷ es) low = (inl (less_is O R.group _ low.0), all es low.1)

    at_hom : (k : M) → IsHom G R.group (λ p. at O R.group p k)
    at_hom k = record { sums = λ p q. at-⊕ O R.group p q k }

    zero_hom : IsHom G R.group (λ p. R.zero)
    zero_hom = record { sums = λ p q. sym (R.add_zero R.zero) }

    σ_hom : (i : I) → IsHom R.group R.group (E.σ i)
    σ_hom i = record { sums = E.σ_add i }

    abbrev pub before : I → Op → Op
    before i p = op_D O N R E Y s i p

    at_before :
        (i : I) (k n : M) (c : A) →
        at O R.group (before i (single O R.group n c)) k ≡
        R.◌+◌ (pick O R.group k (up i n) (E.σ i c)) (pick O R.group k n (E.δ i c))
    unfolding one_term
    at_before i k n c =
        ap (λ p. at O R.group p k) (op_D-one_term O N R E Y s i n c) ∙ at-⊕ O R.group _ _ k
        ∙ ap₂ R.◌+◌ (at-single O R.group _ k _) (at-single O R.group n k _)

    -- a symbol before p
    pub symbol_leads :
        (i : I) (p : Op) (m : M) (c : A) → Leads O R.group p m c →
        (d : A) × Leads O R.group (before i p) (up i m) d
    unfolding at
    symbol_leads i p m c leads = (_, leads_of O R.group (before i p) (up i m) nonzero above)
      where
        low : EachTerm (λ n d. NotAbove m n) p.terms
        low = not_above p m c leads

        above : (k : M) → O.cmp (up i m) k ≡ Less → at O R.group (before i p) k ≡ R.zero
        above k high =
            same_hom_at O R.group s R.group _ _ (comp_hom _ _ (at_hom k) (op_D_hom O N R E Y s i)) zero_hom p
            (EachTerm-weaker (λ n d w. at_before i k n d
            ∙ ap₂ R.◌+◌ (missed k (up i n) _ (up_below i m n k w high)) (missed k n _ (below m n k w (O.trans m _ k (grows i m) high)))
            ∙ R.add_zero R.zero) p.terms low)

        moved :
            (n : M) (d : A) (r : Ordering) → O.cmp (up i n) (up i m) ≡ r →
            by_order (O.cmp (up i n) (up i m)) R.zero (E.σ i d) R.zero ≡ E.σ i (by_order r R.zero d R.zero)
        moved n d Less order = ap (λ r. by_order r R.zero (E.σ i d) R.zero) order ∙ sym (σ_zero E i)
        moved n d Equal order = ap (λ r. by_order r R.zero (E.σ i d) R.zero) order
        moved n d Greater order = ap (λ r. by_order r R.zero (E.σ i d) R.zero) order ∙ sym (σ_zero E i)

        at_term :
            (n : M) (d : A) → NotAbove m n →
            at O R.group (before i (single O R.group n d)) (up i m) ≡ E.σ i (at O R.group (single O R.group n d) m)
        at_term n d w =
            at_before i (up i m) n d
            ∙ ap (R.◌+◌ (pick O R.group (up i m) (up i n) (E.σ i d))) (missed (up i m) n _ (below m n (up i m) w (grows i m)))
            ∙ R.add_zero _ ∙ moved n d (O.cmp n m) (up_cmp i n m) ∙ ap (E.σ i) (sym (at-single O R.group n m d))

        value : at O R.group (before i p) (up i m) ≡ E.σ i (at O R.group p m)
        value =
            same_hom_at O R.group s R.group _ _ (comp_hom _ _ (at_hom (up i m)) (op_D_hom O N R E Y s i)) (comp_hom _ _ (σ_hom i) (at_hom m)) p
            (EachTerm-weaker at_term p.terms low)

        there : at O R.group p m ≡ R.zero → ⊥
        there none =
            let canonical = subst (IsCanonical O R.group) leads.is_first p.canonical in
            not_zero O R.group c canonical.0
            (sym (at_head O R.group (m, c) leads.rest canonical.1) ∙ ap (λ es. value_at O R.group es m) (sym leads.is_first) ∙ none)

        nonzero : at O R.group (before i p) (up i m) ≡ R.zero → ⊥
        nonzero none = keeps i _ there (sym value ∙ none)

    -- a product of symbols before p
    pub power_leads :
        (t : M) (p : Op) (m : M) (c : A) → Leads O R.group p m c →
        (d : A) × Leads O R.group (Y.power before t p) (N.◌·◌ t m) d
    power_leads t p m c leads =
        Y.by_symbols (λ t. (d : A) × Leads O R.group (Y.power before t p) (N.◌·◌ t m) d) (
          c,
          subst (λ q. Leads O R.group q (N.◌·◌ N.unit m) c) (sym (Y.power_unit before p))
              (subst (λ k. Leads O R.group p k c) (sym (N.comm N.unit m ∙ N.unit_law m)) leads),
        )
        (λ i t w. let q = symbol_leads i (Y.power before t p) (N.◌·◌ t m) w.0 w.1 in (
          q.0,
          subst (λ v. Leads O R.group v (N.◌·◌ (up i t) m) q.0) (sym (Y.power_symbol before (D_D_is O N R E Y s) i t p))
              (subst (λ k. Leads O R.group (before i (Y.power before t p)) k q.0) (sym (N.assoc (Y.symbol i) t m)) q.1),
        )) t

    -- one times a product of symbols, times p
    pub product_leads :
        (t : M) (p : Op) (m : M) (c : A) → Leads O R.group p m c →
        (d : A) × Leads O R.group (◌∘◌ O N R E Y s (one_term O N R E Y s t R.one) p) (N.◌·◌ t m) d
    unfolding ◌∘◌
    product_leads t p m c leads =
        let q = power_leads t p m c leads in (
          q.0,
          subst (λ v. Leads O R.group v (N.◌·◌ t m) q.0)
              (sym (act-one_term O N R E Y s (op_module O N R E Y s) t R.one p ∙ scale_one_is O N R E Y s _)) q.1,
        )
