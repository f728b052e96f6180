-- The leading term of a product is the product of the leading terms: main lemma `product_leads`.
-- Each further product of two terms has a lower monomial, since products keep the order; and the product of the leading
-- coefficients is not zero.
use Rattle.ct_poly.proofs.Base.{◌≡◌, ℤ, pos, ◌+ℤ◌, ◌*ℤ◌, T, true, false, cond, List, [], ◌∷◌, Some, Less, sym, ◌∙◌, ap, ap₂, subst, leading, Leads}
use Rattle.ct_poly.proofs.Base.{at_below, at_head, not_zero, less_is, AllBelow_trans, Mono, monomials, mono_ordered, mono_cmp, ◌·◌, ·_comm}
use Rattle.ct_poly.proofs.Base.{Polynomial, polys, poly_of, plus, times, terms-poly_of, zero_mul, at, at-⊕, none, EachTerm-⊕, AllBelow, IsCanonical}
use Rattle.ct_poly.proofs.Base.{EachTerm, is_less, value_at, int_group, int_ring, int_domain, int_is_zero, plus_zero, row_of, poly_of-row}
use Rattle.ct_poly.proofs.Base.{row_canonical, times-append, sum_of-none}
use Rattle.ct_algebra.specs.Domain.{product_nonzero}
use Rattle.ct_algebra.proofs.LeadingTerms.{leads_of, leading-Leads}
use Rattle.ct_poly.proofs.TermLists.{rebuilt}

-- the order of products
pub up_left : (m x y : Mono) → mono_cmp x y ≡ Less → mono_cmp (m · x) (m · y) ≡ Less
up_left m x y less = ap₂ mono_cmp (·_comm m x) (·_comm m y) ∙ mono_ordered.shifted m x y ∙ less

pub up_right : (m x y : Mono) → mono_cmp x y ≡ Less → mono_cmp (x · m) (y · m) ≡ Less
up_right m x y less = mono_ordered.shifted m x y ∙ less

-- each monomial is below m
abbrev pub EachBelow : Mono → List (Mono × ℤ) → Type 0
EachBelow m es = EachTerm (λ k c. mono_cmp k m ≡ Less) es

pub each_below : (m : Mono) (es : List (Mono × ℤ)) → AllBelow monomials int_group m es → EachBelow m es
each_below m [] below = tt
each_below m (e ∷ es) below = (less_is monomials int_group _ below.0, each_below m es below.1)

pub all_below : (m : Mono) (es : List (Mono × ℤ)) → EachBelow m es → AllBelow monomials int_group m es
all_below m [] each = tt
all_below m (e ∷ es) each = (subst (λ r. T (is_less r)) (sym each.0) tt, all_below m es each.1)

-- a term times lower terms
pub row_below :
    (e : Mono × ℤ) (n : Mono) (fs : List (Mono × ℤ)) → AllBelow monomials int_group n fs → EachBelow (e.0 · n) (row_of e fs)
row_below e n [] below = tt
row_below e n (f ∷ fs) below = (up_left e.0 f.0 n (less_is monomials int_group _ below.0), row_below e n fs below.1)

-- a lower term times a list
row_lower :
    (e b : Mono × ℤ) (m : Mono) (bs : List (Mono × ℤ)) → mono_cmp e.0 m ≡ Less → AllBelow monomials int_group b.0 bs →
    EachBelow (m · b.0) (row_of e (b ∷ bs))
row_lower e b m bs less below = (up_right b.0 e.0 m less, rest bs below)
  where
    rest : (bs : List (Mono × ℤ)) → AllBelow monomials int_group b.0 bs → EachBelow (m · b.0) (row_of e bs)
    rest [] below = tt
    rest (d ∷ bs) below =
        (monomials.trans _ (e.0 · b.0) _ (up_left e.0 d.0 b.0 (less_is monomials int_group _ below.0)) (up_right b.0 e.0 m less), rest bs below.1)

module _ (f : Polynomial) (b : Mono × ℤ) (bs : List (Mono × ℤ)) (f_is : f.terms ≡ b ∷ bs) where
  canonical : IsCanonical monomials int_group (b ∷ bs)
  canonical = subst (IsCanonical monomials int_group) f_is f.canonical

  f_of : poly_of (b ∷ bs) ≡ f
  f_of = ap poly_of (sym f_is) ∙ rebuilt f

  row_terms : (e : Mono × ℤ) → T (cond (int_is_zero e.1) false true) → (times (poly_of (e ∷ [])) f).terms ≡ row_of e (b ∷ bs)
  row_terms e some =
      ap (λ p. p.terms) (ap (times (poly_of (e ∷ []))) (sym f_of) ∙ sym (poly_of-row e (b ∷ bs)))
      ∙ terms-poly_of _ (row_canonical e (b ∷ bs) some canonical)

  -- lower terms times f
  lower_times :
      (m : Mono) (es : List (Mono × ℤ)) → IsCanonical monomials int_group es → AllBelow monomials int_group m es →
      EachBelow (m · b.0) (times (poly_of es) f).terms
  unfolding times plus none poly_of
  lower_times m [] nothing below =
      let zero : poly_of [] ≡ polys.zero = sum_of-none monomials int_group in
      subst (λ p. EachBelow (m · b.0) p.terms) (sym (ap (λ w. times w f) zero ∙ zero_mul polys f)) tt
  lower_times m (e ∷ es) falling below =
      subst (λ p. EachBelow (m · b.0) p.terms) (sym (times-append (e ∷ []) es f))
      (EachTerm-⊕ monomials int_group (λ k. mono_cmp k (m · b.0) ≡ Less) (times (poly_of (e ∷ [])) f) (times (poly_of es) f)
      (subst (EachBelow (m · b.0)) (sym (row_terms e falling.0)) (row_lower e b m bs (less_is monomials int_group _ below.0) canonical.1))
      (lower_times m es falling.2 below.1))

  pub product_leads :
      (g : Polynomial) (a : Mono × ℤ) (more : List (Mono × ℤ)) → g.terms ≡ a ∷ more →
      leading (times g f).terms ≡ Some (a.0 · b.0, a.1 *ℤ b.1)
  unfolding plus at
  product_leads g a more g_is =
      ap (λ p. leading p.terms) whole ∙ leading-Leads monomials int_group (plus A B) top _ leads ∙ ap (λ c. Some (top, c)) value
    where
      falling : IsCanonical monomials int_group (a ∷ more)
      falling = subst (IsCanonical monomials int_group) g_is g.canonical

      top : Mono
      top = a.0 · b.0

      A : Polynomial
      A = times (poly_of (a ∷ [])) f

      B : Polynomial
      B = times (poly_of more) f

      whole : times g f ≡ plus A B
      whole = ap (λ p. times p f) (sym (rebuilt g) ∙ ap poly_of g_is) ∙ times-append (a ∷ []) more f

      first : A.terms ≡ row_of a (b ∷ bs)
      first = row_terms a falling.0

      first_canonical : IsCanonical monomials int_group (row_of a (b ∷ bs))
      first_canonical = row_canonical a (b ∷ bs) falling.0 canonical

      rest : AllBelow monomials int_group top B.terms
      rest = all_below top B.terms (lower_times a.0 more falling.2 falling.1)

      value : at monomials int_group (plus A B) top ≡ a.1 *ℤ b.1
      value =
          at-⊕ monomials int_group A B top
          ∙ ap₂ ◌+ℤ◌ (ap (λ es. value_at monomials int_group es top) first
          ∙ at_head monomials int_group (top, a.1 *ℤ b.1) (row_of a bs) first_canonical.1) (at_below monomials int_group top B.terms rest)
          ∙ plus_zero (a.1 *ℤ b.1)

      above : (k : Mono) → mono_cmp top k ≡ Less → at monomials int_group (plus A B) k ≡ pos 0
      above k less =
          at-⊕ monomials int_group A B k
          ∙ ap₂ ◌+ℤ◌ (at_below monomials int_group k A.terms (subst (AllBelow monomials int_group k) (sym first)
          (subst (λ r. T (is_less r)) (sym less) tt, AllBelow_trans monomials int_group top k _ less first_canonical.1)))
          (at_below monomials int_group k B.terms (AllBelow_trans monomials int_group top k B.terms less rest))

      leads : Leads monomials int_group (plus A B) top (at monomials int_group (plus A B) top)
      leads =
          leads_of monomials int_group (plus A B) top
          (λ none. product_nonzero int_ring int_domain a.1 b.1 (not_zero monomials int_group a.1 falling.0)
          (not_zero monomials int_group b.1 canonical.0) (sym value ∙ none))
          above
