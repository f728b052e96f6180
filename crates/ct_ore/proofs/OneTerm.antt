-- The terms and the measures of one term. Main lemmas `terms-term`, and `term_count-one` .. `order_of-one`.
use Rattle.ct_ore.proofs.Base.{◌≡◌, ◌≢◌, false, true, cond, max, ℤ, List, [], ◌∷◌, length, map, T, refl, sym, ap, ◌∙◌, arith, append-nil, none, Mono}
use Rattle.ct_ore.proofs.Base.{total, mono, unit, Polynomial, polys, terms-poly_of, count, norm, degree, term, int_is_zero, term_of, poly_of-single}
use Rattle.ct_ore.specs.CoefficientTerms.{row_of, all_terms, coefficient_terms}
use Rattle.ct_ore.specs.Measures.{term_count, term_norm, greatest, coefficient_degree, order_of}
use Rattle.ct_ore.specs.TermSums.{entries_count, entries_norm}
use Rattle.ct_ore.proofs.OperatorMeasures.{terms-term_of}

-- ---- polynomials of one term

pub terms-term : (n : Mono) (x : ℤ) → T (cond (int_is_zero x) false true) → (term n x).terms ≡ (n, x) ∷ []
terms-term n x some = ap (λ (p : Polynomial). p.terms) (sym (poly_of-single n x)) ∙ terms-poly_of ((n, x) ∷ []) (some, tt, tt)

pub some_term : (n : Mono) (x : ℤ) → T (cond (int_is_zero x) false true) → term n x ≢ polys.zero
unfolding none
some_term n x some absent =
    let one : (n, x) ∷ [] ≡ polys.zero.terms = sym (terms-term n x some) ∙ ap (λ (p : Polynomial). p.terms) absent in
    let counted : 1 ≡ 0 = ap (λ (es : List (Mono × ℤ)). length es) one in
    absurd (omega (arith, counted))

-- ---- the measures of one term

module _ (m : Mono) (c : Polynomial) (some : c ≢ polys.zero) where
  terms : (term_of m c).terms ≡ (m, c) ∷ []
  terms = terms-term_of m c some

  pub coefficient_terms-one : coefficient_terms (term_of m c) ≡ row_of m c.terms
  unfolding coefficient_terms
  coefficient_terms-one = ap all_terms terms ∙ append-nil (row_of m c.terms)

  pub term_count-one : term_count (term_of m c) ≡ count c
  unfolding term_count
  term_count-one = omega (arith, ap entries_count terms)

  pub term_norm-one : term_norm (term_of m c) ≡ norm c
  unfolding term_norm
  term_norm-one = omega (arith, ap entries_norm terms)

  pub coefficient_degree-one : coefficient_degree (term_of m c) ≡ degree c
  unfolding coefficient_degree
  coefficient_degree-one = let e : max (degree c) 0 ≡ degree c = omega arith in
      ap (λ (es : List (Mono × Polynomial)). greatest (map (λ (e : Mono × Polynomial). degree e.1) es)) terms ∙ e

  pub order_of-one : order_of (term_of m c) ≡ total m
  unfolding order_of
  order_of-one = let e : max (total m) 0 ≡ total m = omega arith in
      ap (λ (es : List (Mono × Polynomial)). greatest (map (λ (e : Mono × Polynomial). total e.0) es)) terms ∙ e

pub total_unit : total unit ≡ 0
unfolding total unit mono
total_unit = refl
