-- A polynomial by its coefficients in some of the names. Main lemmas: `zero_of_coefficients` (where all are zero it is zero)
-- and `nonzero_in_terms` (a coefficient is nonzero only where some term has its monomial).
use Rattle.ct_telescoping.proofs.Base.{◌≡◌, ◌≢◌, List, ◌⊎◌, ℤ, [], ◌∷◌, map, Contains, sym, ◌∙◌, ap, subst, inl, inr, EachTerm, EachTerm-weaker}
use Rattle.ct_telescoping.proofs.Base.{at-none, same_sum, same_hom_at, Mono, monomials, int_group, Name, Polynomial, coefficient, polys, poly_set}
use Rattle.ct_telescoping.proofs.Base.{term, term_is, P, inside, outside, coefficient_in, cmp-other, same_or_other, coefficient_in_hom}
use Rattle.ct_telescoping.proofs.Base.{coefficient_in-term, term_in-same, coefficients_in_names}
use Rattle.ct_telescoping.proofs.ListParts.{contains_first, contains_later}

module _ (js : List Name) where
  -- the coefficient of a term, by its monomial
  pub term-same : (e m : Mono) (c : ℤ) → inside js m ≡ e → coefficient_in js e (term m c) ≡ term (outside js m) c
  term-same e m c same = coefficient_in-term js e m c ∙ term_in-same js e m c same

  pub term-other : (e m : Mono) (c : ℤ) → inside js m ≢ e → coefficient_in js e (term m c) ≡ polys.zero
  term-other e m c other = coefficient_in-term js e m c ∙ cmp-other (inside js m) e polys.zero (term (outside js m) c) other

  pub zero_of_coefficients : (p : Polynomial) → ((e : Mono) → coefficient_in js e p ≡ polys.zero) → p ≡ polys.zero
  zero_of_coefficients p none =
      same_sum monomials int_group p polys.zero
      (λ m. coefficients_in_names.all js m p ∙ ap (λ q. coefficient q (outside js m)) (none (inside js m))
      ∙ at-none monomials int_group (outside js m) ∙ sym (at-none monomials int_group m))

-- ---- where coefficients are zero

pub coefficient_in-none :
    (js : List Name) (e : Mono) (p : Polynomial) → EachTerm (λ m c. inside js m ≢ e) p.terms →
    coefficient_in js e p ≡ polys.zero
coefficient_in-none js e p none =
    same_hom_at monomials int_group poly_set P (coefficient_in js e) (λ x. polys.zero) (coefficient_in_hom js e)
    (record { sums = λ x y. sym (polys.add_zero polys.zero) }) p
    (EachTerm-weaker (λ m c other. subst (λ t. coefficient_in js e t ≡ polys.zero) (term_is m c) (term-other js e m c other)) p.terms none)

in_terms :
    (js : List Name) (e : Mono) (es : List (Mono × ℤ)) →
    Contains (map (λ t. inside js t.0) es) e ⊎ EachTerm (λ m c. inside js m ≢ e) es
in_terms js e [] = inr tt
in_terms js e (t ∷ ts) = by (same_or_other (inside js t.0) e) (in_terms js e ts)
  where
    by : Dec (inside js t.0 ≡ e) →
        Contains (map (λ t. inside js t.0) ts) e ⊎ EachTerm (λ m c. inside js m ≢ e) ts →
        Contains (map (λ t. inside js t.0) (t ∷ ts)) e ⊎ EachTerm (λ m c. inside js m ≢ e) (t ∷ ts)
    by (yes same) rest = inl (subst (Contains (map (λ t. inside js t.0) (t ∷ ts))) same
        (contains_first (inside js t.0) (map (λ t. inside js t.0) ts)))
    by (no other) (inl later) = inl (contains_later (inside js t.0) e (map (λ t. inside js t.0) ts) later)
    by (no other) (inr none) = inr (other, none)

pub nonzero_in_terms :
    (js : List Name) (e : Mono) (p : Polynomial) → coefficient_in js e p ≢ polys.zero →
    Contains (map (λ t. inside js t.0) p.terms) e
nonzero_in_terms js e p there = by (in_terms js e p.terms)
  where
    by : Contains (map (λ t. inside js t.0) p.terms) e ⊎ EachTerm (λ m c. inside js m ≢ e) p.terms →
        Contains (map (λ t. inside js t.0) p.terms) e
    by (inl found) = found
    by (inr none) = absurd (there (coefficient_in-none js e p none))
