-- The proofs of specs/PolynomialLaws. Each is a law of finite sums or of the ring, read at polynomials; the degree is the
-- total of the first term, and a monomial with a greater total is above all terms.
use Rattle.std.specs.Prelude.{◌≡◌, ◌≢◌, refl, ◌<◌, ◌≤◌, ℤ, pos, T, List, [], ◌∷◌, ◌⊎◌}
use Rattle.std.proofs.Common.{sym, ◌∙◌, ap, subst, arith, inl, inr}
use Rattle.std.proofs.lemmas.Bool.{cases_lt}
use Rattle.ct_algebra.specs.Terms.{by_order, is_less, AllBelow, IsCanonical, EachTerm, value_at}
use Rattle.ct_algebra.specs.Laws.Terms.{at_below, at_head, not_zero}
use Rattle.ct_algebra.specs.Sums.{at, none, same_sum, same_terms, at-⊕, at-none, at-negated, at-single}
use Rattle.ct_algebra.specs.Monomial.{Mono, monomials, mono_cmp, total, less_of_total}
use Rattle.ct_algebra.specs.WholeNumbers.{int_group}
use Rattle.ct_algebra.specs.Polynomial.{Polynomial, coefficient, polys, polys_domain, poly_of, plus, times, degree, degree_of, degree_greatest}
use Rattle.ct_algebra.specs.Polynomial.{times_is, terms-poly_of}
use Rattle.ct_algebra.specs.Substitution.{term, term_is, term-*}
use Rattle.ct_algebra.specs.PolynomialLaws.{PolynomialsAreARing, PolynomialsAreFiniteMaps, PolynomialsAreSumsOfTerms, ProductOfTermsIsATerm}
use Rattle.ct_algebra.specs.PolynomialLaws.{PolynomialsHaveNoZeroDivisors, DegreeIsTheGreatestTotal}
use Rattle.ct_algebra.proofs.MonomialLists.{cmp-other}
use Rattle.ct_algebra.proofs.TermProducts.{sum_of-append, sum_of-one, sum_of-none}

pub ring : PolynomialsAreARing
unfolding plus times
ring = record {
  plus_is_associative = polys.add_assoc;
  plus_is_commutative = polys.add_comm;
  plus_zero = polys.add_zero;
  plus_negative = polys.add_neg;
  times_is_associative = polys.mul_assoc;
  times_is_commutative = polys.mul_comm;
  times_one = polys.mul_one;
  times_distributes = polys.mul_add;
}

coefficient-term :
    (m n : Mono) (c : ℤ) → coefficient (term m c) n ≡ by_order (mono_cmp m n) (pos 0) c (pos 0)
coefficient-term m n c = ap (λ p. coefficient p n) (term_is m c) ∙ at-single monomials int_group m n c

pub finite_maps : PolynomialsAreFiniteMaps
unfolding plus
finite_maps = record {
  same = same_sum monomials int_group;
  of_zero = at-none monomials int_group;
  of_a_term = λ m c. coefficient-term m m c ∙ ap (λ r. by_order r (pos 0) c (pos 0)) (monomials.same m);
  of_another_term = λ m n c other. coefficient-term m n c ∙ cmp-other m n (pos 0) c other;
  of_a_sum = at-⊕ monomials int_group;
  of_a_negative = at-negated monomials int_group;
}

pub sums_of_terms : PolynomialsAreSumsOfTerms
unfolding poly_of plus
sums_of_terms = record {
  of_none = sum_of-none monomials int_group;
  of_more = λ e es.
      sum_of-append monomials int_group (e ∷ []) es
      ∙ ap (λ p. plus p (poly_of es)) (sum_of-one monomials int_group e ∙ sym (term_is e.0 e.1));
  of_its_own = λ p. same_terms monomials int_group _ _ (terms-poly_of p.terms p.canonical);
}

pub product_of_terms : ProductOfTermsIsATerm
product_of_terms m n c d = times_is _ _ ∙ term-* m n c d

pub no_divisors : PolynomialsHaveNoZeroDivisors
no_divisors p q none = polys_domain.no_divisors p q (sym (times_is p q) ∙ none)

-- ---- the degree

-- above all totals there is no term
above_degree : (p : Polynomial) (m : Mono) → degree p < total m → coefficient p m ≡ pos 0
unfolding at
above_degree p m high = at_below monomials int_group m p.terms (below p.terms (degree_greatest p))
  where
    below : (es : List (Mono × ℤ)) → EachTerm (λ k c. total k ≤ degree p) es → AllBelow monomials int_group m es
    below [] low = tt
    below (e ∷ es) low = (subst (λ r. T (is_less r)) (sym (less_of_total e.0 m (omega arith))) tt, below es low.1)

degree_reached : (p : Polynomial) → p ≢ polys.zero → (m : Mono) × (coefficient p m ≢ pos 0) × (total m ≡ degree p)
unfolding at degree none
degree_reached p nonzero = by p.terms p.canonical refl
  where
    by :
        (es : List (Mono × ℤ)) → IsCanonical monomials int_group es → p.terms ≡ es →
        (m : Mono) × (value_at monomials int_group p.terms m ≢ pos 0) × (total m ≡ degree_of p.terms)
    by [] canonical same = absurd (nonzero (same_terms monomials int_group p polys.zero same))
    by (e ∷ es) canonical same = (
      e.0,
      λ none. not_zero monomials int_group e.1 canonical.0
          (sym (at_head monomials int_group e es canonical.1) ∙ ap (λ ds. value_at monomials int_group ds e.0) (sym same) ∙ none),
      ap degree_of (sym same),
    )

pub degrees : DegreeIsTheGreatestTotal
unfolding degree none
degrees = record {
  greatest = λ p m there. by p m there (cases_lt (degree p) (total m));
  attained = degree_reached;
  of_zero = refl;
}
  where
    by : (p : Polynomial) (m : Mono) → coefficient p m ≢ pos 0 → (degree p < total m) ⊎ (total m ≤ degree p) → total m ≤ degree p
    by p m there (inl high) = absurd (there (above_degree p m high))
    by p m there (inr low) = low
