-- What the laws of polynomials say; the functions of src/laws.rt prove them.
--     PolynomialsAreARing             the ring laws of plus and times
--     PolynomialsAreFiniteMaps        equal coefficients are equal polynomials; coefficients of terms, sums and negatives
--     PolynomialsAreSumsOfTerms       a polynomial is the sum of its terms
--     ProductOfTermsIsATerm           monomials and coefficients are multiplied
--     PolynomialsHaveNoZeroDivisors   a product is zero only where a factor is
--     DegreeIsTheGreatestTotal        of the monomials with a nonzero coefficient; 0 for zero
-- The second and third say what polynomials and sums are; with the ring laws, the fourth says all of the product
-- (`times_only` of Determined).
use Rattle.std.specs.Prelude.{◌≡◌, ◌≢◌, ◌≤◌, ℤ, pos, neg_ℤ, ◌+ℤ◌, ◌*ℤ◌, List, [], ◌∷◌, ◌⊎◌}
use Rattle.ct_algebra.specs.Monomial.{Mono, ◌·◌, total}
use Rattle.ct_algebra.specs.Polynomial.{Polynomial, coefficient, polys, poly_of, plus, times, degree}
use Rattle.ct_algebra.specs.Substitution.{term}

pub record PolynomialsAreARing : Type 0 where
  pub plus_is_associative : (p q r : Polynomial) → plus (plus p q) r ≡ plus p (plus q r)
  pub plus_is_commutative : (p q : Polynomial) → plus p q ≡ plus q p
  pub plus_zero : (p : Polynomial) → plus p polys.zero ≡ p
  pub plus_negative : (p : Polynomial) → plus p (polys.neg p) ≡ polys.zero
  pub times_is_associative : (p q r : Polynomial) → times (times p q) r ≡ times p (times q r)
  pub times_is_commutative : (p q : Polynomial) → times p q ≡ times q p
  pub times_one : (p : Polynomial) → times p polys.one ≡ p
  pub times_distributes : (p q r : Polynomial) → times p (plus q r) ≡ plus (times p q) (times p r)

pub record PolynomialsAreFiniteMaps : Type 0 where
  pub same : (p q : Polynomial) → ((m : Mono) → coefficient p m ≡ coefficient q m) → p ≡ q
  pub of_zero : (m : Mono) → coefficient polys.zero m ≡ pos 0
  pub of_a_term : (m : Mono) (c : ℤ) → coefficient (term m c) m ≡ c
  pub of_another_term : (m n : Mono) (c : ℤ) → m ≢ n → coefficient (term m c) n ≡ pos 0
  pub of_a_sum : (p q : Polynomial) (m : Mono) → coefficient (plus p q) m ≡ coefficient p m +ℤ coefficient q m
  pub of_a_negative : (p : Polynomial) (m : Mono) → coefficient (polys.neg p) m ≡ neg_ℤ (coefficient p m)

pub record PolynomialsAreSumsOfTerms : Type 0 where
  pub of_none : poly_of [] ≡ polys.zero
  pub of_more : (e : Mono × ℤ) (es : List (Mono × ℤ)) → poly_of (e ∷ es) ≡ plus (term e.0 e.1) (poly_of es)
  pub of_its_own : (p : Polynomial) → poly_of p.terms ≡ p

abbrev pub ProductOfTermsIsATerm : Type 0
ProductOfTermsIsATerm = (m n : Mono) (c d : ℤ) → times (term m c) (term n d) ≡ term (m · n) (c *ℤ d)

abbrev pub PolynomialsHaveNoZeroDivisors : Type 0
PolynomialsHaveNoZeroDivisors = (p q : Polynomial) → times p q ≡ polys.zero → (p ≡ polys.zero) ⊎ (q ≡ polys.zero)

pub record DegreeIsTheGreatestTotal : Type 0 where
  pub greatest : (p : Polynomial) (m : Mono) → coefficient p m ≢ pos 0 → total m ≤ degree p
  pub attained : (p : Polynomial) → p ≢ polys.zero → (m : Mono) × (coefficient p m ≢ pos 0) × (total m ≡ degree p)
  pub of_zero : degree polys.zero ≡ 0
