-- The laws of contents and parts: that content and common monomial are the greatest, that the parts make the whole, and that
-- the primitive part has nothing left to divide out.
use Rattle.std.specs.Prelude.{◌≡◌, ◌↔◌, ℕ, false}
use Rattle.std.specs.Int.{◌∣◌}
use Rattle.ct_algebra.specs.Monomial.{Mono, unit}
use Rattle.ct_algebra.specs.Polynomial.{Polynomial, polys, times}
use Rattle.ct_algebra.specs.Substitution.{term, number}
use Rattle.ct_algebra.specs.Terms.{EachTerm}
use Rattle.ct_mono.specs.Division.{Divides}
use Rattle.ct_poly.specs.Content.{DividesEach, content, common_monomial, is_negative, signed_content, primitive_form, primitive_part}

-- the divisors of the content are the common divisors of the coefficients
abbrev pub ContentIsGreatest : Type 0
ContentIsGreatest = (p : Polynomial) (d : ℕ) → (d ∣ content p) ↔ DividesEach d p

-- the divisors of the common monomial are the monomials that divide every term
abbrev pub CommonMonomialIsGreatest : Type 0
CommonMonomialIsGreatest =
    (p : Polynomial) (t : Mono) → (p ≡ polys.zero → ⊥) → Divides t (common_monomial p) ↔ EachTerm (λ m c. Divides t m) p.terms

-- a polynomial is its signed content times its common monomial times its primitive part
abbrev pub PartsMakeWhole : Type 0
PartsMakeWhole =
    (p : Polynomial) →
    (times (term (common_monomial p) (signed_content p)) (primitive_part p) ≡ p) × (times (number (signed_content p)) (primitive_form p) ≡ p)

-- the primitive part has content 1, a positive leading coefficient and common monomial 1
abbrev pub PrimitivePartIsPrimitive : Type 0
PrimitivePartIsPrimitive =
    (p : Polynomial) → (p ≡ polys.zero → ⊥) →
    (content (primitive_part p) ≡ 1) × (is_negative (primitive_part p) ≡ false) × (common_monomial (primitive_part p) ≡ unit)

-- the primitive form has content 1 and a positive leading coefficient
abbrev pub PrimitiveFormIsPrimitive : Type 0
PrimitiveFormIsPrimitive =
    (p : Polynomial) → (p ≡ polys.zero → ⊥) → (content (primitive_form p) ≡ 1) × (is_negative (primitive_form p) ≡ false)
