-- What the laws of terms say; the functions of src/laws.rt prove them.
--     AreFalling es              each monomial of the list is below the one before it
--     AreTermsOf zero es at      falling terms, each with the nonzero coefficient of its monomial; no other monomial has one
--     TermsAreTheCoefficients    so are the terms of a polynomial, and those of an operator, and no other list is
--     FreedomIsOfCoefficients    what is said of each term is said of each nonzero coefficient
-- So measures and leading terms, which are read off the terms, are known from the coefficients and the order of monomials.
use Rattle.std.specs.Prelude.{◌≡◌, ◌≢◌, ◌↔◌, ℤ, pos, List, [], ◌∷◌}
use Rattle.std.specs.List.{Contains}
use Rattle.std.proofs.Common.{Less}
use Rattle.ct_algebra.specs.Terms.{EachTerm}
use Rattle.ct_algebra.specs.Monomial.{Mono, mono_cmp}
use Rattle.ct_algebra.specs.Names.{Name}
use Rattle.ct_algebra.specs.Polynomial.{Polynomial, coefficient, polys}
use Rattle.ct_algebra.specs.Actions.{Action, Still}
use Rattle.ct_algebra.specs.Operators.{Operator, polynomial_at}
use Rattle.ct_algebra.specs.FreeOf.{IsWithout, EachName, IsFreeOf, IsFreeOfAll, OperatorIsFreeOf, IsOver}

abbrev pub AreFalling : {A : Type 0} → List (Mono × A) → Type 0
AreFalling [] = Unit {0}
AreFalling (e ∷ []) = Unit {0}
AreFalling (e ∷ f ∷ es) = (mono_cmp f.0 e.0 ≡ Less) × AreFalling (f ∷ es)

pub record AreTermsOf {A : Type 0} (zero : A) (es : List (Mono × A)) (at : Mono → A) : Type 0 where
  pub falling : AreFalling es
  pub each : EachTerm (λ m c. (at m ≡ c) × (c ≢ zero)) es
  pub no_others : (m : Mono) → at m ≢ zero → Contains es (m, at m)

pub record TermsAreTheCoefficients : Type 0 where
  pub of_polynomials : (p : Polynomial) → AreTermsOf (pos 0) p.terms (coefficient p)
  pub of_operators : (p : Operator) → AreTermsOf polys.zero p.terms (polynomial_at p)
  pub only_of_polynomials :
      (p : Polynomial) (es : List (Mono × ℤ)) → AreTermsOf (pos 0) es (coefficient p) → es ≡ p.terms
  pub only_of_operators :
      (p : Operator) (es : List (Mono × Polynomial)) → AreTermsOf polys.zero es (polynomial_at p) → es ≡ p.terms

pub record FreedomIsOfCoefficients : Type 0 where
  pub of_polynomials : (j : Name) (p : Polynomial) → IsFreeOf j p ↔ ((m : Mono) → coefficient p m ≢ pos 0 → IsWithout j m)
  pub of_operators :
      (js : List Name) (p : Operator) →
      OperatorIsFreeOf js p ↔
      ((m : Mono) → polynomial_at p m ≢ polys.zero → EachName (λ j. IsWithout j m) js × IsFreeOfAll js (polynomial_at p m))
  pub over_actions :
      (a : Name → Action) (p : Operator) →
      IsOver a p ↔ ((m : Mono) → polynomial_at p m ≢ polys.zero → (i : Name) → a i ≡ Still → IsWithout i m)
