-- What the law of coefficients in some names says; a function of src/laws.rt proves it.
--     IsIn js e                the monomial e contains no other names than js
--     CoefficientsInNames      the coefficient of e in the names js is free of js; its own coefficient at a monomial m without
--                              js is that of p at e·m; each coefficient of p is one of these; and the coefficient of e respects
--                              sums, and multiples by polynomials without js
-- So the coefficients in some names are known from the coefficients, and a polynomial from its coefficients in some names.
use Rattle.std.specs.Prelude.{◌≡◌, ◌≢◌, List}
use Rattle.std.specs.List.{Contains}
use Rattle.ct_algebra.specs.Monomial.{Mono, exp, ◌·◌}
use Rattle.ct_algebra.specs.Names.{Name, place}
use Rattle.ct_algebra.specs.Polynomial.{Polynomial, coefficient, polys, plus, times}
use Rattle.ct_algebra.specs.FreeOf.{IsWithout, EachName, IsFreeOfAll}
use Rattle.ct_algebra.specs.Coefficients.{inside, outside, coefficient_in}

abbrev pub IsIn : List Name → Mono → Type 0
IsIn js e = (i : Name) → exp e (place i) ≢ 0 → Contains js i

pub record CoefficientsInNames : Type 0 where
  pub free : (js : List Name) (e : Mono) (p : Polynomial) → IsFreeOfAll js (coefficient_in js e p)
  pub values :
      (js : List Name) (e m : Mono) (p : Polynomial) → IsIn js e → EachName (λ j. IsWithout j m) js →
      coefficient (coefficient_in js e p) m ≡ coefficient p (e · m)
  pub no_others : (js : List Name) (e : Mono) (p : Polynomial) → ¬ IsIn js e → coefficient_in js e p ≡ polys.zero
  pub all :
      (js : List Name) (m : Mono) (p : Polynomial) →
      coefficient p m ≡ coefficient (coefficient_in js (inside js m) p) (outside js m)
  pub sums :
      (js : List Name) (e : Mono) (p q : Polynomial) →
      coefficient_in js e (plus p q) ≡ plus (coefficient_in js e p) (coefficient_in js e q)
  pub multiples :
      (js : List Name) (e : Mono) (c p : Polynomial) → IsFreeOfAll js c →
      coefficient_in js e (times c p) ≡ times c (coefficient_in js e p)
