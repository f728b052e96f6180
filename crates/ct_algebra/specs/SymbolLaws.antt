-- What the laws of σ and δ say; the functions of src/laws.rt prove them.
--     SymbolsRespectTheRing         σ keeps sums, products and numbers; δ keeps sums, kills numbers and has the product rule
--     ShiftReplacesItsName          σ of a shift is the substitution of x + 1 for the name x; its δ is zero
--     DerivationIsTheDerivative     δ of a derivation is the termwise derivative; its σ is the identity
--     StillNameDoesNothing          σ is the identity and δ is zero
--     FreePolynomialsAreConstants   so they are for any action, of a polynomial without the name
-- These say all of both maps (`sigma_only`, `delta_only` of Determined).
use Rattle.std.specs.Prelude.{◌≡◌, ◌≢◌, ℤ, pos, ◌*ℤ◌}
use Rattle.ct_algebra.specs.Monomial.{Mono, ◌·◌, exp}
use Rattle.ct_algebra.specs.Names.{Name, place, symbol}
use Rattle.ct_algebra.specs.Polynomial.{Polynomial, polys, plus, times}
use Rattle.ct_algebra.specs.Substitution.{term, number, name}
use Rattle.ct_algebra.specs.Actions.{Action, Shift, Derive, Still, sigma, delta}
use Rattle.ct_algebra.specs.FreeOf.{IsWithout, IsFreeOf}

pub record SymbolsRespectTheRing : Type 0 where
  pub sigma_of_sums :
      (a : Name → Action) (i : Name) (p q : Polynomial) → sigma a i (plus p q) ≡ plus (sigma a i p) (sigma a i q)
  pub sigma_of_products :
      (a : Name → Action) (i : Name) (p q : Polynomial) → sigma a i (times p q) ≡ times (sigma a i p) (sigma a i q)
  pub sigma_of_numbers : (a : Name → Action) (i : Name) (c : ℤ) → sigma a i (number c) ≡ number c
  pub delta_of_sums :
      (a : Name → Action) (i : Name) (p q : Polynomial) → delta a i (plus p q) ≡ plus (delta a i p) (delta a i q)
  pub delta_of_products :
      (a : Name → Action) (i : Name) (p q : Polynomial) →
      delta a i (times p q) ≡ plus (times (sigma a i p) (delta a i q)) (times (delta a i p) q)
  pub delta_of_numbers : (a : Name → Action) (i : Name) (c : ℤ) → delta a i (number c) ≡ polys.zero

pub record ShiftReplacesItsName : Type 0 where
  pub itself : (a : Name → Action) (i : Name) → a i ≡ Shift → sigma a i (name i) ≡ plus (name i) (number (pos 1))
  pub others : (a : Name → Action) (i j : Name) → a i ≡ Shift → i ≢ j → sigma a i (name j) ≡ name j
  pub no_delta : (a : Name → Action) (i : Name) (p : Polynomial) → a i ≡ Shift → delta a i p ≡ polys.zero

pub record DerivationIsTheDerivative : Type 0 where
  pub itself : (a : Name → Action) (i : Name) → a i ≡ Derive → delta a i (name i) ≡ polys.one
  pub others : (a : Name → Action) (i j : Name) → a i ≡ Derive → i ≢ j → delta a i (name j) ≡ polys.zero
  pub termwise :
      (a : Name → Action) (i : Name) (m : Mono) (c : ℤ) → a i ≡ Derive →
      delta a i (term (symbol i · m) c) ≡ term m (c *ℤ pos (exp (symbol i · m) (place i)))
  pub without :
      (a : Name → Action) (i : Name) (m : Mono) (c : ℤ) → a i ≡ Derive → IsWithout i m →
      delta a i (term m c) ≡ polys.zero
  pub no_sigma : (a : Name → Action) (i : Name) (p : Polynomial) → a i ≡ Derive → sigma a i p ≡ p

pub record StillNameDoesNothing : Type 0 where
  pub no_sigma : (a : Name → Action) (i : Name) (p : Polynomial) → a i ≡ Still → sigma a i p ≡ p
  pub no_delta : (a : Name → Action) (i : Name) (p : Polynomial) → a i ≡ Still → delta a i p ≡ polys.zero

pub record FreePolynomialsAreConstants : Type 0 where
  pub no_sigma : (a : Name → Action) (i : Name) (p : Polynomial) → IsFreeOf i p → sigma a i p ≡ p
  pub no_delta : (a : Name → Action) (i : Name) (p : Polynomial) → IsFreeOf i p → delta a i p ≡ polys.zero
