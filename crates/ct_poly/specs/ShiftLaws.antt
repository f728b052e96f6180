-- What the laws of shifts and derivatives say; the functions of src/laws.rt prove them.
--     ShiftIsSubstitution         `shifted i a` keeps sums, products and numbers, sends the name i to i + a, and keeps all others;
--                                 nothing else does
--     SymbolsShiftAndDerive       σ of a shift is the shift by 1, and δ of a derivation is the derivative
use Rattle.std.specs.Prelude.{◌≡◌, ◌≢◌, ℕ, ℤ, pos}
use Rattle.ct_algebra.specs.Actions.{Action, Shift, Derive, sigma, delta}
use Rattle.ct_algebra.specs.Derivative.{derived}
use Rattle.ct_algebra.specs.Names.{Name}
use Rattle.ct_algebra.specs.Polynomial.{Polynomial, plus, times}
use Rattle.ct_algebra.specs.Substitution.{name, number}
use Rattle.ct_poly.specs.Measures.{shifted}

pub record ShiftIsSubstitution : Type 0 where
  pub sums : (i : Name) (a : ℕ) (p q : Polynomial) → shifted i a (plus p q) ≡ plus (shifted i a p) (shifted i a q)
  pub products : (i : Name) (a : ℕ) (p q : Polynomial) → shifted i a (times p q) ≡ times (shifted i a p) (shifted i a q)
  pub numbers : (i : Name) (a : ℕ) (c : ℤ) → shifted i a (number c) ≡ number c
  pub itself : (i : Name) (a : ℕ) → shifted i a (name i) ≡ plus (name i) (number (pos a))
  pub others : (i j : Name) (a : ℕ) → i ≢ j → shifted i a (name j) ≡ name j
  pub only :
      (i : Name) (a : ℕ) (other : Polynomial → Polynomial) →
      ((p q : Polynomial) → other (plus p q) ≡ plus (other p) (other q)) →
      ((p q : Polynomial) → other (times p q) ≡ times (other p) (other q)) →
      ((c : ℤ) → other (number c) ≡ number c) →
      other (name i) ≡ plus (name i) (number (pos a)) →
      ((j : Name) → i ≢ j → other (name j) ≡ name j) →
      (p : Polynomial) → other p ≡ shifted i a p

pub record SymbolsShiftAndDerive : Type 0 where
  pub sigma_shifts : (a : Name → Action) (i : Name) (p : Polynomial) → a i ≡ Shift → sigma a i p ≡ shifted i 1 p
  pub delta_derives : (a : Name → Action) (i : Name) (p : Polynomial) → a i ≡ Derive → delta a i p ≡ derived i p
