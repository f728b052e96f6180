-- The proofs of specs/SymbolLaws: the laws of shifts and derivatives, for each action.
use Rattle.std.specs.Prelude.{◌≡◌, ◌≢◌, refl, ℕ, ◌+◌, ◌-◌, ℤ, pos, ◌*ℤ◌, Bool, true, false, cond, eqb}
use Rattle.std.proofs.Common.{sym, ◌∙◌, ap, ap₂, arith, eq-eqb, eqb-true}
use Rattle.ct_algebra.specs.Monomial.{Mono, exp, exp-·, same_mono, ◌·◌, ·-unit, unit}
use Rattle.ct_algebra.specs.Names.{Name, place, place_small, same_place, symbol, exp-symbol}
use Rattle.ct_algebra.specs.Polynomial.{polys, plus, times}
use Rattle.ct_algebra.specs.Substitution.{term, number, number_is, name, name_is, shift_ring_hom, shift-name, one_is}
use Rattle.ct_algebra.specs.Derivative.{derived, derived-term, lower, exp-lower, power_at_is, plus_nat_is, zero_term}
use Rattle.ct_algebra.specs.Laws.Derivations.{derived-number, none_at}
use Rattle.ct_algebra.specs.Actions.{Action, Shift, Derive, Still, one_step, sigma_by, delta_by, sigma_by-sum, sigma_by-product, delta_by-sum}
use Rattle.ct_algebra.specs.Actions.{delta_by-product}
use Rattle.ct_algebra.specs.FreeOf.{IsWithout}
use Rattle.ct_algebra.specs.SymbolLaws.{SymbolsRespectTheRing, ShiftReplacesItsName, DerivationIsTheDerivative, StillNameDoesNothing}
use Rattle.ct_algebra.specs.SymbolLaws.{FreePolynomialsAreConstants}
use Rattle.ct_algebra.proofs.FreeOfLaws.{sigma-free, delta-free}

-- ---- all actions

sigma_by-number : (t : Action) (i : Name) (c : ℤ) → sigma_by t i (number c) ≡ number c
sigma_by-number Shift i c = (shift_ring_hom (one_step i)).numbers c
sigma_by-number Derive i c = refl
sigma_by-number Still i c = refl

delta_by-number : (t : Action) (i : Name) (c : ℤ) → delta_by t i (number c) ≡ polys.zero
delta_by-number Shift i c = refl
delta_by-number Derive i c = derived-number i c
delta_by-number Still i c = refl

pub respect_the_ring : SymbolsRespectTheRing
unfolding plus times
respect_the_ring = record {
  sigma_of_sums = λ a i p q. sigma_by-sum (a i) i p q;
  sigma_of_products = λ a i p q. sigma_by-product (a i) i p q;
  sigma_of_numbers = λ a i c. sigma_by-number (a i) i c;
  delta_of_sums = λ a i p q. delta_by-sum (a i) i p q;
  delta_of_products = λ a i p q. delta_by-product (a i) i p q;
  delta_of_numbers = λ a i c. delta_by-number (a i) i c;
}

-- ---- shifts

other_place : (i j : Name) → i ≢ j → eqb (place j) (place i) ≡ false
other_place i j other = by (eqb (place j) (place i)) refl
  where
    by : (b : Bool) → eqb (place j) (place i) ≡ b → b ≡ false
    by true same = absurd (other (sym (same_place j i (eqb-true (place j) (place i) same))))
    by false same = refl

own_step : (i : Name) → one_step i i ≡ pos 1
own_step i = ap (λ b. cond b (pos 1) (pos 0)) (eq-eqb (place i) (place i) refl)

other_step : (i j : Name) → i ≢ j → one_step i j ≡ pos 0
other_step i j other = ap (λ b. cond b (pos 1) (pos 0)) (other_place i j other)

pub shifts : ShiftReplacesItsName
unfolding plus
shifts = record {
  itself = λ a i acts.
      ap (λ t. sigma_by t i (name i)) acts ∙ shift-name (one_step i) i
      ∙ ap (λ c. plus (name i) (number c)) (own_step i);
  others = λ a i j acts other.
      ap (λ t. sigma_by t i (name j)) acts ∙ shift-name (one_step i) j
      ∙ ap (λ c. plus (name j) (number c)) (other_step i j other)
      ∙ ap (plus (name j)) (number_is (pos 0) ∙ zero_term unit) ∙ polys.add_zero _;
  no_delta = λ a i p acts. ap (λ t. delta_by t i p) acts;
}

-- ---- derivations

-- one symbol less
lower-symbol : (i : Name) (m : Mono) → lower i (symbol i · m) ≡ m
lower-symbol i m = same_mono _ _ (λ k small.
    exp-lower i (symbol i · m) k small ∙ ap₂ ◌-◌ (exp-· (symbol i) m k small ∙ ap (λ e. e + exp m k) (exp-symbol i k small)) (plus_nat_is i k)
    ∙ by (eqb k (place i)) (exp m k))
  where
    by : (b : Bool) (e : ℕ) → (cond b 1 0 + e) - cond b 1 0 ≡ e
    by true e = omega arith
    by false e = omega arith

without_other : (i j : Name) → i ≢ j → IsWithout i (symbol j)
without_other i j other =
    exp-symbol j (place i) (place_small i)
    ∙ ap (λ b. cond b 1 0) (other_place j i (λ same. other (sym same)))

derived_termwise :
    (i : Name) (m : Mono) (c : ℤ) →
    derived i (term (symbol i · m) c) ≡ term m (c *ℤ pos (exp (symbol i · m) (place i)))
derived_termwise i m c =
    derived-term i (symbol i · m) c
    ∙ ap₂ term (lower-symbol i m) (ap (λ e. c *ℤ e) (power_at_is i (symbol i · m)))

derived-own_name : (i : Name) → derived i (name i) ≡ polys.one
derived-own_name i =
    ap (derived i) (name_is i ∙ ap (λ m. term m (pos 1)) (sym (·-unit (symbol i)))) ∙ derived_termwise i unit (pos 1)
    ∙ ap (λ e. term unit (pos 1 *ℤ pos e)) (exponent i)
    ∙ sym (one_is ∙ number_is (pos 1))
  where
    exponent : (i : Name) → exp (symbol i · unit) (place i) ≡ 1
    exponent i =
        ap (λ m. exp m (place i)) (·-unit (symbol i)) ∙ exp-symbol i (place i) (place_small i)
        ∙ ap (λ b. cond b 1 0) (eq-eqb (place i) (place i) refl)

pub derivations : DerivationIsTheDerivative
derivations = record {
  itself = λ a i acts. ap (λ t. delta_by t i (name i)) acts ∙ derived-own_name i;
  others = λ a i j acts other.
      ap (λ t. delta_by t i (name j)) acts ∙ ap (derived i) (name_is j)
      ∙ none_at i (symbol j) (pos 1) (without_other i j other);
  termwise = λ a i m c acts. ap (λ t. delta_by t i (term (symbol i · m) c)) acts ∙ derived_termwise i m c;
  without = λ a i m c acts free. ap (λ t. delta_by t i (term m c)) acts ∙ none_at i m c free;
  no_sigma = λ a i p acts. ap (λ t. sigma_by t i p) acts;
}

-- ---- names without an operator

pub still_names : StillNameDoesNothing
still_names = record {
  no_sigma = λ a i p acts. ap (λ t. sigma_by t i p) acts;
  no_delta = λ a i p acts. ap (λ t. delta_by t i p) acts;
}

-- ---- polynomials without the name

pub free_polynomials : FreePolynomialsAreConstants
free_polynomials = record { no_sigma = sigma-free; no_delta = delta-free }
