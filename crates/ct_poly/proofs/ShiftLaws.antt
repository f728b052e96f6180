-- A shift by any number is a substitution, and σ and δ are the shift by 1 and the derivative. Main lemmas `shift_substitutes`
-- and `symbols_shift`, which the laws cite.
-- A map of rings is known from its values at the names, and each name is the one that is shifted or another one.
use Rattle.ct_poly.proofs.Base.{◌≡◌, ◌≢◌, ℕ, ℤ, pos, Bool, true, false, cond, eqb, sym, ◌∙◌, ap, subst, eq-eqb, eqb-true, Name, place, same_place}
use Rattle.ct_poly.proofs.Base.{Polynomial, polys, plus, times, name, number, shift_ring_hom, shift-name, same_ring_hom, IsRingHom}
use Rattle.std.specs.Prelude.{refl}
use Rattle.ct_algebra.specs.Actions.{sigma_by, delta_by}
use Rattle.ct_poly.specs.Measures.{shifted, steps}
use Rattle.ct_poly.specs.ShiftLaws.{ShiftIsSubstitution, SymbolsShiftAndDerive}
use Rattle.ct_poly.proofs.ShiftValues.{number-zero}

module _ (i : Name) (a : ℕ) where
  hom : IsRingHom (shifted i a)
  unfolding shifted
  hom = shift_ring_hom (steps i a)

  -- what holds at the name and at all others holds at each
  each_name : (S : Name → Type 0) → S i → ((j : Name) → i ≢ j → S j) → (j : Name) → S j
  each_name S own others j = by (eqb (place j) (place i)) refl
    where
      by : (b : Bool) → eqb (place j) (place i) ≡ b → S j
      by true same = subst S (sym (same_place j i (eqb-true (place j) (place i) same))) own
      by false differ = others j (λ same. let told : eqb (place j) (place i) ≡ true = eq-eqb (place j) (place i) (ap place (sym same)) in cc)

  at : (j : Name) (b : Bool) → eqb (place j) (place i) ≡ b → shifted i a (name j) ≡ plus (name j) (number (cond b (pos a) (pos 0)))
  unfolding shifted plus
  at j b is = shift-name (steps i a) j ∙ ap (λ b. polys.◌+◌ (name j) (number (cond b (pos a) (pos 0)))) is

  itself : shifted i a (name i) ≡ plus (name i) (number (pos a))
  itself = at i true (eq-eqb (place i) (place i) refl)

  others : (j : Name) → i ≢ j → shifted i a (name j) ≡ name j
  unfolding plus
  others j other = by (eqb (place j) (place i)) refl
    where
      by : (b : Bool) → eqb (place j) (place i) ≡ b → shifted i a (name j) ≡ name j
      by true same = absurd (other (sym (same_place j i (eqb-true (place j) (place i) same))))
      by false differ = at j false differ ∙ ap (λ w. polys.◌+◌ (name j) w) number-zero ∙ polys.add_zero (name j)

  only :
      (other : Polynomial → Polynomial) →
      ((p q : Polynomial) → other (plus p q) ≡ plus (other p) (other q)) →
      ((p q : Polynomial) → other (times p q) ≡ times (other p) (other q)) →
      ((c : ℤ) → other (number c) ≡ number c) →
      other (name i) ≡ plus (name i) (number (pos a)) →
      ((j : Name) → i ≢ j → other (name j) ≡ name j) →
      (p : Polynomial) → other p ≡ shifted i a p
  unfolding plus times
  only other sums products numbers own kept =
      same_ring_hom other (shifted i a) (record { sums = sums; products = products; numbers = numbers }) hom
      (each_name (λ j. other (name j) ≡ shifted i a (name j)) (own ∙ sym itself) (λ j differ. kept j differ ∙ sym (others j differ)))

pub shift_substitutes : ShiftIsSubstitution
unfolding plus times
shift_substitutes = record {
  sums = λ i a. (hom i a).sums;
  products = λ i a. (hom i a).products;
  numbers = λ i a. (hom i a).numbers;
  itself = itself;
  others = λ i j a. others i a j;
  only = only;
}

pub symbols_shift : SymbolsShiftAndDerive
unfolding shifted
symbols_shift = record {
  sigma_shifts = λ a i p acts. ap (λ t. sigma_by t i p) acts;
  delta_derives = λ a i p acts. ap (λ t. delta_by t i p) acts;
}
