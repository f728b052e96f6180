-- What k shifts by a name make of a power of the name: main lemma `shifts-power`, the row of the binomial.
-- By induction on the power: a factor more goes from row to row by Pascal's rule, since shifts respect products.
use Rattle.ct_ore.proofs.Base.{◌≡◌, refl, ℕ, zero, suc, ◌+◌, ◌-◌, ◌*◌, ◌^◌, ◌<◌, ℤ, pos, ◌+ℤ◌, ◌*ℤ◌, cond, sym, ◌∙◌, ap, ap₂, subst, arith, eq-eqb}
use Rattle.ct_ore.proofs.Base.{pow-suc, zero-mul, zero_add, sum_below-same, mul-sum_below, sum_below, EachTerm-single, Mono, monomials, unit, ◌·◌}
use Rattle.ct_ore.proofs.Base.{int_group, Name, place, place_small, symbol, times_over, Polynomial, polys, P, term, term_is, term-sum, term-*, name}
use Rattle.ct_ore.proofs.Base.{name_is, number, number_is, number-*, number-sum, times_one, IsRingHom, shift, shift_ring_hom, shift-name, one_step}
use Rattle.ct_ore.proofs.Base.{with_exponent, exp-with_exponent_same}
use Rattle.ct_algebra.specs.Ring.{add_mul}
use Rattle.ct_algebra.specs.Derivative.{zero_term, none_times}
use Rattle.ct_algebra.specs.FreeOf.{IsWithout, IsFreeOf}
use Rattle.ct_algebra.proofs.FreeOfLaws.{shift-free}
use Rattle.ct_ore.specs.Kinds.{choose}
use Rattle.ct_ore.proofs.ChangedExponents.{symbol-with}
use Rattle.ct_ore.proofs.PairWeightLaws.{choose-past}
use Rattle.ct_ore.proofs.PartSums.{number_step, pascal}
use native.Mathlib.Nat.{pow-zero}
use lib.IntN.{*ℤ_comm}

-- a number taken no times makes no term
pub none_of_them : (m : Mono) (c : ℤ) (n : ℕ) → n ≡ 0 → term m (c *ℤ pos n) ≡ polys.zero
none_of_them m c n none = ap (λ x. term m (c *ℤ pos x)) none ∙ ap (term m) (none_times c) ∙ zero_term m

module _ (i : Name) where
  abbrev pub shifts : ℕ → Polynomial → Polynomial
  shifts k p = times_over k (shift (one_step i)) p

  abbrev at_power : ℕ → Mono → Mono
  at_power e n = with_exponent (place i) e n

  shifts_hom : (k : ℕ) → IsRingHom (shifts k)
  shifts_hom zero = record { sums = λ p q. refl; products = λ p q. refl; numbers = λ c. refl }
  shifts_hom (suc k) = record {
    sums = λ p q. ap (shift (one_step i)) ((shifts_hom k).sums p q) ∙ (shift_ring_hom (one_step i)).sums _ _;
    products = λ p q. ap (shift (one_step i)) ((shifts_hom k).products p q) ∙ (shift_ring_hom (one_step i)).products _ _;
    numbers = λ c. ap (shift (one_step i)) ((shifts_hom k).numbers c) ∙ (shift_ring_hom (one_step i)).numbers c;
  }

  own_step : one_step i i ≡ pos 1
  own_step = ap (λ b. cond b (pos 1) (pos 0)) (eq-eqb (place i) (place i) refl)

  shifts-name : (k : ℕ) → shifts k (name i) ≡ polys.◌+◌ (name i) (number (pos k))
  shifts-name zero = sym (ap (polys.◌+◌ (name i)) (number_is (pos 0) ∙ zero_term unit) ∙ polys.add_zero (name i))
  shifts-name (suc k) =
      let one_more : 1 + k ≡ suc k = omega arith in
      ap (shift (one_step i)) (shifts-name k) ∙ (shift_ring_hom (one_step i)).sums _ _
      ∙ ap₂ polys.◌+◌ (shift-name (one_step i) i ∙ ap (λ c. polys.◌+◌ (name i) (number c)) own_step)
      ((shift_ring_hom (one_step i)).numbers (pos k))
      ∙ polys.add_assoc _ _ _
      ∙ ap (polys.◌+◌ (name i)) (sym (number-sum (pos 1) (pos k)) ∙ ap (λ n. number (pos n)) one_more)

  shifts-without : (k : ℕ) (n : Mono) (c : ℤ) → IsWithout i n → shifts k (term n c) ≡ term n c
  shifts-without zero n c without = refl
  shifts-without (suc k) n c without =
      ap (shift (one_step i)) (shifts-without k n c without)
      ∙ shift-free i (term n c) (subst (IsFreeOf i) (sym (term_is n c)) (EachTerm-single monomials int_group (IsWithout i) n c without))

  name_times : (w : Mono) (c : ℤ) → polys.◌*◌ (name i) (term w c) ≡ term (symbol i · w) c
  name_times w c =
      ap (λ x. polys.◌*◌ x (term w c)) (name_is i) ∙ term-* (symbol i) w (pos 1) c
      ∙ ap (term (symbol i · w)) (*ℤ_comm (pos 1) c ∙ times_one c)

  -- the numbers of the row of the power e, and its monomials before any numbers
  abbrev pub shift_number : ℕ → ℕ → ℤ → ℕ → ℤ
  shift_number k e c j = c *ℤ pos (choose e j * k ^ j)

  abbrev pub shift_term : ℕ → Mono → ℕ → ℤ → Polynomial
  shift_term e n j x = term (at_power (e - j) n) x

  shift_number-next :
      (k e : ℕ) (c : ℤ) (j : ℕ) →
      shift_number k (suc e) c (suc j) ≡ shift_number k e c (suc j) +ℤ shift_number k e c j *ℤ pos k
  shift_number-next k e c j =
      ap (λ p. c *ℤ pos ((choose e j + choose e (suc j)) * p)) (pow-suc k j)
      ∙ number_step c (choose e j) (choose e (suc j)) (k ^ j) k
      ∙ ap (λ p. c *ℤ pos (choose e (suc j) * p) +ℤ shift_number k e c j *ℤ pos k) (sym (pow-suc k j))

  binomial_times :
      (k e : ℕ) (n : Mono) (x : ℤ) (j : ℕ) → j < suc e →
      polys.◌*◌ (polys.◌+◌ (name i) (number (pos k))) (shift_term e n j x) ≡
      polys.◌+◌ (shift_term (suc e) n j x) (shift_term (suc e) n (suc j) (x *ℤ pos k))
  binomial_times k e n x j small =
      let raised : suc (e - j) ≡ suc e - j = omega arith in
      let lowered : e - j ≡ suc e - suc j = omega arith in
      add_mul polys _ _ _
      ∙ ap₂ polys.◌+◌ (name_times (at_power (e - j) n) x ∙ ap (λ m. term m x) (symbol-with i (e - j) n ∙ ap (λ d. at_power d n) raised))
      (number-* (pos k) _ x ∙ ap₂ (λ d y. term (at_power d n) y) lowered (*ℤ_comm (pos k) x))

  -- the row of the power e
  pub shifts-power :
      (k e : ℕ) (n : Mono) (c : ℤ) →
      shifts k (term (at_power e n) c) ≡ sum_below P (suc e) (λ j. shift_term e n j (shift_number k e c j))
  shifts-power k zero n c =
      shifts-without k (at_power 0 n) c (exp-with_exponent_same (place i) 0 n (place_small i))
      ∙ sym (zero_add P _ ∙ ap (λ x. term (at_power 0 n) (c *ℤ pos (1 * x))) (pow-zero k) ∙ ap (term (at_power 0 n)) (times_one c))
  shifts-power k (suc e) n c =
      ap (λ w. shifts k (term w c)) (sym (symbol-with i e n)) ∙ ap (shifts k) (sym (name_times (at_power e n) c))
      ∙ (shifts_hom k).products _ _ ∙ ap₂ polys.◌*◌ (shifts-name k) (shifts-power k e n c)
      ∙ sym (mul-sum_below polys (suc e) (polys.◌+◌ (name i) (number (pos k))) (λ j. shift_term e n j (shift_number k e c j)))
      ∙ sum_below-same P (suc e) _ _ (λ j small. binomial_times k e n (shift_number k e c j) j small)
      ∙ pascal P (shift_term (suc e) n) (λ j x y. term-sum _ x y) (shift_number k e c) (λ j. shift_number k e c j *ℤ pos k)
      (shift_number k (suc e) c) refl (shift_number-next k e c) (suc e)
      (none_of_them _ c _ (ap (λ x. x * k ^ suc e) (choose-past e (suc e) (omega arith)) ∙ zero-mul _))
