-- What a shift makes of one term, and of a sum: main lemmas `shifted-term` and `shifted-sum`, and `shifted_by_none`.
-- A monomial is its power of the name times the rest, which the shift leaves as it is: by induction over products of names.
use Rattle.ct_poly.proofs.Base.{◌≡◌, refl, ℕ, suc, ◌+◌, ◌<◌, ℤ, pos, Bool, true, false, eqb, cond, sym, ◌∙◌, ap, ap₂, subst, arith, T, eqb→eq, eq-eqb}
use Rattle.ct_poly.proofs.Base.{zero_term, none_added, Mono, exp, exp-·, exp-unit, unit, ◌·◌, same_mono, Name, name_with, place, same_place, symbol}
use Rattle.ct_poly.proofs.Base.{exp-symbol, by_symbols, Polynomial, polys, plus_is, times, times_is, mul_left_comm, term, name, number, number_is}
use Rattle.ct_poly.proofs.Base.{number-*, times_one, symbol_term, shift, shift_ring_hom, shift-name, same_ring_hom, IsRingHom, with_exponent}
use Rattle.ct_poly.proofs.Base.{exp-with_exponent}
use Rattle.ct_poly.specs.Measures.{shifted, steps}
use Rattle.ct_poly.specs.Powers.{binomial, power_of}
use Rattle.ct_poly.proofs.TermLists.{place-name_with}

-- ---- sums, and a shift by nothing

pub shifted-sum : (i : Name) (a : ℕ) (p q : Polynomial) → shifted i a (polys.◌+◌ p q) ≡ polys.◌+◌ (shifted i a p) (shifted i a q)
unfolding shifted
shifted-sum i a p q = (shift_ring_hom (steps i a)).sums p q

pub shifted-zero : (i : Name) (a : ℕ) → shifted i a polys.zero ≡ polys.zero
shifted-zero i a = none_added polys.group _ (ap (shifted i a) (sym (polys.add_zero polys.zero)) ∙ shifted-sum i a polys.zero polys.zero)

pub number-zero : number (pos 0) ≡ polys.zero
number-zero = number_is (pos 0) ∙ zero_term unit

pub shifted_by_none : (i : Name) (p : Polynomial) → shifted i 0 p ≡ p
unfolding shifted
shifted_by_none i =
    same_ring_hom (shift (steps i 0)) (λ p. p) (shift_ring_hom (steps i 0))
    (record { sums = λ p q. refl; products = λ p q. refl; numbers = λ c. refl })
    (λ j. shift-name (steps i 0) j ∙ ap (λ z. polys.◌+◌ (name j) (number z)) (none (eqb (place j) (place i)))
    ∙ ap (λ w. polys.◌+◌ (name j) w) number-zero ∙ polys.add_zero (name j))
  where
    none : (b : Bool) → cond b (pos 0) (pos 0) ≡ pos 0
    none true = refl
    none false = refl

-- ---- one term

module _ (i : ℕ) (known : i < 6) (a : ℕ) where
  abbrev x : Name
  x = name_with i

  rest-unit : with_exponent i 0 unit ≡ unit
  rest-unit = same_mono _ _ (λ k small. exp-with_exponent i 0 unit k small ∙ ap (λ n. cond (eqb k i) 0 n) (exp-unit k small) ∙ none (eqb k i)
      ∙ sym (exp-unit k small))
    where
      none : (b : Bool) → ◌≡◌ {A = ℕ} (cond b 0 0) 0
      none true = refl
      none false = refl

  is_place : place x ≡ i
  is_place = place-name_with i known

  rest-name : (m : Mono) → with_exponent i 0 (symbol x · m) ≡ with_exponent i 0 m
  rest-name m =
      same_mono _ _ (λ k small. exp-with_exponent i 0 (symbol x · m) k small ∙ by k (eqb k i) refl small ∙ sym (exp-with_exponent i 0 m k small))
    where
      by : (k : ℕ) (b : Bool) → eqb k i ≡ b → k < 6 → cond b 0 (exp (symbol x · m) k) ≡ cond b 0 (exp m k)
      by k true here small = refl
      by k false other small =
          exp-· (symbol x) m k small
          ∙ ap (λ n. n + exp m k) (exp-symbol x k small ∙ ap (λ j. cond (eqb k j) 1 0) is_place ∙ ap (λ b. cond b 1 0) other) ∙ omega arith

  rest-other : (j : Name) (m : Mono) → eqb (place j) i ≡ false → with_exponent i 0 (symbol j · m) ≡ symbol j · with_exponent i 0 m
  rest-other j m other =
      same_mono _ _ (λ k small. exp-with_exponent i 0 (symbol j · m) k small ∙ ap (cond (eqb k i) 0) (exp-· (symbol j) m k small)
      ∙ by k (eqb k i) refl small
      ∙ sym (exp-· (symbol j) (with_exponent i 0 m) k small ∙ ap (λ n. exp (symbol j) k + n) (exp-with_exponent i 0 m k small)))
    where
      by : (k : ℕ) (b : Bool) → eqb k i ≡ b → k < 6 → cond b 0 (exp (symbol j) k + exp m k) ≡ exp (symbol j) k + cond b 0 (exp m k)
      by k true here small =
          let same : k ≡ i = eqb→eq _ _ (subst T (sym here) tt) in
          sym (ap (λ n. n + 0) (exp-symbol j k small ∙ ap (λ b. cond b 1 0) (not_here k same)) ∙ omega arith)
        where
          turned : (p q : ℕ) → eqb p q ≡ false → eqb q p ≡ false
          turned p q apart = by_eqb (eqb q p) refl
            where
              by_eqb : (b : Bool) → eqb q p ≡ b → b ≡ false
              by_eqb true equal = let e : q ≡ p = eqb→eq _ _ (subst T (sym equal) tt) in sym equal ∙ ap₂ eqb e (sym e) ∙ apart
              by_eqb false equal = refl

          not_here : (k : ℕ) → k ≡ i → eqb k (place j) ≡ false
          not_here k same = ap (λ n. eqb n (place j)) same ∙ turned (place j) i other
      by k false here small = refl

  exp-name : (m : Mono) → exp (symbol x · m) i ≡ suc (exp m i)
  exp-name m = exp-· (symbol x) m i known ∙ ap (λ n. n + exp m i) (exp-symbol x i known ∙ ap (λ b. cond b 1 0) (eq-eqb i (place x) (sym is_place)))
      ∙ omega arith

  exp-other : (j : Name) (m : Mono) → eqb (place j) i ≡ false → exp (symbol j · m) i ≡ exp m i
  exp-other j m other = exp-· (symbol j) m i known
      ∙ ap (λ n. n + exp m i) (exp-symbol j i known ∙ ap (λ b. cond b 1 0) (turned (eqb i (place j)) refl)) ∙ omega arith
    where
      turned : (b : Bool) → eqb i (place j) ≡ b → b ≡ false
      turned true equal = let e : i ≡ place j = eqb→eq _ _ (subst T (sym equal) tt) in sym equal ∙ ap₂ eqb e (sym e) ∙ other
      turned false equal = refl

  shifts : Polynomial → Polynomial
  shifts p = shift (steps x a) p

  hom : IsRingHom shifts
  unfolding shifts
  hom = shift_ring_hom (steps x a)

  -- what a shift makes of a name
  shifts-name : (j : Name) → shifts (name j) ≡ polys.◌+◌ (name j) (number (cond (eqb (place j) i) (pos a) (pos 0)))
  unfolding shifts
  shifts-name j = shift-name (steps x a) j ∙ ap (λ n. polys.◌+◌ (name j) (number (cond (eqb (place j) n) (pos a) (pos 0)))) is_place

  binomial_is : binomial i a ≡ polys.◌+◌ (name x) (number (pos a))
  binomial_is = plus_is _ _

  abbrev image : Mono → Polynomial
  image m = polys.◌*◌ (term (with_exponent i 0 m) (pos 1)) (power_of i a (exp m i))

  shifts-monic : (m : Mono) → shifts (term m (pos 1)) ≡ image m
  shifts-monic = by_symbols (λ m. shifts (term m (pos 1)) ≡ image m)
      (ap shifts (sym (number_is (pos 1))) ∙ hom.numbers (pos 1) ∙ number_is (pos 1) ∙ ap (λ m. term m (pos 1)) (sym rest-unit)
      ∙ sym (polys.mul_one _) ∙ ap (λ n. polys.◌*◌ (term (with_exponent i 0 unit) (pos 1)) (power_of i a n)) (sym (exp-unit i known)))
      (λ j m before. ap shifts (symbol_term j m) ∙ hom.products _ _ ∙ ap₂ polys.◌*◌ (shifts-name j) before ∙ next j m (eqb (place j) i) refl)
    where
      next : (j : Name) (m : Mono) (b : Bool) → eqb (place j) i ≡ b
          → polys.◌*◌ (polys.◌+◌ (name j) (number (cond b (pos a) (pos 0)))) (image m) ≡ image (symbol j · m)
      next j m true here =
          let same : j ≡ x = same_place j x (eqb→eq _ _ (subst T (sym here) tt) ∙ sym is_place) in
          ap (λ k. polys.◌*◌ (polys.◌+◌ (name k) (number (pos a))) (image m)) same
          ∙ ap (λ w. polys.◌*◌ w (image m)) (sym binomial_is)
          ∙ mul_left_comm polys (binomial i a) _ _
          ∙ ap₂ polys.◌*◌ (ap (λ k. term k (pos 1)) (sym (rest-name m))) (sym (times_is _ _))
          ∙ ap (λ n. polys.◌*◌ (term (with_exponent i 0 (symbol x · m)) (pos 1)) (power_of i a n)) (sym (exp-name m))
          ∙ ap (λ k. image (symbol k · m)) (sym same)
      next j m false other =
          ap (λ w. polys.◌*◌ w (image m)) (ap (λ w. polys.◌+◌ (name j) w) number-zero ∙ polys.add_zero (name j))
          ∙ sym (polys.mul_assoc _ _ _)
          ∙ ap₂ polys.◌*◌ (sym (symbol_term j (with_exponent i 0 m)) ∙ ap (λ k. term k (pos 1)) (sym (rest-other j m other)))
          (ap (power_of i a) (sym (exp-other j m other)))

  pub shifted-term : (m : Mono) (c : ℤ) → shifted x a (term m c) ≡ times (term (with_exponent i 0 m) c) (power_of i a (exp m i))
  unfolding shifted shifts
  shifted-term m c =
      ap shifts (sym (scaled m)) ∙ hom.products _ _ ∙ ap₂ polys.◌*◌ (hom.numbers c) (shifts-monic m)
      ∙ sym (polys.mul_assoc _ _ _) ∙ ap (λ w. polys.◌*◌ w (power_of i a (exp m i))) (scaled (with_exponent i 0 m))
      ∙ sym (times_is _ _)
    where
      scaled : (m : Mono) → polys.◌*◌ (number c) (term m (pos 1)) ≡ term m c
      scaled m = number-* c m (pos 1) ∙ ap (term m) (times_one c)
