-- Powers as monomials. Main lemma `all_of-powers`: the powers in a monomial make it up.
--     raised n k           the monomial n, multiplied by itself so often
--     monomial_of p        the power p as a monomial, of names or of symbols;  all_of ps  the product of powers
use Rattle.ct_answer.proofs.Base.{◌≡◌, ◌≢◌, ℕ, zero, suc, ◌+◌, ◌*◌, ◌≤◌, ◌<◌, Bool, true, false, cond, eqb, List, [], ◌∷◌, ◌++◌, refl, sym, ap, ap₂}
use Rattle.ct_answer.proofs.Base.{◌∙◌, arith, eqb-true, eq-eqb, ltb, le-ltb, lt-ltb, ltb-true, ltb-false, false≢true, Mono, exp, unit, ◌·◌, ·_assoc}
use Rattle.ct_answer.proofs.Base.{·_comm, ·-unit, exp-unit, exp-·, same_mono, symbol, name_with, exp-symbol, place-name_with, Each}
use Rattle.ct_answer.specs.declared.factors.Power.{Power}
use Rattle.ct_answer.specs.Text.{power_at, powers_in}
use Rattle.ct_answer.proofs.SpelledPowers.{Each-append}

-- ---- monomials of powers

unfoldable pub raised : Mono → ℕ → Mono
raised n zero = unit
raised n (suc k) = n · raised n k

abbrev pub monomial_of : Power → Mono
monomial_of p = raised (symbol (name_with p.name)) p.exponent

abbrev pub all_of : List Power → Mono
all_of [] = unit
all_of (p ∷ ps) = monomial_of p · all_of ps

pub unit_before : (n : Mono) → unit · n ≡ n
unit_before n = ·_comm unit n ∙ ·-unit n

pub raised-one : (n : Mono) → raised n 1 ≡ n
unfolding raised
raised-one n = ·-unit n

exp-raised : (n : Mono) (k i : ℕ) → i < 6 → exp (raised n k) i ≡ k * exp n i
unfolding raised
exp-raised n zero i small = let none : 0 * exp n i ≡ 0 = omega arith in exp-unit i small ∙ sym none
exp-raised n (suc k) i small = let more : suc k * exp n i ≡ exp n i + k * exp n i = omega arith in
    exp-· n (raised n k) i small ∙ ap (λ (x : ℕ). exp n i + x) (exp-raised n k i small) ∙ sym more

exp-monomial_of : (p : Power) (i : ℕ) → p.name < 6 → i < 6 → exp (monomial_of p) i ≡ cond (eqb i p.name) p.exponent 0
exp-monomial_of p i named small =
    exp-raised (symbol (name_with p.name)) p.exponent i small
    ∙ ap (λ (x : ℕ). p.exponent * x) (exp-symbol (name_with p.name) i small ∙ ap (λ (k : ℕ). cond (eqb i k) 1 0) (place-name_with p.name named))
    ∙ by (eqb i p.name)
  where
    by : (b : Bool) → p.exponent * cond b 1 0 ≡ cond b p.exponent 0
    by true = omega arith
    by false = omega arith

all_of-append : (ps qs : List Power) → all_of (ps ++ qs) ≡ all_of ps · all_of qs
all_of-append [] qs = sym (unit_before (all_of qs))
all_of-append (p ∷ ps) qs = ap (λ (n : Mono). monomial_of p · n) (all_of-append ps qs) ∙ sym (·_assoc (monomial_of p) (all_of ps) (all_of qs))

module _ (is_symbol : Bool) (m : Mono) where
  exp-at : (n e i : ℕ) → n < 6 → i < 6 → exp (all_of (power_at is_symbol n e)) i ≡ cond (eqb i n) e 0
  exp-at n zero i named small = exp-unit i small ∙ by (eqb i n)
    where
      by : (b : Bool) → ◌≡◌ {A = ℕ} 0 (cond b 0 0)
      by true = refl
      by false = refl
  exp-at n (suc e) i named small =
      let p : Power = record { is_symbol = is_symbol; name = n; exponent = suc e } in
      exp-· (monomial_of p) unit i small ∙ ap₂ ◌+◌ (exp-monomial_of p i named small) (exp-unit i small) ∙ by (eqb i n)
    where
      by : (b : Bool) → cond b (suc e) 0 + 0 ≡ cond b (suc e) 0
      by b = omega arith

  -- the powers of the first n names have the exponents of these
  exp-powers : (n i : ℕ) → n ≤ 6 → i < 6 → exp (all_of (powers_in is_symbol n m)) i ≡ cond (ltb i n) (exp m i) 0
  exp-powers zero i le small = exp-unit i small ∙ let none : ltb i 0 ≡ false = le-ltb i 0 (omega arith) in rw none refl
  exp-powers (suc n) i le small =
      ap (λ (k : Mono). exp k i) (all_of-append (powers_in is_symbol n m) (power_at is_symbol n (exp m n)))
      ∙ exp-· (all_of (powers_in is_symbol n m)) (all_of (power_at is_symbol n (exp m n))) i small
      ∙ ap₂ ◌+◌ (exp-powers n i (omega arith) small) (exp-at n (exp m n) i (omega arith) small)
      ∙ by (eqb i n) refl
    where
      by : (same : Bool) → eqb i n ≡ same → cond (ltb i n) (exp m i) 0 + cond same (exp m n) 0 ≡ cond (ltb i (suc n)) (exp m i) 0
      by true is =
          let here : i ≡ n = eqb-true i n is in
          let before : ltb i n ≡ false = le-ltb i n (omega (arith, here)) in
          let now : ltb i (suc n) ≡ true = lt-ltb i (suc n) (omega (arith, here)) in
          let nothing_before : 0 + exp m n ≡ exp m n = omega arith in
          rw (before, now) (nothing_before ∙ ap (exp m) (sym here))
      by false is = other (ltb i n) refl
        where
          other : (before : Bool) → ltb i n ≡ before → cond before (exp m i) 0 + 0 ≡ cond (ltb i (suc n)) (exp m i) 0
          other true less = let now : ltb i (suc n) ≡ true = lt-ltb i (suc n) (omega (arith, ltb-true i n less)) in rw now (omega arith)
          other false less =
              let apart : i ≢ n = λ e. false≢true (sym is ∙ eq-eqb i n e) in
              let now : ltb i (suc n) ≡ false = le-ltb i (suc n) (omega (arith, ltb-false i n less, apart)) in rw now refl

  pub all_of-powers : all_of (powers_in is_symbol 6 m) ≡ m
  all_of-powers = same_mono _ _ (λ i small. exp-powers 6 i (omega arith) small ∙ let now : ltb i 6 ≡ true = lt-ltb i 6 small in rw now refl)

  pub all_are : (n : ℕ) → Each (λ p. p.is_symbol ≡ is_symbol) (powers_in is_symbol n m)
  all_are zero = tt
  all_are (suc n) = Each-append (λ (p : Power). p.is_symbol ≡ is_symbol) (powers_in is_symbol n m) (power_at is_symbol n (exp m n)) (all_are n)
      (by (exp m n))
    where
      by : (e : ℕ) → Each (λ (p : Power). p.is_symbol ≡ is_symbol) (power_at is_symbol n e)
      by zero = tt
      by (suc e) = (refl, tt)
