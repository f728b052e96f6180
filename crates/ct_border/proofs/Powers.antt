-- Pure powers: main lemmas `pure_power` (a power among the leading monomials is one) and `powers_test-powers`.
use Rattle.ct_border.proofs.Base.{◌≡◌, ◌≢◌, ℕ, ◌+◌, ◌≤◌, Bool, true, false, cond, eqb, eqb-true, if◌then◌else◌, ◌||◌, List, [], ◌∷◌, Ok, Err}
use Rattle.ct_border.proofs.Base.{◌>>=◌, ◌⊎◌, inl, inr, refl, sym, ◌∙◌, ap, arith, Contains, contains_first, contains_later, contains_cases}
use Rattle.ct_border.proofs.Base.{contains_none}
use Rattle.ct_border.proofs.Base.{Mono, exp, total, exp-·, exp-unit, exp-symbol, total-·, total-symbol, Name, place, place_small}
use Rattle.ct_border.proofs.Base.{name_with, same_place, symbol, by_symbols, IsWithout, Operator, HasPurePower}
use Rattle.ct_border.specs.Staircase.{Refusal, is_power, has_power, powers_test}
use Rattle.ct_border.proofs.LeadingMonomials.{AreLeading}

-- two exponents are at most the total
two_exponents : (i j : Name) → place i ≢ place j → (m : Mono) → exp m (place i) + exp m (place j) ≤ total m
two_exponents i j differ =
    by_symbols (λ m. exp m (place i) + exp m (place j) ≤ total m)
    (omega (arith, exp-unit (place i) (place_small i), exp-unit (place j) (place_small j)))
    (λ k m before. omega (
      arith,
      before,
      exp-· (symbol k) m (place i) (place_small i),
      exp-· (symbol k) m (place j) (place_small j),
      total-· (symbol k) m,
      total-symbol k,
      one_at k,
    ))
  where
    one_at : (k : Name) → exp (symbol k) (place i) + exp (symbol k) (place j) ≤ 1
    one_at k =
        by (eqb (place i) (place k)) refl (eqb (place j) (place k)) refl (exp-symbol k (place i) (place_small i))
        (exp-symbol k (place j) (place_small j))
      where
        by : (b : Bool) → eqb (place i) (place k) ≡ b → (c : Bool) → eqb (place j) (place k) ≡ c →
            exp (symbol k) (place i) ≡ cond (eqb (place i) (place k)) 1 0 → exp (symbol k) (place j) ≡ cond (eqb (place j) (place k)) 1 0 →
            exp (symbol k) (place i) + exp (symbol k) (place j) ≤ 1
        by true first true second here there =
            absurd (differ (eqb-true (place i) (place k) first ∙ sym (eqb-true (place j) (place k) second)))
        by true first false second here there =
            omega (arith, here ∙ ap (λ b. cond b 1 0) first, there ∙ ap (λ b. cond b 1 0) second)
        by false first true second here there =
            omega (arith, here ∙ ap (λ b. cond b 1 0) first, there ∙ ap (λ b. cond b 1 0) second)
        by false first false second here there =
            omega (arith, here ∙ ap (λ b. cond b 1 0) first, there ∙ ap (λ b. cond b 1 0) second)

without_others : (i : Name) (m : Mono) → exp m (place i) ≡ total m → (j : Name) → j ≢ i → IsWithout j m
without_others i m is j other =
    let both = two_exponents i j (λ same. other (sym (same_place i j same))) m in omega (arith, is, both)

pub pure_power : (gs : List Operator) (ms : List Mono) (i : Name) → AreLeading gs ms → has_power ms i ≡ true → HasPurePower gs i
pure_power [] [] i lead has = cc
pure_power [] (m ∷ ms) i lead has = absurd lead
pure_power (g ∷ gs) [] i lead has = absurd lead
pure_power (g ∷ gs) (m ∷ ms) i lead has = by (is_power i m) refl has (pure_power gs ms i lead.1)
  where
    by : (b : Bool) → is_power i m ≡ b → (b || has_power ms i) ≡ true → (has_power ms i ≡ true → HasPurePower gs i) → HasPurePower (g ∷ gs) i
    by true power has rest = record {
      generator = g;
      stands = contains_first g gs;
      mono = m;
      coef = lead.0.coef;
      leads = lead.0.leads;
      pure = without_others i m (eqb-true (exp m (place i)) (total m) power);
    }
    by false other has rest =
        let later = rest has in
        record {
          generator = later.generator;
          stands = contains_later g later.generator gs later.stands;
          mono = later.mono;
          coef = later.coef;
          leads = later.leads;
          pure = later.pure;
        }

pub powers_test-powers :
    (ms : List Mono) (is : List ℕ) → powers_test ms is ≡ Ok tt → (i : ℕ) → Contains is i → has_power ms (name_with i) ≡ true
powers_test-powers ms [] passes i found = absurd (contains_none i found)
powers_test-powers ms (k ∷ is) passes i found = by (has_power ms (name_with k)) refl passes (powers_test-powers ms is)
  where
    by : (b : Bool) → has_power ms (name_with k) ≡ b →
        (◌>>=◌ {A = Unit {0}} {B = Unit {0}} {E = Refusal} (if b then Ok (tt {0}) else Err (Refusal.NotFinite k)) (λ _. powers_test ms is)) ≡
        Ok (tt {0}) →
        (powers_test ms is ≡ Ok (tt {0}) → (i : ℕ) → Contains is i → has_power ms (name_with i) ≡ true) → has_power ms (name_with i) ≡ true
    by true has passes rest = here (contains_cases k i is found)
      where
        here : (k ≡ i) ⊎ Contains is i → has_power ms (name_with i) ≡ true
        here (inl same) = ap (λ i. has_power ms (name_with i)) (sym same) ∙ has
        here (inr later) = rest passes i later
    by false none passes rest = cc

-- a test that passes
pub powers_more :
    (ms : List Mono) (k : ℕ) (is rest : List ℕ) → rest ≡ k ∷ is → has_power ms (name_with k) ≡ true → powers_test ms rest ≡ powers_test ms is
powers_more ms k is rest whole has =
    ap (powers_test ms) whole
    ∙ ap (λ b. ◌>>=◌ {A = Unit {0}} {B = Unit {0}} {E = Refusal} (if b then Ok (tt {0}) else Err (Refusal.NotFinite k)) (λ _. powers_test ms is)) has
