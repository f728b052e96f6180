-- The names of a monomial as factors: they are different, and their product is the monomial.
-- Main lemmas `names_different` and `product_of_factors-names`, which the quotient cites. A name is one term, so all that is asked
-- of a factor is read off it.
use Rattle.ct_frac.proofs.Base.{◌≡◌, ◌≢◌, ◌⊎◌, refl, ℕ, zero, suc, ◌+◌, ◌<◌, ◌≤◌, ℤ, pos, false, true, Bool, cond, eqb, ltb, List, [], ◌∷◌, sym, ◌∙◌}
use Rattle.ct_frac.proofs.Base.{ap, ap₂, subst, arith, eqb-true, eq-eqb, inl, inr, Mono, exp, mono, exp-mono, mono-exp, exp-·, exp-unit, same_mono}
use Rattle.ct_frac.proofs.Base.{total, unit, ◌·◌, sum_six, Name, name_with, symbol, exp-symbol, Polynomial, polys, times, degree, degree_of, name}
use Rattle.ct_frac.proofs.Base.{name_is, term, term_is, term-*, one_is, number_is, single, largest_degree, IsContentOf, common_monomial, is_negative}
use Rattle.ct_frac.proofs.Base.{leads_below_zero, least_exp, content_only}
use Rattle.std.proofs.lemmas.Bool.{ne_eqb, lt-ltb, le-ltb, cases_order}
use Rattle.ct_poly.proofs.TermLists.{place-name_with}
use Rattle.ct_frac.specs.Normal.{with_exponent, names_from}
use Rattle.ct_frac.specs.Written.{IsBase, power, product_of_factors}
use Rattle.ct_frac.proofs.Products.{product_of_factors-with_exponent}
use Rattle.ct_frac.proofs.Sorting.{DiffersFrom, AreDifferent}

abbrev number_if : Bool → ℕ → ℕ → ℕ
number_if b m n = cond b m n

-- the name with a number
abbrev pub named : ℕ → Polynomial
named i = name (name_with i)

terms-name : (i : Name) → (name i).terms ≡ (symbol i, pos 1) ∷ []
unfolding single
terms-name i = ap (λ p. p.terms) (name_is i ∙ term_is (symbol i) (pos 1))

exp-named : (i k : ℕ) → i < 6 → k < 6 → exp (symbol (name_with i)) k ≡ cond (eqb k i) 1 0
exp-named i k small low = exp-symbol (name_with i) k low ∙ ap (λ j. cond (eqb k j) 1 0) (place-name_with i small)

-- ---- a name is a factor

pub total_some : (m : Mono) (i : ℕ) → i < 6 → exp m i ≤ total m
unfolding total exp
total_some m zero small = omega (arith, sum_six m.exps m.six)
total_some m (suc zero) small = omega (arith, sum_six m.exps m.six)
total_some m (suc (suc zero)) small = omega (arith, sum_six m.exps m.six)
total_some m (suc (suc (suc zero))) small = omega (arith, sum_six m.exps m.six)
total_some m (suc (suc (suc (suc zero)))) small = omega (arith, sum_six m.exps m.six)
total_some m (suc (suc (suc (suc (suc zero))))) small = omega (arith, sum_six m.exps m.six)
total_some m (suc (suc (suc (suc (suc (suc i)))))) small = absurd (omega arith)

pub common-named : (i : ℕ) → i < 6 → common_monomial (named i) ≡ symbol (name_with i)
unfolding common_monomial
common-named i small = ap (λ es. mono (λ k. least_exp k es)) (terms-name (name_with i)) ∙ mono-exp (symbol (name_with i))

pub named_base : (i : ℕ) → i < 6 → IsBase (named i)
named_base i small = record {
  not_constant =
      let high : degree (named i) ≡ total (symbol (name_with i)) = unfold degree in ap degree_of (terms-name (name_with i)) in
      let one : exp (symbol (name_with i)) i ≡ 1 = exp-named i i small small ∙ ap (λ b. cond b 1 0) (eq-eqb i i refl) in
      let low = total_some (symbol (name_with i)) i small in
      omega arith;
  primitive = sym (content_only (named i) 1
      (subst (λ es. IsContentOf es 1) (sym (terms-name (name_with i))) (λ d. (λ divides. (divides, tt), λ all. all.0))));
  positive = unfold is_negative in ap leads_below_zero (terms-name (name_with i));
}

abbrev first_monomial : List (Mono × ℤ) → Mono
first_monomial [] = unit
first_monomial (e ∷ es) = e.0

symbol_of_name : (i j : Name) → name i ≡ name j → symbol i ≡ symbol j
symbol_of_name i j same = ap first_monomial (sym (terms-name i) ∙ ap (λ p. p.terms) same ∙ terms-name j)

pub names_differ : (i j : ℕ) → i < j → j < 6 → named i ≢ named j
names_differ i j less small same =
    let low : i < 6 = omega arith in
    let one : exp (symbol (name_with i)) i ≡ 1 = exp-named i i low low ∙ ap (λ b. cond b 1 0) (eq-eqb i i refl) in
    let none : exp (symbol (name_with j)) i ≡ 0 = exp-named j i small low ∙ other in
    let both : exp (symbol (name_with i)) i ≡ exp (symbol (name_with j)) i = ap (λ m. exp m i) (symbol_of_name (name_with i) (name_with j) same) in
    omega arith
  where
    other : number_if (eqb i j) 1 0 ≡ 0
    other = by (eqb i j) refl
      where
        by : (b : Bool) → eqb i j ≡ b → number_if b 1 0 ≡ 0
        by true told = absurd (let same : i ≡ j = eqb-true i j told in omega arith)
        by false told = refl

-- no monomial divides a polynomial that a name is, but the name
pub name_divides : (i : ℕ) → i < 6 → (p : Polynomial) → common_monomial p ≡ unit → p ≢ named i
name_divides i small p none same =
    let one : exp (symbol (name_with i)) i ≡ 1 = exp-named i i small small ∙ ap (λ b. cond b 1 0) (eq-eqb i i refl) in
    let same_monomial : unit ≡ symbol (name_with i) = sym none ∙ ap common_monomial same ∙ common-named i small in
    let zero_one : exp unit i ≡ exp (symbol (name_with i)) i = ap (λ m. exp m i) same_monomial in
    let none_there = exp-unit i small in
    omega arith

-- ---- the list

-- the exponents are within the limit
abbrev pub IsBounded : Mono → Type 0
IsBounded m = (i : ℕ) → i < 6 → exp m i ≤ largest_degree

pub differs_from_names :
    (p : Polynomial) (left i : ℕ) (m : Mono) → left + i ≡ 6 → ((j : ℕ) → i ≤ j → j < 6 → p ≢ named j) →
    DiffersFrom p (names_from left i m)
differs_from_names p zero i m all other = tt
differs_from_names p (suc left) i m all other =
    by (exp m i) (differs_from_names p left (i + 1) m (omega arith) (λ j high small. other j (omega arith) small))
  where
    by : (e : ℕ) → DiffersFrom p (names_from left (i + 1) m) → DiffersFrom p (with_exponent (named i) e (names_from left (i + 1) m))
    by zero more = more
    by (suc e) more = (other i (omega arith) (omega arith), more)

pub names_different :
    (left i : ℕ) (m : Mono) → left + i ≡ 6 → IsBounded m → AreDifferent (names_from left i m)
names_different zero i m all bounded = tt
names_different (suc left) i m all bounded =
    by (exp m i) (bounded i (omega arith)) (names_different left (i + 1) m (omega arith) bounded)
    (differs_from_names (named i) left (i + 1) m (omega arith) (λ j high small. names_differ i j (omega arith) small))
  where
    by : (e : ℕ) → e ≤ largest_degree → AreDifferent (names_from left (i + 1) m) → DiffersFrom (named i) (names_from left (i + 1) m)
        → AreDifferent (with_exponent (named i) e (names_from left (i + 1) m))
    by zero few more differs = more
    by (suc e) few more differs = (record { base = named_base i (omega arith); some = omega arith; few = few }, (differs, more))

-- ---- the product

-- the monomial with the exponents of the names from i on alone
abbrev pub from_name : ℕ → Mono → Mono
from_name i m = mono (λ k. cond (ltb k i) 0 (exp m k))

abbrev only : ℕ → ℕ → Mono
only i e = mono (λ k. cond (eqb k i) e 0)

power-named : (i e : ℕ) → i < 6 → power (named i) e ≡ term (only i e) (pos 1)
unfolding times
power-named i zero small =
    one_is ∙ number_is (pos 1)
    ∙ ap (λ m. term m (pos 1)) (same_mono unit (only i 0) (λ k low. exp-unit k low ∙ sym (exp-mono (λ k. cond (eqb k i) 0 0) k low ∙ none k)))
  where
    none : (k : ℕ) → number_if (eqb k i) 0 0 ≡ 0
    none k = by (eqb k i)
      where
        by : (b : Bool) → number_if b 0 0 ≡ 0
        by true = refl
        by false = refl
power-named i (suc e) small =
    ap₂ polys.◌*◌ (name_is (name_with i)) (power-named i e small)
    ∙ term-* (symbol (name_with i)) (only i e) (pos 1) (pos 1)
    ∙ ap (λ m. term m (pos 1)) (same_mono (symbol (name_with i) · only i e) (only i (suc e)) exps)
  where
    exps : (k : ℕ) → k < 6 → exp (symbol (name_with i) · only i e) k ≡ exp (only i (suc e)) k
    exps k low =
        exp-· (symbol (name_with i)) (only i e) k low
        ∙ ap₂ ◌+◌ (exp-named i k small low) (exp-mono (λ k. cond (eqb k i) e 0) k low)
        ∙ by (eqb k i) ∙ sym (exp-mono (λ k. cond (eqb k i) (suc e) 0) k low)
      where
        by : (b : Bool) → number_if b 1 0 + number_if b e 0 ≡ number_if b (suc e) 0
        by true = omega arith
        by false = omega arith

pub product_of_factors-names_from :
    (left i : ℕ) (m : Mono) → left + i ≡ 6 → product_of_factors (names_from left i m) ≡ term (from_name i m) (pos 1)
unfolding times
product_of_factors-names_from zero i m all =
    one_is ∙ number_is (pos 1)
    ∙ ap (λ n. term n (pos 1))
    (same_mono unit (from_name i m) (λ k low. exp-unit k low ∙ sym (exp-mono (λ k. cond (ltb k i) 0 (exp m k)) k low ∙ past k low)))
  where
    past : (k : ℕ) → k < 6 → cond (ltb k i) 0 (exp m k) ≡ 0
    past k low = ap (λ b. cond b 0 (exp m k)) (lt-ltb k i (omega arith))
product_of_factors-names_from (suc left) i m all =
    product_of_factors-with_exponent (named i) (exp m i) (names_from left (i + 1) m)
    ∙ ap₂ polys.◌*◌ (power-named i (exp m i) (omega arith)) (product_of_factors-names_from left (i + 1) m (omega arith))
    ∙ term-* (only i (exp m i)) (from_name (i + 1) m) (pos 1) (pos 1)
    ∙ ap (λ n. term n (pos 1)) (same_mono (only i (exp m i) · from_name (i + 1) m) (from_name i m) exps)
  where
    exps : (k : ℕ) → k < 6 → exp (only i (exp m i) · from_name (i + 1) m) k ≡ exp (from_name i m) k
    exps k low =
        exp-· (only i (exp m i)) (from_name (i + 1) m) k low
        ∙ ap₂ ◌+◌ (exp-mono (λ k. cond (eqb k i) (exp m i) 0) k low) (exp-mono (λ k. cond (ltb k (i + 1)) 0 (exp m k)) k low)
        ∙ by (cases_order k i) ∙ sym (exp-mono (λ k. cond (ltb k i) 0 (exp m k)) k low)
      where
        told :
            (s t u : Bool) → eqb k i ≡ s → ltb k (i + 1) ≡ t → ltb k i ≡ u →
            cond s (exp m i) 0 + cond t 0 (exp m k) ≡ cond u 0 (exp m k) →
            cond (eqb k i) (exp m i) 0 + cond (ltb k (i + 1)) 0 (exp m k) ≡ cond (ltb k i) 0 (exp m k)
        told s t u same next less sums =
            ap₂ (λ b c. cond b (exp m i) 0 + cond c 0 (exp m k)) same next ∙ sums ∙ sym (ap (λ b. cond b 0 (exp m k)) less)

        by : (k ≡ i) ⊎ ((k < i) ⊎ (i < k)) → cond (eqb k i) (exp m i) 0 + cond (ltb k (i + 1)) 0 (exp m k) ≡ cond (ltb k i) 0 (exp m k)
        by (inl same) =
            told true true false (eq-eqb k i same) (lt-ltb k (i + 1) (omega arith)) (le-ltb k i (omega arith)) (omega (arith, ap (exp m) same))
        by (inr (inl less)) =
            told false true true (ne_eqb k i (λ same. omega arith)) (lt-ltb k (i + 1) (omega arith)) (lt-ltb k i less) (omega arith)
        by (inr (inr more)) =
            told false false false (ne_eqb k i (λ same. omega arith)) (le-ltb k (i + 1) (omega arith)) (le-ltb k i (omega arith)) (omega arith)

pub product_of_factors-names : (m : Mono) → product_of_factors (names_from 6 0 m) ≡ term m (pos 1)
product_of_factors-names m =
    product_of_factors-names_from 6 0 m refl
    ∙ ap (λ n. term n (pos 1))
    (same_mono (from_name 0 m) m (λ k low. exp-mono (λ k. cond (ltb k 0) 0 (exp m k)) k low
    ∙ ap (λ b. cond b 0 (exp m k)) (le-ltb k 0 (omega arith))))
