-- What symbols of one name make of a list of coefficient terms: main lemma `raised-value`.
-- A derivation goes from row to row symbol by symbol, by Pascal's rule; a shift has the rows of ShiftRows.
use Rattle.ct_ore.proofs.Base.{◌≡◌, refl, ℕ, zero, suc, ◌+◌, ◌-◌, ◌*◌, ◌<◌, ◌≤◌, ℤ, pos, ◌*ℤ◌, List, sym, ◌∙◌, ap, ap₂, arith, zero-mul, Group, IsHom}
use Rattle.ct_ore.proofs.Base.{zero_add, sum_below-same, hom-sum_below, sum_below, Mono, exp, Name, place, place_small, times_over, Polynomial, polys}
use Rattle.ct_ore.proofs.Base.{P, term, term-sum, times_one, Action, Shift, Derive, Still, sigma_by, delta_by, Operator, operator_group, term_of}
use Rattle.ct_ore.proofs.Base.{symbol_before, sums_are, none_is, term_of_hom, term_of-zero, operator_module, symbol_before-term_of, with_exponent}
use Rattle.ct_ore.proofs.Base.{exp-with_exponent_same}
use Rattle.ct_algebra.specs.Derivative.{derived-term, power_at_is}
use Rattle.ct_ore.specs.declared.coefficient_term.CoefficientTerm.{CoefficientTerm}
use Rattle.ct_ore.specs.CoefficientTerms.{sum_of_parts}
use Rattle.ct_ore.specs.Kinds.{choose, falling_power, how_many}
use Rattle.ct_ore.specs.PairTerms.{raised_term, raised, lowered_term}
use Rattle.ct_ore.proofs.ChangedExponents.{with_same, symbol-with, lower-with}
use Rattle.ct_ore.proofs.PairWeightLaws.{choose-past, shift_few, shift_ways-past, derived_ways-past}
use Rattle.ct_ore.proofs.PartSums.{value_of, sum_of_parts-listed, sum_of_parts-each, number_step, sum_below-trimmed, pascal}
use Rattle.ct_ore.proofs.ShiftRows.{none_of_them, shifts, shift_number, shift_term, shifts-power}

abbrev G : Group Operator
G = operator_group

-- ---- symbols before a term

module _ (a : Name → Action) (i : Name) where
  pub before_hom : IsHom G G (symbol_before a i)
  unfolding symbol_before
  before_hom = record { sums = (operator_module a).D_sum i }

  pub over_hom : (k : ℕ) → IsHom G G (times_over k (symbol_before a i))
  over_hom zero = record { sums = λ p q. refl }
  over_hom (suc k) = record { sums = λ p q. ap (symbol_before a i) ((over_hom k).sums p q) ∙ before_hom.sums _ _ }

  abbrev with_symbols : ℕ → Mono → Mono
  with_symbols s m = with_exponent (place i) s m

  before-term :
      (s : ℕ) (m : Mono) (p : Polynomial) →
      symbol_before a i (term_of (with_symbols s m) p) ≡
      G.◌+◌ (term_of (with_symbols (suc s) m) (sigma_by (a i) i p)) (term_of (with_symbols s m) (delta_by (a i) i p))
  before-term s m p =
      symbol_before-term_of a i (with_symbols s m) p ∙ sums_are _ _
      ∙ ap (λ w. G.◌+◌ (term_of w (sigma_by (a i) i p)) (term_of (with_symbols s m) (delta_by (a i) i p))) (symbol-with i s m)

  -- a name whose δ is zero
  over-term :
      ((p : Polynomial) → delta_by (a i) i p ≡ polys.zero) → (k : ℕ) (m : Mono) (p : Polynomial) →
      times_over k (symbol_before a i) (term_of m p) ≡
      term_of (with_symbols (exp m (place i) + k) m) (times_over k (λ q. sigma_by (a i) i q) p)
  over-term none zero m p =
      let same : exp m (place i) ≡ exp m (place i) + 0 = omega arith in
      ap (λ w. term_of w p) (sym (with_same (place i) m) ∙ ap (λ s. with_symbols s m) same)
  over-term none (suc k) m p =
      let more : suc (exp m (place i) + k) ≡ exp m (place i) + suc k = omega arith in
      ap (symbol_before a i) (over-term none k m p) ∙ before-term (exp m (place i) + k) m _
      ∙ ap₂ G.◌+◌ (ap (λ s. term_of (with_symbols s m) (times_over (suc k) (λ q. sigma_by (a i) i q) p)) more)
      (ap (term_of _) (none _) ∙ term_of-zero _ ∙ none_is)
      ∙ G.add_zero _

  before-derived :
      a i ≡ Derive → (s f : ℕ) (m n : Mono) (x : ℤ) →
      symbol_before a i (term_of (with_symbols s m) (term (with_symbols f n) x)) ≡
      G.◌+◌ (term_of (with_symbols (suc s) m) (term (with_symbols f n) x))
      (term_of (with_symbols s m) (term (with_symbols (f - 1) n) (x *ℤ pos f)))
  before-derived acts s f m n x =
      before-term s m _
      ∙ ap (λ t. G.◌+◌ (term_of (with_symbols (suc s) m) (sigma_by t i (term (with_symbols f n) x)))
      (term_of (with_symbols s m) (delta_by t i (term (with_symbols f n) x)))) acts
      ∙ ap (λ p. G.◌+◌ (term_of (with_symbols (suc s) m) (term (with_symbols f n) x)) (term_of (with_symbols s m) p))
      (derived-term i (with_symbols f n) x
      ∙ ap₂ term (lower-with i f n)
      (ap (λ z. x *ℤ z) (power_at_is i (with_symbols f n) ∙ ap pos (exp-with_exponent_same (place i) f n (place_small i)))))

  -- the numbers of the sum of Leibniz, and its monomials
  abbrev derived_number : ℕ → ℕ → ℤ → ℕ → ℤ
  derived_number k e c j = c *ℤ pos (choose k j * falling_power e j)

  abbrev derived_term : ℕ → Mono → Mono → ℕ → ℤ → Operator
  derived_term k m n j x = term_of (with_symbols (exp m (place i) + (k - j)) m) (term (with_symbols (exp n (place i) - j) n) x)

  symbol_before-derived_term :
      a i ≡ Derive → (k : ℕ) (m n : Mono) (x : ℤ) (j : ℕ) → j < suc k →
      symbol_before a i (derived_term k m n j x) ≡
      G.◌+◌ (derived_term (suc k) m n j x) (derived_term (suc k) m n (suc j) (x *ℤ pos (exp n (place i) - j)))
  symbol_before-derived_term acts k m n x j small =
      let more : suc (exp m (place i) + (k - j)) ≡ exp m (place i) + (suc k - j) = omega arith in
      let left : exp m (place i) + (k - j) ≡ exp m (place i) + (suc k - suc j) = omega arith in
      let lowered : (exp n (place i) - j) - 1 ≡ exp n (place i) - suc j = omega arith in
      before-derived acts (exp m (place i) + (k - j)) (exp n (place i) - j) m n x
      ∙ ap₂ G.◌+◌ (ap (λ s. term_of (with_symbols s m) (term (with_symbols (exp n (place i) - j) n) x)) more)
      (ap₂ (λ s f. term_of (with_symbols s m) (term (with_symbols f n) (x *ℤ pos (exp n (place i) - j)))) left lowered)

  derived-power :
      a i ≡ Derive → (k : ℕ) (m n : Mono) (c : ℤ) →
      times_over k (symbol_before a i) (term_of m (term n c)) ≡
      sum_below G (suc k) (λ j. derived_term k m n j (derived_number k (exp n (place i)) c j))
  derived-power acts zero m n c =
      let same : exp m (place i) ≡ exp m (place i) + (0 - 0) = omega arith in
      let power : exp n (place i) ≡ exp n (place i) - 0 = omega arith in
      ap₂ (λ u v. term_of u (term v c)) (sym (with_same (place i) m) ∙ ap (λ s. with_symbols s m) same)
      (sym (with_same (place i) n) ∙ ap (λ s. with_symbols s n) power)
      ∙ ap (λ x. derived_term 0 m n 0 x) (sym (times_one c))
      ∙ sym (zero_add G _)
  derived-power acts (suc k) m n c =
      ap (symbol_before a i) (derived-power acts k m n c) ∙ hom-sum_below before_hom (suc k) _
      ∙ sum_below-same G (suc k) _ _ (λ j small. symbol_before-derived_term acts k m n (derived_number k (exp n (place i)) c j) j small)
      ∙ pascal G (derived_term (suc k) m n) (λ j x y. ap (term_of _) (term-sum _ x y) ∙ (term_of_hom _).sums _ _)
      (derived_number k (exp n (place i)) c) (λ j. derived_number k (exp n (place i)) c j *ℤ pos (exp n (place i) - j))
      (derived_number (suc k) (exp n (place i)) c) refl
      (λ j. number_step c (choose k j) (choose k (suc j)) (falling_power (exp n (place i)) j) (exp n (place i) - j)) (suc k)
      (ap (term_of _) (none_of_them _ c _ (ap (λ x. x * falling_power (exp n (place i)) (suc k)) (choose-past k (suc k) (omega arith)) ∙ zero-mul _))
      ∙ term_of-zero _ ∙ none_is)

  -- ---- the three actions

  still : (k : ℕ) (p : Polynomial) → times_over k (λ q. q) p ≡ p
  still zero p = refl
  still (suc k) p = still k p

  term-value :
      (t : Action) → a i ≡ t → (k : ℕ) (u : CoefficientTerm) →
      sum_of_parts (raised_term t (place i) k u) ≡ times_over k (symbol_before a i) (value_of u)
  term-value Shift acts k u =
      sum_of_parts-listed (how_many Shift k (exp u.names (place i))) (lowered_term Shift (place i) k u)
      ∙ sym (hom-sum_below (term_of_hom (with_symbols (exp u.symbols (place i) + k) u.symbols)) (how_many Shift k (exp u.names (place i)))
      (λ j. shift_term i (exp u.names (place i)) u.names j (shift_number i k (exp u.names (place i)) u.number j)))
      ∙ ap (term_of (with_symbols (exp u.symbols (place i) + k) u.symbols))
      (sym (sum_below-trimmed P (how_many Shift k (exp u.names (place i))) (suc (exp u.names (place i))) _ (shift_few k (exp u.names (place i)))
      (λ j past. none_of_them _ u.number _ (shift_ways-past k (exp u.names (place i)) j past)))
      ∙ sym (shifts-power i k (exp u.names (place i)) u.names u.number)
      ∙ ap (λ n. shifts i k (term n u.number)) (with_same (place i) u.names)
      ∙ ap (λ t. times_over k (λ q. sigma_by t i q) (term u.names u.number)) (sym acts))
      ∙ sym (over-term (λ p. ap (λ t. delta_by t i p) acts) k u.symbols (term u.names u.number))
  term-value Derive acts k u =
      let few : how_many Derive k (exp u.names (place i)) ≤ suc k = omega arith in
      sum_of_parts-listed (how_many Derive k (exp u.names (place i))) (lowered_term Derive (place i) k u)
      ∙ sym (sum_below-trimmed G (how_many Derive k (exp u.names (place i))) (suc k) _ few
      (λ j past. ap (term_of _) (none_of_them _ u.number _ (derived_ways-past k (exp u.names (place i)) j past)) ∙ term_of-zero _ ∙ none_is))
      ∙ sym (derived-power acts k u.symbols u.names u.number)
  term-value Still acts k u =
      let power : exp u.names (place i) - 0 ≡ exp u.names (place i) = omega arith in
      sum_of_parts-listed 1 (lowered_term Still (place i) k u) ∙ zero_add G _
      ∙ ap₂ (λ n x. term_of (with_symbols (exp u.symbols (place i) + k) u.symbols) (term n x))
      (ap (λ e. with_symbols e u.names) power ∙ with_same (place i) u.names) (times_one u.number)
      ∙ sym (over-term (λ p. ap (λ t. delta_by t i p) acts) k u.symbols (term u.names u.number)
      ∙ ap (term_of _) (ap (λ t. times_over k (λ q. sigma_by t i q) (term u.names u.number)) acts ∙ still k _))

  -- k symbols before a list of terms
  pub raised-value :
      (k : ℕ) (ts : List CoefficientTerm) →
      sum_of_parts (raised (a i) (place i) k ts) ≡ times_over k (symbol_before a i) (sum_of_parts ts)
  raised-value k ts =
      sum_of_parts-each (times_over k (symbol_before a i)) (over_hom k) (raised_term (a i) (place i) k) (term-value (a i) refl k) ts
