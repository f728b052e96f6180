-- What is within the limits and has the names of the list is as the grammar wants it. Main lemmas `entries_fit` and
-- `operator_entries_fit`: exponents are at most the degree, and numbers at most the norm.
use Rattle.ct_answer.proofs.Base.{◌≡◌, ◌≢◌, ℕ, zero, suc, ◌<◌, ◌≤◌, Bool, true, false, cond, T, ℤ, pos, negsuc, nat_abs, List, [], ◌∷◌, length, Some}
use Rattle.ct_answer.proofs.Base.{refl, ◌∙◌, subst, arith, map, nat_lt, rules, tests, slice_get, unsigned_abs, sum_by-cons, false≢true, Mono}
use Rattle.ct_answer.proofs.Base.{monomials, exp, total, Name, place, name_with, has_none, EachTerm, IsCanonical, Polynomial, polys, norm, norm_of}
use Rattle.ct_answer.proofs.Base.{degree, degree_greatest, Operator, int_group, largest_degree, largest_norm, place-name_with, Naming, actions_of}
use Rattle.ct_answer.proofs.Base.{entries_norm, greatest, term_norm, coefficient_degree, order_of, Each}
use Rattle.ct_algebra.specs.FreeOf.{IsWithout}
use Rattle.ct_ore.proofs.PairMeasureLaws.{exp-le-total, known_action, no_action}
use Rattle.ct_answer.specs.declared.factors.Power.{Power}
use Rattle.ct_answer.specs.Text.{naming_at, power_at, powers_in, names_in, symbols_in}
use Rattle.ct_answer.specs.ReadBack.{IsNamed, PolynomialFits, OperatorFits}
use Rattle.ct_answer.proofs.SpelledPowers.{PowerFits, Each-append}
use Rattle.ct_answer.proofs.SpelledSums.{EntryFits}
use Rattle.ct_answer.proofs.SpelledOperators.{OperatorEntryFits}
use Rattle.ct_algebra.specs.Actions as actions

-- ---- the powers in a monomial

abbrev power : Bool → ℕ → ℕ → Power
power is_symbol k exponent = record { is_symbol = is_symbol; name = k; exponent = exponent }

module _ (names : List Naming) (operators is_symbol : Bool) (m : Mono) where
  powers_fit : (n : ℕ) → n ≤ 6 → ((k : ℕ) → k < 6 → 0 < exp m k → PowerFits names operators (power is_symbol k (exp m k)))
      → Each (PowerFits names operators) (powers_in is_symbol n m)
  powers_fit zero le each = tt
  powers_fit (suc n) le each =
      Each-append (PowerFits names operators) (powers_in is_symbol n m) (power_at is_symbol n (exp m n)) (powers_fit n (omega arith) each)
      (by (exp m n) refl)
    where
      by : (e : ℕ) → exp m n ≡ e → Each (PowerFits names operators) (power_at is_symbol n e)
      by zero is = tt
      by (suc e) is = (subst (λ (x : ℕ). PowerFits names operators (power is_symbol n x)) is (each n (omega arith) (omega (arith, is))), tt)

-- ---- names

within_list : (names : List Naming) (k : ℕ) → (length names ≤ k → ⊥) → k < length names
within_list names k none = by (nat_lt k (length names)) refl
  where
    by : (t : Bool) → nat_lt k (length names) ≡ t → k < length names
    by true e = first_of (search (rules, tests), grind (arith, tests))
    by false e =
        let past : length names ≤ k = first_of (search (rules, tests), grind (arith, tests)) in
        absurd (none past)

-- the name of a power in a polynomial is of the list
named_at : (names : List Naming) (m : Mono) (k : ℕ) → ((j : Name) → length names ≤ place j → IsWithout j m) → k < 6 → 0 < exp m k → k < length names
named_at names m k named small some =
    let same = place-name_with k small in
    within_list names k (λ past.
    let none : exp m (place (name_with k)) ≡ 0 = named (name_with k) (omega (arith, past, same)) in
    let here : exp m k ≡ 0 = subst (λ (i : ℕ). exp m i ≡ 0) same none in
    omega (arith, here, some))

-- the name of a symbol has an operator
moves_at : (names : List Naming) (m : Mono) (k : ℕ) → ((i : Name) → actions_of names i ≡ actions.Still → IsWithout i m) → k < 6 → 0 < exp m k →
    actions_of names (name_with k) ≢ actions.Still
moves_at names m k acting small some still =
    let same = place-name_with k small in
    let none : exp m (place (name_with k)) ≡ 0 = acting (name_with k) still in
    let here : exp m k ≡ 0 = subst (λ (i : ℕ). exp m i ≡ 0) same none in
    omega (arith, here, some)

slice_get-naming_at : (names : List Naming) (k : ℕ) → k < length names → slice_get names k ≡ Some (naming_at names k)
slice_get-naming_at [] k within = absurd (omega arith)
slice_get-naming_at (n ∷ ns) zero within = refl
slice_get-naming_at (n ∷ ns) (suc k) within = slice_get-naming_at ns k (omega arith)

names_fit : (names : List Naming) (operators : Bool) (m : Mono) → total m ≤ largest_degree → ((j : Name) → length names ≤ place j → IsWithout j m) →
    Each (PowerFits names operators) (names_in m)
names_fit names operators m low named =
    powers_fit names operators false m 6 (omega arith) (λ k small some. record {
      named = named_at names m k named small some;
      acting = λ is. absurd (false≢true is);
      low = omega (arith, exp-le-total m k small, low);
    })

symbols_fit : (names : List Naming) (m : Mono) → total m ≤ largest_degree → ((i : Name) → actions_of names i ≡ actions.Still → IsWithout i m) →
    Each (PowerFits names true) (symbols_in m)
symbols_fit names m low acting =
    powers_fit names true true m 6 (omega arith) (λ k small some.
    let moves = moves_at names m k acting small some in
    let within : k < length names = within_list names k (λ past. moves (no_action names k small past)) in
    let action = known_action names (naming_at names k) k small (slice_get-naming_at names k within) in
    record {
      named = within;
      acting = λ is. (refl, λ still. moves (action ∙ still));
      low = omega (arith, exp-le-total m k small, low);
    })

-- ---- polynomials

abs_is : (z : ℤ) → unsigned_abs z ≡ nat_abs z
abs_is (pos n) = refl
abs_is (negsuc n) = refl

list_fits : (names : List Naming) (operators : Bool) (es : List (Mono × ℤ)) → EachTerm (λ m c. total m ≤ largest_degree) es
    → ((j : Name) → length names ≤ place j → EachTerm (λ m c. IsWithout j m) es) → norm_of es ≤ largest_norm → Each (EntryFits names operators) es
list_fits names operators [] low named small = tt
list_fits names operators (e ∷ es) low named small =
    let sum = sum_by-cons (λ (d : Mono × ℤ). nat_abs d.1) e es in (
      record { small = omega (arith, abs_is e.1, sum, small); powers = names_fit names operators e.0 low.0 (λ j past. (named j past).0) },
      list_fits names operators es low.1 (λ j past. (named j past).1) (omega (arith, sum, small)),
    )

pub lower : (p : Polynomial) (n : ℕ) → degree p ≤ n → (es : List (Mono × ℤ)) → EachTerm (λ m c. total m ≤ degree p) es →
    EachTerm (λ m c. total m ≤ n) es
lower p n le [] each = tt
lower p n le (e ∷ es) each = let first = each.0 in (omega (arith, first, le), lower p n le es each.1)

polynomial_entries_fit : (names : List Naming) (operators : Bool) (p : Polynomial) → degree p ≤ largest_degree → IsNamed names p →
    norm p ≤ largest_norm → Each (EntryFits names operators) p.terms
unfolding norm
polynomial_entries_fit names operators p low named small =
    list_fits names operators p.terms (lower p largest_degree low p.terms (degree_greatest p)) named small

pub entries_fit : (names : List Naming) (operators : Bool) (p : Polynomial) → PolynomialFits names p → Each (EntryFits names operators) p.terms
entries_fit names operators p fits = polynomial_entries_fit names operators p fits.low fits.named fits.small

-- ---- operators

pub some_terms : (c : Polynomial) → T (cond (polys.group.is_zero c) false true) → 0 < length c.terms
some_terms c some = by c.terms some
  where
    by : (es : List (Mono × ℤ)) → T (cond (has_none monomials int_group es) false true) → 0 < length es
    by [] some = absurd some
    by (e ∷ es) some = omega arith

operator_list_fits : (names : List Naming) (es : List (Mono × Polynomial)) → IsCanonical monomials polys.group es
    → entries_norm es ≤ largest_norm → greatest (map (λ e. degree e.1) es) ≤ largest_degree → greatest (map (λ e. total e.0) es) ≤ largest_degree
    → EachTerm (λ m c. IsNamed names c) es → EachTerm (λ m c. (i : Name) → actions_of names i ≡ actions.Still → IsWithout i m) es
    → Each (OperatorEntryFits names) es
unfolding norm
operator_list_fits names [] canonical small low low_order named acting = tt
operator_list_fits names (e ∷ es) canonical small low low_order named acting =
    let sum = sum_by-cons (λ (d : Mono × Polynomial). norm d.1) e es in (
      record {
        some = some_terms e.1 canonical.0;
        entries = polynomial_entries_fit names true e.1 (omega (arith, low)) named.0 (omega (arith, sum, small));
        symbols = symbols_fit names e.0 (omega (arith, low_order)) acting.0;
      },
      operator_list_fits names es canonical.2 (omega (arith, sum, small)) (omega (arith, low)) (omega (arith, low_order)) named.1 acting.1,
    )

pub operator_entries_fit : (names : List Naming) (p : Operator) → OperatorFits names p → Each (OperatorEntryFits names) p.terms
unfolding term_norm coefficient_degree order_of
operator_entries_fit names p fits = operator_list_fits names p.terms p.canonical fits.small fits.low fits.low_order fits.named fits.acting
