-- Which kind the rules of overflow name, from the measures of the operands: one lemma for each way out of a test in code.
-- Main lemmas `sum_fits` and `product_fits`, and with them `sum_fits_only` and `product_fits_only`: no rule is broken
-- exactly where the measures are within the limits. Each is read off the definition, by the truth of its tests.
use Rattle.ct_poly.proofs.Base.{◌≡◌, refl, ℕ, ◌+◌, ◌*◌, ◌≤◌, ◌<◌, Bool, true, false, ltb, cond, sym, ◌∙◌, ap, arith, Some, None, Option, ltb-false}
use Rattle.ct_poly.proofs.Base.{eq-eqb, ne_eqb, Name, Polynomial, count, norm, degree, largest_degree, most_terms, largest_norm, Kind, Degree, Terms}
use Rattle.ct_poly.proofs.Base.{Number}
use Rattle.std.proofs.Common.{lt-ltb, le-ltb}
use Rattle.ct_poly.specs.Measures.{broken, sum_overflow, product_overflow, shift_overflow, derivative_overflow, shift_count, shift_norm}
use Rattle.ct_poly.specs.Measures.{derivative_norm}

-- ---- one rule

pub is_broken : (b : Bool) (kind : Kind) (later : Option Kind) → b ≡ true → broken b kind later ≡ Some kind
is_broken b kind later e = ap (λ w. broken w kind later) e

pub is_kept : (b : Bool) (kind : Kind) (later : Option Kind) → b ≡ false → broken b kind later ≡ later
is_kept b kind later e = ap (λ w. broken w kind later) e

-- ---- sums

pub sum_too_many : (p q : Polynomial) → most_terms < count p + count q → sum_overflow p q ≡ Some Terms
unfolding sum_overflow
sum_too_many p q many = is_broken _ Terms _ (lt-ltb _ _ many)

pub sum_too_large :
    (p q : Polynomial) → count p + count q ≤ most_terms → largest_norm < norm p + norm q → sum_overflow p q ≡ Some Number
unfolding sum_overflow
sum_too_large p q few large = is_kept _ Terms _ (le-ltb _ _ few) ∙ is_broken _ Number _ (lt-ltb _ _ large)

pub sum_fits :
    (p q : Polynomial) → count p + count q ≤ most_terms → norm p + norm q ≤ largest_norm → sum_overflow p q ≡ None
unfolding sum_overflow
sum_fits p q few small = is_kept _ Terms _ (le-ltb _ _ few) ∙ is_kept _ Number _ (le-ltb _ _ small)

-- the measures of two operands leave room for their sum
pub record SumFits (p q : Polynomial) : Type 0 where
  pub few : count p + count q ≤ most_terms
  pub small : norm p + norm q ≤ largest_norm

pub sum_fits_only : (p q : Polynomial) → sum_overflow p q ≡ None → SumFits p q
unfolding sum_overflow
sum_fits_only p q none = by (ltb most_terms (count p + count q)) (ltb largest_norm (norm p + norm q)) refl refl none
  where
    by : (b d : Bool) → ltb most_terms (count p + count q) ≡ b → ltb largest_norm (norm p + norm q) ≡ d
        → broken b Terms (broken d Number None) ≡ None → SumFits p q
    by true d many large fits = cc
    by false true many large fits = cc
    by false false many large fits = record { few = ltb-false _ _ many; small = ltb-false _ _ large }

-- ---- products

-- the rules of a product whose operands are not zero
abbrev pub later_rules : Polynomial → Polynomial → Option Kind
later_rules p q =
    broken (ltb largest_degree (degree p + degree q)) Degree
    (broken (ltb most_terms (count p * count q)) Terms (broken (ltb largest_norm (norm p * norm q)) Number None))

pub product_with_zero : (p q : Polynomial) → count p * count q ≡ 0 → product_overflow p q ≡ None
unfolding product_overflow
product_with_zero p q none = ap (λ b. cond b None (later_rules p q)) (eq-eqb _ _ none)

product_nonzero : (p q : Polynomial) → 0 < count p * count q → product_overflow p q ≡ later_rules p q
unfolding product_overflow
product_nonzero p q some = ap (λ b. cond b None (later_rules p q)) (ne_eqb _ _ (omega arith))

pub product_too_high :
    (p q : Polynomial) → 0 < count p * count q → largest_degree < degree p + degree q → product_overflow p q ≡ Some Degree
product_too_high p q some high = product_nonzero p q some ∙ is_broken _ Degree _ (lt-ltb _ _ high)

pub product_too_many :
    (p q : Polynomial) → 0 < count p * count q → degree p + degree q ≤ largest_degree → most_terms < count p * count q →
    product_overflow p q ≡ Some Terms
product_too_many p q some low many =
    product_nonzero p q some ∙ is_kept _ Degree _ (le-ltb _ _ low) ∙ is_broken _ Terms _ (lt-ltb _ _ many)

pub product_too_large :
    (p q : Polynomial) → 0 < count p * count q → degree p + degree q ≤ largest_degree → count p * count q ≤ most_terms →
    largest_norm < norm p * norm q → product_overflow p q ≡ Some Number
product_too_large p q some low few large =
    product_nonzero p q some ∙ is_kept _ Degree _ (le-ltb _ _ low) ∙ is_kept _ Terms _ (le-ltb _ _ few)
    ∙ is_broken _ Number _ (lt-ltb _ _ large)

pub product_fits :
    (p q : Polynomial) → 0 < count p * count q → degree p + degree q ≤ largest_degree → count p * count q ≤ most_terms →
    norm p * norm q ≤ largest_norm → product_overflow p q ≡ None
product_fits p q some low few small =
    product_nonzero p q some ∙ is_kept _ Degree _ (le-ltb _ _ low) ∙ is_kept _ Terms _ (le-ltb _ _ few)
    ∙ is_kept _ Number _ (le-ltb _ _ small)

-- the measures of two operands that are not zero leave room for their product
pub record ProductFits (p q : Polynomial) : Type 0 where
  pub low : degree p + degree q ≤ largest_degree
  pub few : count p * count q ≤ most_terms
  pub small : norm p * norm q ≤ largest_norm

pub product_fits_only : (p q : Polynomial) → 0 < count p * count q → product_overflow p q ≡ None → ProductFits p q
product_fits_only p q some none =
    by (ltb largest_degree (degree p + degree q)) (ltb most_terms (count p * count q)) (ltb largest_norm (norm p * norm q)) refl refl refl
    (sym (product_nonzero p q some) ∙ none)
  where
    by : (a b d : Bool) → ltb largest_degree (degree p + degree q) ≡ a → ltb most_terms (count p * count q) ≡ b
        → ltb largest_norm (norm p * norm q) ≡ d → broken a Degree (broken b Terms (broken d Number None)) ≡ None → ProductFits p q
    by true b d high many large fits = cc
    by false true d high many large fits = cc
    by false false true high many large fits = cc
    by false false false high many large fits = record { low = ltb-false _ _ high; few = ltb-false _ _ many; small = ltb-false _ _ large }

-- ---- derivatives

pub derivative_too_large : (i : Name) (p : Polynomial) → largest_norm < derivative_norm i p → derivative_overflow i p ≡ Some Number
unfolding derivative_overflow
derivative_too_large i p large = is_broken _ Number _ (lt-ltb _ _ large)

pub derivative_fits : (i : Name) (p : Polynomial) → derivative_norm i p ≤ largest_norm → derivative_overflow i p ≡ None
unfolding derivative_overflow
derivative_fits i p small = is_kept _ Number _ (le-ltb _ _ small)

-- ---- shifts by a positive number

shift_rules : (i : Name) (a : ℕ) (p : Polynomial) → 0 < a →
    shift_overflow i a p ≡ broken (ltb most_terms (shift_count i p)) Terms (broken (ltb largest_norm (shift_norm i a p)) Number None)
unfolding shift_overflow
shift_rules i a p some =
    ap (λ b. broken (cond b (ltb most_terms (shift_count i p)) false) Terms (broken (ltb largest_norm (shift_norm i a p)) Number None))
    (lt-ltb _ _ some)

pub shift_too_many : (i : Name) (a : ℕ) (p : Polynomial) → 0 < a → most_terms < shift_count i p → shift_overflow i a p ≡ Some Terms
shift_too_many i a p some many = shift_rules i a p some ∙ is_broken _ Terms _ (lt-ltb _ _ many)

pub shift_too_large :
    (i : Name) (a : ℕ) (p : Polynomial) → 0 < a → shift_count i p ≤ most_terms → largest_norm < shift_norm i a p →
    shift_overflow i a p ≡ Some Number
shift_too_large i a p some few large =
    shift_rules i a p some ∙ is_kept _ Terms _ (le-ltb _ _ few) ∙ is_broken _ Number _ (lt-ltb _ _ large)

pub shift_fits :
    (i : Name) (a : ℕ) (p : Polynomial) → 0 < a → shift_count i p ≤ most_terms → shift_norm i a p ≤ largest_norm →
    shift_overflow i a p ≡ None
shift_fits i a p some few small =
    shift_rules i a p some ∙ is_kept _ Terms _ (le-ltb _ _ few) ∙ is_kept _ Number _ (le-ltb _ _ small)

-- a shift by nothing has one rule
pub shift_by_none_fits : (i : Name) (p : Polynomial) → shift_norm i 0 p ≤ largest_norm → shift_overflow i 0 p ≡ None
unfolding shift_overflow
shift_by_none_fits i p small = is_kept _ Number _ (le-ltb _ _ small)
