-- The module of generators and the test of a Gröbner basis, in checked arithmetic (Buchberger 1965; for operators Kandri-Rody and
-- Weispfenning 1990).
--     BuildRefusal                  there is no staircase; the symbols of two names do not commute at an entry of a row, with the names,
--                                   the element, the place and the two entries; the image of a generator is not zero, with its number
--                                   from 1; or the first overflow
--     unit_at ms m                  one at the element m, zero elsewhere
--     share_over l t                a term c·ν, as ν with the quotient −c/l
--     checked_reduced forms r       the sum, from zero, over the terms of the moved generator behind the first: the share of the term times
--                                   the form of its monomial
--     checked_form a gs ms m        the normal form of m: the unit vector where no leading monomial divides m, else what the first generator
--                                   that divides it is reduced to
--     checked_module ns gs ms       the rows of the names in order, elements rising; the start is the unit vector of 1
--     pairs_to_test is d            each two names in order, and with each pair the elements, rising
--     closed_test ns m              on each of these the second symbol of the row of the first and the first of the row of the second,
--                                   compared entry by entry
--     killed_tests ns m gs          the image of each generator in order
--     checked_build ns gs           all of this
-- Normal forms are those of smaller monomials, so the steps allowed suffice: law `normal_forms_go_by_steps`. What the outcomes mean by
-- value is said by BuildMeans. Cited by `build`.
use Rattle.std.specs.Prelude.{ℕ, zero, suc, Bool, if◌then◌else◌, Ok, Err, None, Some, Option, Result, List, [], ◌∷◌, ◌++◌, map, length, cond}
use Rattle.std.specs.List.{zip, flat_map, list_all, range_with_len}
use Rattle.ct_algebra.specs.Actions.{Action, by_action}
use Rattle.ct_algebra.specs.Monomial.{Mono, unit, ◌·◌}
use Rattle.ct_algebra.specs.Names.{Name, name_with, symbol}
use Rattle.ct_algebra.specs.Operators.{Operator, term_of}
use Rattle.ct_algebra.specs.Polynomial.{Polynomial, polys}
use Rattle.ct_checked.specs.Checked.{Checked, ◌>>=◌, refused_as}
use Rattle.ct_checked.specs.Traversal.{checked_fold, checked_each}
use Rattle.ct_checked.specs.declared.fault.Kind.{Kind}
use Rattle.ct_frac.specs.Arithmetic.{checked_same_value}
use Rattle.ct_frac.specs.Normal.{quotient_of}
use Rattle.ct_frac.specs.Written.{Written, whole_polynomial}
use Rattle.ct_mono.specs.Equal.{mono_eq}
use Rattle.ct_mono.specs.Rank.{mono_rank}
use Rattle.ct_module.specs.Action.{checked_act}
use Rattle.ct_module.specs.Combination.{checked_combination, checked_image}
use Rattle.ct_module.specs.Modules.{WrittenModule, dimension, row_of, written_zero}
use Rattle.ct_ore.specs.Measures.{checked_product}
use Rattle.ct_ore.specs.Naming.{Naming, actions_of}
use Rattle.ct_reduce.specs.Reduction.{Reducer, first_reducer}
use Rattle.ct_border.specs.Staircase.{Refusal, operator_numbers, checked_staircase}

pub data BuildRefusal : Type 0 where
  NoStaircase : Refusal → BuildRefusal
  NotClosed : (first second element place : ℕ) (one other : Written) → BuildRefusal
  NotKilled : ℕ → List Written → BuildRefusal
  Overflow : Kind → BuildRefusal

abbrev pub Built : Type 0 → Type 0
Built A = Result A BuildRefusal

abbrev pub fitting : {A : Type 0} → Checked A → Built A
fitting c = refused_as Overflow c

-- ---- normal forms

abbrev pub written_one : Written
written_one = whole_polynomial polys.one

abbrev pub unit_at : List Mono → Mono → List Written
unit_at ms m = map (λ e. cond (mono_eq e m) written_one written_zero) ms

abbrev pub share_over : Polynomial → Mono × Polynomial → Mono × Written
share_over l t = (t.0, quotient_of (polys.neg t.1) l)

-- of falling terms, those behind the first, over its coefficient
abbrev pub shares : List (Mono × Polynomial) → List (Mono × Written)
shares [] = []
shares (t ∷ ts) = map (share_over t.1) ts

module _ (a : Name → Action) (generators : List Operator) (ms : List Mono) where
  unfoldable pub checked_reduced : (Mono → Checked (List Written)) → Reducer → Checked (List Written)
  checked_reduced forms r = do
    moved ← checked_product a (term_of r.symbols polys.one) r.generator
    checked_combination forms (length ms) (shares moved.terms)

  abbrev pub form_by : (Mono → Checked (List Written)) → Mono → Option Reducer → Checked (List Written)
  form_by forms m None = Ok (unit_at ms m)
  form_by forms m (Some r) = checked_reduced forms r

  abbrev pub form_step : (Mono → Checked (List Written)) → Mono → Checked (List Written)
  form_step forms m = form_by forms m (first_reducer m generators)

  -- at most n generators after each other
  abbrev pub forms_in : ℕ → Mono → Checked (List Written)
  forms_in zero m = Ok (unit_at ms m)
  forms_in (suc n) m = form_step (forms_in n) m

  unfoldable pub checked_form : Mono → Checked (List Written)
  checked_form m = forms_in (suc (mono_rank m)) m

  abbrev pub checked_moved_elements : Name → Checked (List (List Written))
  checked_moved_elements i = checked_each (λ e. checked_form (symbol i · e)) ms

  -- a name without operator has no rows
  abbrev pub checked_rows_of : Name → Checked (List (List Written))
  checked_rows_of i = by_action (a i) (checked_moved_elements i) (checked_moved_elements i) (Ok [])

-- ---- the module

-- the names that are declared
abbrev pub declared : List Naming → List Name
declared ns = map name_with (range_with_len 0 (length ns))

unfoldable pub checked_module : List Naming → List Operator → List Mono → Checked WrittenModule
checked_module ns generators ms = do
  rows ← checked_each (checked_rows_of (actions_of ns) generators ms) (declared ns)
  Ok (record { basis = ms; rows = rows; start = unit_at ms unit })

-- ---- the tests

abbrev pub pairs : List ℕ → List (ℕ × ℕ)
pairs [] = []
pairs (i ∷ is) = map (λ j. (i, j)) is ++ pairs is

abbrev pub on_elements : ℕ → ℕ × ℕ → List ((ℕ × ℕ) × ℕ)
on_elements d p = map (λ b. (p, b)) (range_with_len 0 d)

abbrev pub on_pairs : ℕ → List (ℕ × ℕ) → List ((ℕ × ℕ) × ℕ)
on_pairs d ps = flat_map (on_elements d) ps

abbrev pub pairs_to_test : List ℕ → ℕ → List ((ℕ × ℕ) × ℕ)
pairs_to_test is d = on_pairs d (pairs is)

abbrev pub is_zero_fraction : Written → Bool
is_zero_fraction w = polys.is_zero w.numerator

abbrev pub all_zero : List Written → Bool
all_zero ws = list_all is_zero_fraction ws

abbrev pub unless : Bool → BuildRefusal → Built (Unit {0})
unless passes refusal = if passes then Ok tt else Err refusal

-- a test of each in turn
abbrev pub each_passes : {X : Type 0} → (X → Built (Unit {0})) → List X → Built (Unit {0})
each_passes test xs = checked_fold (λ _ x. test x) tt xs

-- at a place, the two entries
abbrev pub entry_test : (ℕ × ℕ) × ℕ → ℕ × (Written × Written) → Built (Unit {0})
entry_test t p = fitting (checked_same_value p.1.0 p.1.1) >>= (λ same. unless same (NotClosed t.0.0 t.0.1 t.1 p.0 p.1.0 p.1.1))

abbrev pub entries_test : (ℕ × ℕ) × ℕ → List Written → List Written → Built (Unit {0})
entries_test t v w = each_passes (entry_test t) (zip (range_with_len 0 (length v)) (zip v w))

module _ (ns : List Naming) (m : WrittenModule) where
  unfoldable pub commutes_test : (ℕ × ℕ) × ℕ → Built (Unit {0})
  commutes_test t = do
    one ← fitting (checked_act ns m (name_with t.0.1) (row_of m (name_with t.0.0) t.1))
    other ← fitting (checked_act ns m (name_with t.0.0) (row_of m (name_with t.0.1) t.1))
    entries_test t one other

  abbrev pub commute_tests : List ((ℕ × ℕ) × ℕ) → Built (Unit {0})
  commute_tests ts = each_passes commutes_test ts

  abbrev pub closed_test : Built (Unit {0})
  closed_test = commute_tests (pairs_to_test (operator_numbers (actions_of ns)) (dimension m))

  abbrev pub killed_test : ℕ × Operator → Built (Unit {0})
  killed_test p = fitting (checked_image ns m m.start p.1) >>= (λ image. unless (all_zero image) (NotKilled p.0 image))

  abbrev pub killed_tests : List Operator → Built (Unit {0})
  killed_tests generators = each_passes killed_test (zip (range_with_len 1 (length generators)) generators)

unfoldable pub checked_build : List Naming → List Operator → Built WrittenModule
checked_build ns generators = do
  ms ← refused_as NoStaircase (checked_staircase (actions_of ns) generators)
  m ← fitting (checked_module ns generators ms)
  _ ← closed_test ns m
  _ ← killed_tests ns m generators
  Ok m
