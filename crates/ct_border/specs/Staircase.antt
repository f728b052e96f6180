-- The staircase of a list of operators, or why there is none. (This project's own order of tests and its own limit.)
--     Refusal                  a generator is zero, or its leading monomial is 1, with its number from 1; no leading monomial is a
--                              power of the symbol of a name, with its number; or more than 16 monomials remain
--     leading_monomials gs     those of the generators in order
--     operator_numbers a       the names with an operator, in order
--     powers_test ms is        each of these names has a power among the monomials
--     is_left ms m             none of the monomials ms divides m
--     remaining is ms          the monomials in these names that none of ms divides, of total at most 16, rising
--     checked_staircase a gs   all of this
-- Where at most 16 monomials remain, none has a greater total: with a monomial all its divisors remain, one of each total.
-- `StaircaseMeans` says what the outcome means. Cited by `staircase`.
use Rattle.std.specs.Prelude.{ℕ, Bool, true, false, ◌||◌, eqb, if◌then◌else◌, None, Some, List, [], ◌∷◌, length, Ok, Err, nat_lt}
use Rattle.std.specs.List.{filter, range_with_len}
use Rattle.std.proofs.Common.{Option, Result}
use Rattle.ct_algebra.specs.Leading.{leading}
use Rattle.ct_algebra.specs.Monomial.{Mono, unit, exp, total}
use Rattle.ct_algebra.specs.Names.{Name, name_with, place}
use Rattle.ct_algebra.specs.Polynomial.{Polynomial}
use Rattle.ct_algebra.specs.Actions.{Action, by_action}
use Rattle.ct_algebra.specs.Operators.{Operator}
use Rattle.ct_checked.specs.Checked.{◌>>=◌}
use Rattle.ct_checked.specs.Traversal.{checked_each_from, checked_fold}
use Rattle.ct_checked.specs.declared.fault.Fault.TheVariants as faults
use Rattle.ct_checked.specs.declared.fault.Kind.{Kind}
use Rattle.ct_checked.specs.declared.fault.Kind.TheVariants.{Size}
use Rattle.ct_mono.specs.Division.{over}
use Rattle.ct_mono.specs.Equal.{mono_eq}
use Rattle.ct_mono.specs.Listing.{up_to}
use Rattle.ct_telescoping.specs.Tested.{largest_staircase}
use Rattle.ct_border.specs.declared.fault.StairFault.{StairFault}
use Rattle.ct_border.specs.declared.fault.StairFault.TheVariants as code

pub data Refusal : Type 0 where
  ZeroGenerator Trivial NotFinite : ℕ → Refusal
  Overflow : Kind → Refusal

-- the refusal that a call answers, if memory did not run out
abbrev pub refusal_of : StairFault → Option Refusal
refusal_of (code.ZeroGenerator n) = Some (ZeroGenerator n)
refusal_of (code.Trivial n) = Some (Trivial n)
refusal_of (code.NotFinite i) = Some (NotFinite i)
refusal_of (code.Fault (faults.Overflow k)) = Some (Overflow k)
refusal_of (code.Fault faults.NoMemory) = None

-- ---- leading monomials

abbrev pub leading_by : ℕ → Option (Mono × Polynomial) → Result Mono Refusal
leading_by n None = Err (ZeroGenerator n)
leading_by n (Some e) = if mono_eq e.0 unit then Err (Trivial n) else Ok e.0

abbrev pub leading_of : ℕ → Operator → Result Mono Refusal
leading_of n g = leading_by n (leading g.terms)

abbrev pub leading_monomials : List Operator → Result (List Mono) Refusal
leading_monomials generators = checked_each_from 1 leading_of generators

-- ---- powers

abbrev pub acts : Action → Bool
acts t = by_action t true true false

abbrev pub operator_numbers : (Name → Action) → List ℕ
operator_numbers a = filter (λ i. acts (a (name_with i))) (range_with_len 0 6)

-- its total is its exponent of the name
abbrev pub is_power : Name → Mono → Bool
is_power i m = eqb (exp m (place i)) (total m)

abbrev pub has_power : List Mono → Name → Bool
has_power [] i = false
has_power (m ∷ ms) i = is_power i m || has_power ms i

abbrev pub power_test : List Mono → ℕ → Result (Unit {0}) Refusal
power_test ms i = if has_power ms (name_with i) then Ok tt else Err (NotFinite i)

abbrev pub powers_test : List Mono → List ℕ → Result (Unit {0}) Refusal
powers_test ms is = checked_fold (λ _ i. power_test ms i) tt is

-- ---- what remains

abbrev pub unless_divided : Option Mono → Bool → Bool
unless_divided None rest = rest
unless_divided (Some quotient) rest = false

abbrev pub is_left : List Mono → Mono → Bool
is_left [] m = true
is_left (d ∷ ds) m = unless_divided (over m d) (is_left ds m)

abbrev pub remaining : List ℕ → List Mono → List Mono
remaining is ms = filter (is_left ms) (up_to is largest_staircase)

-- a list that is not too long
abbrev pub few : List Mono → Result (List Mono) Refusal
few ms = if nat_lt largest_staircase (length ms) then Err (Overflow Size) else Ok ms

unfoldable pub checked_staircase : (Name → Action) → List Operator → Result (List Mono) Refusal
checked_staircase a generators = do
  ms ← leading_monomials generators
  _ ← powers_test ms (operator_numbers a)
  few (remaining (operator_numbers a) ms)
