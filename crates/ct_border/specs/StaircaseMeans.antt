-- What the answer and the refusals of `staircase` mean.
--     IsProper g               the operator has a leading monomial other than 1
--     HasStaircase a gs ms     the generators are proper, each name with an operator has a pure power, and the list is the staircase:
--                              the monomials in names with operators that no leading monomial divides, rising, at most 16
--     IsRefused a gs r         each earlier test holds, and the test of r does not
--     RefusalsAreRight         the checked staircase is refused only so
-- Each of these excludes all others, so each comes exactly where it is said to.
use Rattle.std.specs.Prelude.{◌≡◌, ◌≢◌, ℕ, ◌-◌, ◌<◌, ◌≤◌, List, length, get_or, take, Err}
use Rattle.std.specs.List.{All}
use Rattle.ct_algebra.specs.Leading.{OperatorLeads, IsIrreducible}
use Rattle.ct_algebra.specs.Monomial.{Mono, unit}
use Rattle.ct_algebra.specs.Names.{Name, name_with, place}
use Rattle.ct_algebra.specs.Polynomial.{Polynomial}
use Rattle.ct_algebra.specs.Actions.{Action, Still}
use Rattle.ct_algebra.specs.Operators.{Operator, no_operator}
use Rattle.ct_checked.specs.declared.fault.Kind.TheVariants.{Size}
use Rattle.ct_telescoping.specs.Staircase.{HasOperators}
use Rattle.ct_telescoping.specs.Rising.{IsListingOf, IsOnce}
use Rattle.ct_telescoping.specs.Tested.{HasPurePower, largest_staircase}
use Rattle.ct_border.specs.Staircase.{Refusal, ZeroGenerator, Trivial, NotFinite, Overflow, checked_staircase}

pub record IsProper (g : Operator) : Type 0 where
  pub mono : Mono
  pub coef : Polynomial
  pub leads : OperatorLeads g mono coef
  pub proper : mono ≢ unit

module _ (a : Name → Action) (generators : List Operator) where
  -- a monomial of the staircase
  abbrev pub Remains : Mono → Type 0
  Remains m = HasOperators a m × IsIrreducible generators m

  pub record HasStaircase (ms : List Mono) : Type 0 where
    pub proper : All IsProper generators
    pub finite : (i : Name) → a i ≢ Still → HasPurePower generators i
    pub listing : IsListingOf Remains ms
    pub few : length ms ≤ largest_staircase

  -- the generator with this number is the first that is not proper
  pub record IsFirstOther (n : ℕ) (g : Operator) : Type 0 where
    pub some : 0 < n
    pub within : n ≤ length generators
    pub is : get_or generators (n - 1) no_operator ≡ g
    pub before : All IsProper (take (n - 1) generators)

  abbrev pub IsRefused : Refusal → Type 0
  IsRefused (ZeroGenerator n) = IsFirstOther n no_operator
  IsRefused (Trivial n) = (g : Operator) × (c : Polynomial) × IsFirstOther n g × OperatorLeads g unit c
  IsRefused (NotFinite i) =
      All IsProper generators × (a (name_with i) ≢ Still) × (¬ HasPurePower generators (name_with i)) ×
      ((j : Name) → place j < i → a j ≢ Still → HasPurePower generators j)
  IsRefused (Overflow k) =
      (k ≡ Size) × All IsProper generators × ((j : Name) → a j ≢ Still → HasPurePower generators j) ×
      ((ms : List Mono) × (largest_staircase < length ms) × IsOnce ms × All Remains ms)

abbrev pub RefusalsAreRight : Type 0
RefusalsAreRight =
    (a : Name → Action) (generators : List Operator) (r : Refusal) → checked_staircase a generators ≡ Err r → IsRefused a generators r
