-- What the lines of a problem come to, in the order of the text: the `gen` lines, the `den` lines in the order of their names, the
-- `target` lines, and then the test of the generators (this project's own choice of steps).
--     has_lists p               there is a `let` or `use` line
--     listed g                  the expressions of `gen` lines
--     SetupRefusal              the polynomial of the name with this number is zero; the generators, or those of the list with this number,
--                               fail a test; or the first overflow, with its phase
--     refused_test named r      why a list is refused: an overflow of its test has the phase of tests
--     checked_values a xs       the values of expressions, in order
--     checked_dens a ds         the polynomial of each name where one is given, which isn't zero; names are numbered from 0
--     Prepared, checked_setup p what is given for the denominators and the module of tested generators; the generators; and the targets
--     elements_of p             the staircase of the generators, whose elements a refusal numbers; nothing where there is none
--     Plain, checked_plain_setup p     the generators, none of which is zero, and the targets, with no test; `den` lines aren't worked
-- A line stands for the operator of its value, without the whole number. SetupMeans says what the outcomes mean. Cited by `prepare`,
-- `elements` and `prepare_plain`.
use Rattle.std.specs.Prelude.{ℕ, Bool, ◌||◌, not, if◌then◌else◌, List, [], length, ◌==◌, Option, Some, None, Result, Ok, Err}
use Rattle.ct_algebra.specs.Actions.{Action}
use Rattle.ct_algebra.specs.Monomial.{Mono}
use Rattle.ct_algebra.specs.Names.{Name}
use Rattle.ct_algebra.specs.Operators.{Operator}
use Rattle.ct_algebra.specs.Polynomial.{Polynomial, polys}
use Rattle.ct_border.specs.Build as build
use Rattle.ct_border.specs.Build.{BuildRefusal, NoStaircase, checked_build}
use Rattle.ct_border.specs.Staircase as staircase
use Rattle.ct_border.specs.Staircase.{ZeroGenerator, checked_staircase}
use Rattle.ct_checked.specs.Checked.{Checked, ◌>>=◌, refused_as}
use Rattle.ct_checked.specs.Traversal.{checked_each, checked_each_from}
use Rattle.ct_checked.specs.declared.fault.Kind.{Kind}
use Rattle.ct_expr.specs.Value.{checked_polynomial, value_of}
use Rattle.ct_expr.specs.declared.expr.Expr.{Expr}
use Rattle.ct_module.specs.Modules.{WrittenSetting}
use Rattle.ct_ore.specs.Naming.{actions_of}
use Rattle.ct_problem.specs.DenLines.{Dens}
use Rattle.ct_problem.specs.ReadProblem.{Reading, is_empty, is_used}
use Rattle.ct_problem.specs.declared.problem.Gens.{Gens}
use Rattle.ct_problem.specs.declared.problem.Gens.TheVariants.{Listed, Named}
use Rattle.ct_setup.specs.declared.fault.SetupPhase.{SetupPhase}
use Rattle.ct_setup.specs.declared.fault.SetupPhase.TheVariants.{Input, Test}

-- ---- lines

abbrev pub has_lists : Reading → Bool
has_lists p = not (is_empty p.definitions) || is_used p.generators

abbrev pub listed : Gens → List Expr
listed (Listed xs) = xs
listed (Named at) = []

-- ---- refusals

pub data SetupRefusal : Type 0 where
  ZeroDen : ℕ → SetupRefusal
  Unbuilt : Option ℕ → BuildRefusal → SetupRefusal
  Overflow : SetupPhase → Kind → SetupRefusal

abbrev pub SetUp : Type 0 → Type 0
SetUp A = Result A SetupRefusal

abbrev pub read_as : {A : Type 0} → Checked A → SetUp A
read_as c = refused_as (Overflow Input) c

abbrev pub refused_test : Option ℕ → BuildRefusal → SetupRefusal
refused_test named (NoStaircase (staircase.ZeroGenerator n)) = Unbuilt named (NoStaircase (staircase.ZeroGenerator n))
refused_test named (NoStaircase (staircase.Trivial n)) = Unbuilt named (NoStaircase (staircase.Trivial n))
refused_test named (NoStaircase (staircase.NotFinite i)) = Unbuilt named (NoStaircase (staircase.NotFinite i))
refused_test named (NoStaircase (staircase.Overflow k)) = Overflow Test k
refused_test named (build.NotClosed i j b c one other) = Unbuilt named (build.NotClosed i j b c one other)
refused_test named (build.NotKilled n image) = Unbuilt named (build.NotKilled n image)
refused_test named (build.Overflow k) = Overflow Test k

-- ---- values

module _ (a : Name → Action) where
  abbrev pub checked_values : List Expr → Checked (List Operator)
  checked_values xs = checked_each (value_of a) xs

  -- the polynomial of the name with this number
  abbrev pub checked_den : ℕ → Option Expr → SetUp (Option Polynomial)
  checked_den i None = Ok None
  checked_den i (Some x) = do
    p ← read_as (checked_polynomial a x)
    if polys.is_zero p then Err (ZeroDen i) else Ok (Some p)

  abbrev pub checked_dens : Dens → SetUp (List (Option Polynomial))
  checked_dens ds = checked_each_from 0 checked_den ds

-- ---- the whole

pub record Prepared : Type 0 where
  pub setting : WrittenSetting
  pub generators : List Operator
  pub targets : List Operator

unfoldable pub checked_setup : Reading → SetUp Prepared
checked_setup p = do
  generators ← read_as (checked_values (actions_of p.variables) (listed p.generators))
  dens ← checked_dens (actions_of p.variables) p.dens
  targets ← read_as (checked_values (actions_of p.variables) p.targets)
  space ← refused_as (refused_test None) (checked_build p.variables generators)
  Ok (record { setting = record { names = p.variables; space = space; dens = dens }; generators = generators; targets = targets })

-- ---- the elements

abbrev pub elements_by : {E : Type 0} → Result (List Mono) E → List Mono
elements_by (Ok ms) = ms
elements_by (Err e) = []

abbrev pub staircase_by : (Name → Action) → Checked (List Operator) → List Mono
staircase_by a (Ok generators) = elements_by (checked_staircase a generators)
staircase_by a (Err k) = []

unfoldable pub elements_of : Reading → List Mono
elements_of p = staircase_by (actions_of p.variables) (checked_values (actions_of p.variables) (listed p.generators))

-- ---- without a test

abbrev pub zero_generator : ℕ → SetupRefusal
zero_generator place = Unbuilt None (NoStaircase (ZeroGenerator place))

-- an operator has no terms
abbrev pub is_nothing : Operator → Bool
is_nothing p = length p.terms == 0

module _ (a : Name → Action) where
  -- the value of the generator with this number, which isn't zero
  abbrev pub plain_generator : ℕ → Expr → SetUp Operator
  plain_generator place x = do
    value ← read_as (value_of a x)
    if is_nothing value then Err (zero_generator place) else Ok value

  abbrev pub plain_generators : List Expr → SetUp (List Operator)
  plain_generators xs = checked_each_from 1 plain_generator xs

pub record Plain : Type 0 where
  pub generators : List Operator
  pub targets : List Operator

unfoldable pub checked_plain_setup : Reading → SetUp Plain
checked_plain_setup p = do
  generators ← plain_generators (actions_of p.variables) (listed p.generators)
  targets ← read_as (checked_values (actions_of p.variables) p.targets)
  Ok (record { generators = generators; targets = targets })
