-- The output of `reduce`: the left reduction of each target by the generators.
--     checked_reductions a gs xs         the reductions of operators in order, or the number of the first that overflows
--     reduced p                          the outcome and the text for a problem
-- Above it:
--     AreReduced bytes text              what a text of reductions means
--     ReduceMeans bytes outcome text     what an outcome with this text means
use Rattle.std.specs.Prelude.{◌≡◌, ℕ, List, [], ◌∷◌, Result, Ok, Err}
use Rattle.ct_algebra.specs.Names.{Name}
use Rattle.ct_algebra.specs.Actions.{Action}
use Rattle.ct_algebra.specs.Operators.{Operator}
use Rattle.ct_algebra.specs.Leading.{IsReduced}
use Rattle.ct_algebra.specs.Membership.{Reduction, ReducesTo}
use Rattle.ct_io.specs.declared.command.Command.TheVariants.{Reduce}
use Rattle.ct_checked.specs.declared.fault.Kind.{Kind}
use Rattle.ct_checked.specs.Checked.{refused_as}
use Rattle.ct_checked.specs.Traversal.{checked_each_from}
use Rattle.ct_ore.specs.Naming.{Naming, actions_of}
use Rattle.ct_reduce.specs.Reduction.{checked_reduction}
use Rattle.ct_answer.specs.Reductions.{reduced_text}
use Rattle.ct_problem.specs.GrammarProblem.{StandsFor}
use Rattle.ct_problem.specs.ReadProblem.{Reading}
use Rattle.ct_run.specs.declared.status.Outcome as outcomes
use Rattle.ct_run.specs.declared.status.Outcome.TheVariants as outcome
use Rattle.ct_setup.specs.Setup.{Plain, SetUp, checked_plain_setup}
use Rattle.ct_run.specs.Lines.{overflow_in_reduction, setup_line}
use Rattle.ct_run.specs.Output.{Output}

-- ---- the reductions

-- a target and the kind of its overflow
abbrev pub TargetOverflow : Type 0
TargetOverflow = ℕ × Kind

-- the reduction of the target with this number
abbrev pub target_reduction : (Name → Action) → List Operator → ℕ → Operator → Result Reduction TargetOverflow
target_reduction a generators place x = refused_as (λ kind. (place, kind)) (checked_reduction a generators x)

abbrev pub checked_reductions : (Name → Action) → List Operator → List Operator → Result (List Reduction) TargetOverflow
checked_reductions a generators xs = checked_each_from 1 (target_reduction a generators) xs

-- ---- the answer

abbrev pub by_reductions : List Naming → Result (List Reduction) TargetOverflow → Output
by_reductions names (Ok rs) = record { outcome = outcome.Done; text = reduced_text names rs }
by_reductions names (Err e) = overflow_in_reduction e.0 e.1

abbrev pub by_values : Reading → SetUp Plain → Output
by_values p (Ok s) = by_reductions p.variables (checked_reductions (actions_of p.variables) s.generators s.targets)
by_values p (Err e) = setup_line p e

unfoldable pub reduced : Reading → Output
reduced p = by_values p (checked_plain_setup p)

-- ---- what it means

-- each of these operators reduces to the reduction at its place
abbrev pub EachReduces : (Name → Action) → List Operator → List Operator → List Reduction → Type 0
EachReduces a generators [] [] = Unit {0}
EachReduces a generators (x ∷ xs) (r ∷ rs) = (ReducesTo a generators x r × IsReduced generators r.rest) × EachReduces a generators xs rs
EachReduces a generators _ _ = ⊥

-- the bytes are a problem by the grammar, and this text shows for each target of it a reduction: the scale isn't zero, the scale times the
-- target is the combination of the cofactors and the generators plus the rest, and the rest is reduced
pub record AreReduced (bytes : List ℕ) (text : List ℕ) : Type 0 where
  pub problem : Reading
  pub end : ℕ
  pub says_problem : StandsFor Reduce bytes problem end
  pub plain : Plain
  pub valued : checked_plain_setup problem ≡ Ok plain
  pub reductions : List Reduction
  pub each : EachReduces (actions_of problem.variables) plain.generators plain.targets reductions
  pub shown : text ≡ reduced_text problem.variables reductions

abbrev pub ReduceMeans : List ℕ → outcomes.Outcome → List ℕ → Type 0
ReduceMeans bytes outcome.Done text = AreReduced bytes text
ReduceMeans bytes outcome.BadInput text = Unit {0}
ReduceMeans bytes outcome.Overflow text = Unit {0}
ReduceMeans bytes outcome.CheckNo text = ⊥
ReduceMeans bytes outcome.NoneFound text = ⊥
ReduceMeans bytes outcome.Usage text = ⊥
