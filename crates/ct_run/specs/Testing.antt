-- The output of `test`: the basis of the problem's generators, or why they aren't tested.
--     tested_problem p                the outcome and the text for a problem
-- Above it:
--     AreTested bytes text            what a text of a basis means
--     TestMeans bytes outcome text    what an outcome with this text means
use Rattle.std.specs.Prelude.{◌≡◌, ℕ, List, Ok, Err}
use Rattle.ct_io.specs.declared.command.Command.TheVariants.{Test}
use Rattle.ct_answer.specs.Generators.{tested_text}
use Rattle.ct_problem.specs.GrammarProblem.{StandsFor}
use Rattle.ct_problem.specs.ReadProblem.{Reading}
use Rattle.ct_setup.specs.Setup.{Prepared, SetUp, checked_setup}
use Rattle.ct_run.specs.declared.status.Outcome as outcomes
use Rattle.ct_run.specs.declared.status.Outcome.TheVariants as outcome
use Rattle.ct_run.specs.Lines.{setup_line}
use Rattle.ct_run.specs.Output.{Output}
use Rattle.ct_run.specs.Ready.{IsReady}

abbrev pub by_module : Reading → SetUp Prepared → Output
by_module p (Ok s) = record { outcome = outcome.Done; text = tested_text p.variables s.setting.space.basis }
by_module p (Err e) = setup_line p e

unfoldable pub tested_problem : Reading → Output
tested_problem p = by_module p (checked_setup p)

-- ---- what it means

-- the bytes are a problem by the grammar, whose generators are tested, and this text shows the basis of their module: by `IsReady`
-- it is their staircase
pub record AreTested (bytes : List ℕ) (text : List ℕ) : Type 0 where
  pub problem : Reading
  pub end : ℕ
  pub says_problem : StandsFor Test bytes problem end
  pub ready : IsReady problem
  pub shown : text ≡ tested_text problem.variables ready.prepared.setting.space.basis

abbrev pub TestMeans : List ℕ → outcomes.Outcome → List ℕ → Type 0
TestMeans bytes outcome.Done text = AreTested bytes text
TestMeans bytes outcome.BadInput text = Unit {0}
TestMeans bytes outcome.Overflow text = Unit {0}
TestMeans bytes outcome.CheckNo text = ⊥
TestMeans bytes outcome.NoneFound text = ⊥
TestMeans bytes outcome.Usage text = ⊥
