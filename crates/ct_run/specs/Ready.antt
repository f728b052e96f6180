-- Problems that are ready: their generators are tested.
--     IsReady p                       the values of the problem's lines, and the module of its tested generators
--     IsSetUp p                       the same, of what setup comes to
--     IsReadyWhere o p                that is so, where a run ended with an answer about the generators
--     IsReadyFor command bytes o      of the problem that the bytes are read as, under the commands that test its generators
-- `answer` cites it.
use Rattle.std.specs.Prelude.{◌≡◌, ℕ, List, Result, Ok, Err}
use Rattle.ct_io.specs.declared.command.Command.{Command}
use Rattle.ct_io.specs.declared.command.Command.TheVariants.{Telescope, Check, Reduce, Test, Close, Member, Gen, Demo}
use Rattle.ct_problem.specs.declared.fault.BadInput.{BadInput}
use Rattle.ct_problem.specs.ReadProblem.{Reading, problem_of}
use Rattle.ct_setup.specs.Setup.{Prepared, checked_setup}
use Rattle.ct_setup.specs.SetupMeans.{IsPrepared}
use Rattle.ct_run.specs.declared.status.Outcome.{Outcome}
use Rattle.ct_run.specs.declared.status.Outcome.TheVariants as outcome

pub record IsReady (p : Reading) : Type 0 where
  pub prepared : Prepared
  pub means : IsPrepared p prepared

pub record IsSetUp (p : Reading) : Type 0 where
  pub prepared : Prepared
  pub valued : checked_setup p ≡ Ok prepared
  pub means : IsPrepared p prepared

abbrev pub IsReadyWhere : Outcome → Reading → Type 0
IsReadyWhere outcome.Done p = IsSetUp p
IsReadyWhere outcome.CheckNo p = IsSetUp p
IsReadyWhere outcome.NoneFound p = Unit {0}
IsReadyWhere outcome.BadInput p = Unit {0}
IsReadyWhere outcome.Overflow p = Unit {0}
IsReadyWhere outcome.Usage p = Unit {0}

abbrev pub IsReadyIfRead : Result (Reading × ℕ) BadInput → Outcome → Type 0
IsReadyIfRead (Ok p) ended = IsReadyWhere ended p.0
IsReadyIfRead (Err e) ended = Unit {0}

abbrev pub IsReadyFor : Command → List ℕ → Outcome → Type 0
IsReadyFor Check bytes ended = IsReadyIfRead (problem_of Check bytes) ended
IsReadyFor Test bytes ended = IsReadyIfRead (problem_of Test bytes) ended
IsReadyFor Reduce bytes ended = Unit {0}
IsReadyFor Telescope bytes ended = Unit {0}
IsReadyFor Close bytes ended = Unit {0}
IsReadyFor Member bytes ended = Unit {0}
IsReadyFor Gen bytes ended = Unit {0}
IsReadyFor Demo bytes ended = Unit {0}
