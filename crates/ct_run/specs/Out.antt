-- The output of a run for a command and a text. The formats are this project's own.
--     largest_text        the most bytes that a text may have
--     out command bytes   the output for a command and the bytes of a text
--     Means command bytes outcome   what it means that a run of this command over these bytes ends with this outcome
-- A text past the limit is refused by its length alone, so no more than `largest_text + 1` bytes of it count.
-- `run` and `answer` cite it. The words ask for `check`, `reduce` and `test` alone, and every text of the other commands is bad input.
use Rattle.std.specs.Prelude.{◌≡◌, ℕ, List, if◌then◌else◌, Result, Ok, Err}
use Rattle.ct_io.specs.declared.command.Command.{Command}
use Rattle.ct_io.specs.declared.command.Command.TheVariants.{Telescope, Check, Reduce, Test, Close, Member, Gen, Demo}
use Rattle.ct_problem.specs.declared.fault.BadInput.{BadInput}
use Rattle.ct_problem.specs.Limits.{most_bytes}
use Rattle.ct_problem.specs.ReadProblem.{Reading, problem_of}
use Rattle.ct_setup.specs.Setup.{has_lists}
use Rattle.ct_run.specs.Checking.{checked_text, CheckMeans}
use Rattle.ct_run.specs.Lines.{bad_input, not_yet}
use Rattle.ct_run.specs.Output.{Output}
use Rattle.ct_run.specs.Reducing.{reduced, ReduceMeans}
use Rattle.ct_run.specs.Testing.{tested_problem, TestMeans}
use Rattle.ct_run.specs.declared.status.Outcome.{Outcome}
use Rattle.ct_run.specs.declared.status.Outcome.TheVariants as outcome

abbrev pub largest_text : ℕ
largest_text = most_bytes

abbrev pub by_command : Command → List ℕ → Reading → ℕ → Output
by_command Check bytes p end = checked_text bytes p end
by_command Reduce bytes p end = reduced p
by_command Test bytes p end = tested_problem p
by_command Telescope bytes p end = not_yet
by_command Close bytes p end = not_yet
by_command Member bytes p end = not_yet
by_command Gen bytes p end = not_yet
by_command Demo bytes p end = not_yet

-- a problem with a `let` or `use` line isn't worked
abbrev pub by_problem : Command → List ℕ → Result (Reading × ℕ) BadInput → Output
by_problem command bytes (Ok p) = if has_lists p.0 then not_yet else by_command command bytes p.0 p.1
by_problem command bytes (Err e) = bad_input e

-- the output for a command and the bytes of a text
unfoldable pub out : Command → List ℕ → Output
out command bytes = by_problem command bytes (problem_of command bytes)

-- a yes certifies, a no names a place where what is asked is false, each printed reduction is one, and a printed basis is that of tested
-- generators
abbrev pub Means : Command → List ℕ → Outcome → Type 0
Means Check bytes ended = CheckMeans bytes ended (out Check bytes).text
Means Reduce bytes ended = ReduceMeans bytes ended (out Reduce bytes).text
Means Test bytes ended = TestMeans bytes ended (out Test bytes).text
Means Telescope bytes ended = ended ≡ outcome.BadInput
Means Close bytes ended = ended ≡ outcome.BadInput
Means Member bytes ended = ended ≡ outcome.BadInput
Means Gen bytes ended = ended ≡ outcome.BadInput
Means Demo bytes ended = ended ≡ outcome.BadInput
