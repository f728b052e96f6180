-- The statuses of a run. Their numbers are this project's own.
--     number_of status     the number that the process ends with
--     status_of outcome    the status of a run whose output is written whole
--     outcome_of status    the outcome of such a run, none where a read, a write or the memory failed
use Rattle.std.specs.Prelude.{ℕ, Option, Some, None}
use Rattle.ct_run.specs.declared.status.Outcome as outcomes
use Rattle.ct_run.specs.declared.status.Outcome.TheVariants as outcome
use Rattle.ct_run.specs.declared.status.Status as statuses
use Rattle.ct_run.specs.declared.status.Status.TheVariants.{Done, NoneFound, BadInput, Overflow, ReadFault, WriteFault, NoMemory, Usage, CheckNo}

-- the number that the process ends with
abbrev pub number_of : statuses.Status → ℕ
number_of Done = 0
number_of NoneFound = 1
number_of BadInput = 2
number_of Overflow = 3
number_of ReadFault = 4
number_of WriteFault = 5
number_of NoMemory = 6
number_of Usage = 7
number_of CheckNo = 8

-- the status of a run whose output is written whole
abbrev pub status_of : outcomes.Outcome → statuses.Status
status_of outcome.Done = Done
status_of outcome.NoneFound = NoneFound
status_of outcome.BadInput = BadInput
status_of outcome.Overflow = Overflow
status_of outcome.Usage = Usage
status_of outcome.CheckNo = CheckNo

-- the outcome of a run whose output is written whole
abbrev pub outcome_of : statuses.Status → Option outcomes.Outcome
outcome_of Done = Some outcome.Done
outcome_of NoneFound = Some outcome.NoneFound
outcome_of BadInput = Some outcome.BadInput
outcome_of Overflow = Some outcome.Overflow
outcome_of Usage = Some outcome.Usage
outcome_of CheckNo = Some outcome.CheckNo
outcome_of ReadFault = None
outcome_of WriteFault = None
outcome_of NoMemory = None
