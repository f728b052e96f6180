-- How a run ends, and what it leaves of its source and its sink. This project's own.
--     Reports output status before after   a run with this output ended so, where the sink
--                                          had taken `before` and then `after`
--     IsTold told bytes                    the bytes of a source that tells its own; of one that tells none, any
--     Answered command told status before after     a run of this command reported its output for some text, and ended
--                                          as that text asks; where the source tells its bytes, they are the text
--     LeavesAfter bytes status left        a run over these bytes that ended so left these: what is past the limit, and no less
--                                          where a read or the memory failed
--     TellsFault status fault before now   a fault was counted just where the status is this fault's
-- A sink that fails has taken a prefix of the text. A run that is out of memory has written nothing.
-- `run` cites it.
use Rattle.std.specs.Prelude.{◌≡◌, ℕ, ◌+◌, List, drop, Option, Some, None, IfSome}
use Rattle.std.specs.Io.{StartsWith}
use Rattle.std.specs.Io.KnownBytes.{Appends, Keeps}
use Rattle.ct_io.specs.declared.command.Command.{Command}
use Rattle.ct_io.specs.Faults.{Tells}
use Rattle.ct_io.specs.Taking.{TakesAtMost}
use Rattle.ct_run.specs.Output.{Output}
use Rattle.ct_run.specs.Out.{largest_text, out, Means}
use Rattle.ct_run.specs.Status.{status_of, outcome_of}
use Rattle.ct_run.specs.declared.status.Status.{Status}
use Rattle.ct_run.specs.declared.status.Status.TheVariants.{ReadFault, WriteFault, NoMemory}

-- a run with this output ended with this status, and the sink took what this status says
abbrev pub Reports : Output → Status → Option (List ℕ) → Option (List ℕ) → Type 0
Reports output WriteFault before after = (written : List ℕ) × StartsWith output.text written × Appends before after written
Reports output ReadFault before after = Keeps before after
Reports output NoMemory before after = Keeps before after
Reports output status before after = (status ≡ status_of output.outcome) × Appends before after output.text

-- the bytes of a source that tells its own; any where it tells none
abbrev pub IsTold : Option (List ℕ) → List ℕ → Type 0
IsTold None bytes = Unit {0}
IsTold (Some told) bytes = bytes ≡ told

-- for some bytes, which are those of the source where it tells them, a run of this command reported its output, and where it ended
-- with an outcome, it means what this outcome means
pub record Answered (command : Command) (told : Option (List ℕ)) (status : Status) (before after : Option (List ℕ)) : Type 0 where
  pub bytes : List ℕ
  pub of_source : IsTold told bytes
  pub report : Reports (out command bytes) status before after
  pub certified : IfSome (outcome_of status) (Means command bytes)

-- a run that read these bytes and ended with this status left what is past the limit; one that failed took no more than that
abbrev pub LeavesAfter : List ℕ → Status → Option (List ℕ) → Type 0
LeavesAfter bytes ReadFault left = TakesAtMost (largest_text + 1) (Some bytes) left
LeavesAfter bytes NoMemory left = TakesAtMost (largest_text + 1) (Some bytes) left
LeavesAfter bytes status left = Keeps (Some (drop (largest_text + 1) bytes)) left

-- the status is this fault's only where a fault was counted, and none was where it is another
abbrev pub TellsFault : Status → Status → ℕ → ℕ → Type 0
TellsFault status fault before now = Tells (status ≡ fault) before now
