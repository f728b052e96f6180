use Rattle.std.proofs.Common.{◌≡◌, ◌≤◌, take, Some}
use Rattle.ct_core.specs.Machine.{start_of}
use Rattle.ct_core.specs.Runs.{run_of}
use Rattle.ct_core.proofs.runs.replay.Given as goal

abbrev pub invariant-loop-place : goal.invariant-loop-place
invariant-loop-place l = record { run : run_of (start_of l.count l.workers) (take l.place l.events) ≡ Some l.state; claims : l.state.next ≤ l.place }
