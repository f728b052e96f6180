use Rattle.std.proofs.Common.{◌≡◌}
use Rattle.std.specs.Prelude.{replicate}
use Rattle.ct_core.specs.Machine.{fresh}
use Rattle.ct_core.proofs.runs.start.Given as goal

abbrev pub invariant-loop : goal.invariant-loop
invariant-loop l = l.views.items ≡ replicate l.counter fresh
