use Rattle.std.proofs.Common.{◌≡◌}
use Rattle.bench_division.specs.Powers.{checked_power, checked_power_from}
use Rattle.bench_division.proofs.powers.power.Given as goal

abbrev pub invariant-loop-left : goal.invariant-loop-left
invariant-loop-left l = checked_power l.base l.n ≡ checked_power_from l.so_far l.left l.base

abbrev pub decreases-loop-left : goal.decreases-loop-left
decreases-loop-left l = l.left
