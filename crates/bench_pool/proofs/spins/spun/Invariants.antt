use Rattle.std.proofs.Common.{◌≡◌}
use Rattle.bench_pool.specs.Turns.{turned}
use Rattle.bench_pool.proofs.spins.spun.Given as goal

abbrev pub invariant-loop : goal.invariant-loop
invariant-loop l = l.value ≡ turned l.seed l.counter
