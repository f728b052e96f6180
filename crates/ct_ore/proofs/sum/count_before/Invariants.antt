use Rattle.ct_ore.proofs.Base.{◌-◌, ◌≤◌, length}
use Rattle.ct_ore.specs.Lists.{IsBefore}
use Rattle.ct_ore.proofs.sum.count_before.Given as goal

abbrev pub invariant-halving : goal.invariant-halving
invariant-halving l = record {
  before : IsBefore l.b l.ts l.low;
  order : l.low ≤ l.high;
  within : l.high ≤ length l.ts;
}

abbrev pub decreases-halving : goal.decreases-halving
decreases-halving l = l.high - l.low
