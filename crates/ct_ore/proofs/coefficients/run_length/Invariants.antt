use Rattle.ct_ore.proofs.Base.{◌-◌, ◌≤◌, length, take, drop}
use Rattle.ct_ore.specs.Lists.{AllHave, StartsOther}
use Rattle.ct_ore.proofs.coefficients.run_length.Given as goal

abbrev pub invariant-halving : goal.invariant-halving
invariant-halving l = record {
  same : AllHave l.m (take l.low l.ts);
  other : StartsOther l.m (drop l.high l.ts);
  order : l.low ≤ l.high;
  within : l.high ≤ length l.ts;
}

abbrev pub decreases-halving : goal.decreases-halving
decreases-halving l = l.high - l.low
