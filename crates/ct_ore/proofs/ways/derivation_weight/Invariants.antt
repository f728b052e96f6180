use Rattle.ct_ore.proofs.Base.{◌≡◌, ◌≤◌, ◌*◌, largest_norm}
use Rattle.ct_ore.specs.Bounds.{IsCapped}
use Rattle.ct_ore.specs.Kinds.{choose, falling_power, ways_below}
use Rattle.ct_ore.proofs.ways.derivation_weight.Given as goal

abbrev pub invariant-loop-j : goal.invariant-loop-j
invariant-loop-j l = record {
  sum : IsCapped (ways_below l.j l.k l.e) l.weight;
  this : l.way ≡ choose l.k l.j * falling_power l.e l.j;
  small : l.way ≤ largest_norm;
}
