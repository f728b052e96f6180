use Rattle.ct_ore.proofs.Base.{◌+◌, ◌^◌}
use Rattle.ct_ore.specs.Bounds.{IsCapped}
use Rattle.ct_ore.proofs.ways.shift_weight.Given as goal

abbrev pub invariant-loop-j : goal.invariant-loop-j
invariant-loop-j l = IsCapped ((1 + l.k) ^ l.j) l.weight
