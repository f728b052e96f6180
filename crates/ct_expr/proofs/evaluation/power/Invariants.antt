use Rattle.ct_expr.proofs.Base.{◌≡◌, ◌-◌, actions_of}
use Rattle.ct_expr.specs.Value.{power_from, one_value}
use Rattle.ct_expr.proofs.evaluation.power.Given as goal

abbrev pub invariant-loop-turn : goal.invariant-loop-turn
invariant-loop-turn l = power_from (actions_of l.algebra) one_value l.exponent l.base ≡ power_from (actions_of l.algebra) l.so_far
    (l.exponent - l._turn) l.base
