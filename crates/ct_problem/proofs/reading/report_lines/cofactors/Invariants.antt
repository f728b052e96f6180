use Rattle.ct_problem.proofs.Base.{◌≡◌, ◌+◌, ◌-◌, [], cofactors_from}
use Rattle.ct_problem.proofs.reading.report_lines.cofactors.Given as goal

abbrev pub invariant-loop-turn : goal.invariant-loop-turn
invariant-loop-turn l = cofactors_from l.fn.names 1 l.generators [] l.fn.tokens ≡ cofactors_from l.fn.names (l.turn + 1)
    (l.generators - l.turn) l.found l.tokens
