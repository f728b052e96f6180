use Rattle.ct_problem.proofs.Base.{◌≡◌, ◌-◌, value_lines, value_lines_from}
use Rattle.ct_problem.proofs.reading.lines.value_lines.Given as goal

abbrev pub invariant-loop-turn : goal.invariant-loop-turn
invariant-loop-turn l = value_lines l.fn.names l.fn.key l.fn.tokens ≡ value_lines_from l.fn.names l.fn.key (16 - l._turn) l.found l.tokens
