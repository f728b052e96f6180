use Rattle.ct_problem.proofs.Base.{◌≡◌, ◌-◌, length, den_lines, den_lines_from}
use Rattle.ct_problem.proofs.reading.den_lines.den_lines.Given as goal

abbrev pub invariant-loop-turn : goal.invariant-loop-turn
invariant-loop-turn l = record {
  so_far : den_lines l.fn.names l.fn.tokens ≡ den_lines_from l.fn.names (l._turn-end - l._turn) l.found l.tokens;
  each : length l.found ≡ length l.fn.names.variables;
}
