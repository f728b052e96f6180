use Rattle.ct_problem.proofs.Base.{◌≡◌, ◌-◌, ◌≤◌, length, let_lines, let_lines_from, definitions_of}
use Rattle.ct_problem.proofs.reading.let_lines.let_lines.Given as goal

abbrev pub invariant-loop-turn : goal.invariant-loop-turn
invariant-loop-turn l = record {
  so_far : let_lines l.fn.names.variables l.fn.tokens ≡ let_lines_from l.names.variables (8 - l._turn) (definitions_of l.names.lets l.found) l.tokens;
  variables : l.names.variables ≡ l.fn.names.variables;
  a_name_each : length l.names.lets ≡ length l.found;
  few : length l.found ≤ l._turn;
}
