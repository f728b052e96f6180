use Rattle.ct_problem.proofs.Base.{◌≡◌, ◌-◌, ◌≤◌, [], length, declarations_from}
use Rattle.ct_problem.proofs.reading.declarations.name_lines.Given as goal

abbrev pub invariant-loop-turn : goal.invariant-loop-turn
invariant-loop-turn l = record {
  so_far : declarations_from 6 [] l.fn.tokens ≡ declarations_from (6 - l._turn) l.names.variables l.tokens;
  no_lets : l.names.lets ≡ [];
  few : length l.names.variables ≤ l._turn;
}
