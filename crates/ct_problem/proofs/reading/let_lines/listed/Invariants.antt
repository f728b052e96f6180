use Rattle.ct_problem.proofs.Base.{◌≡◌, ◌-◌, [], listed_from}
use Rattle.ct_problem.proofs.reading.let_lines.listed.Given as goal

abbrev pub invariant-loop-turn : goal.invariant-loop-turn
invariant-loop-turn l = listed_from l.fn.names 16 [] l.fn.tokens ≡ listed_from l.fn.names (16 - l._turn) l.found l.tokens
