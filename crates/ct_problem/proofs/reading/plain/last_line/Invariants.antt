use Rattle.ct_problem.proofs.Base.{◌≡◌, drop, Some, after_all, Ended}
use Rattle.ct_problem.proofs.reading.plain.last_line.Given as goal

abbrev pub invariant-loop-b : goal.invariant-loop-b
invariant-loop-b l = after_all (Some Ended) l.text ≡ after_all (Some l.line) (drop l.b-index l.text)
