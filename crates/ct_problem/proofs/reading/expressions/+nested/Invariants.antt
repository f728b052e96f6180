use Rattle.ct_problem.proofs.reading.expressions.+nested.Given as goal

abbrev pub decreases-nested : goal.decreases-nested
decreases-nested l = l.depth
