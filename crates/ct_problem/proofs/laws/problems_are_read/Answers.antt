use Rattle.ct_problem.proofs.ReadTexts as reading
use Rattle.ct_problem.proofs.laws.problems_are_read.Goals as goal

pub returns : goal.returns
returns c = reading.problems_are_read
