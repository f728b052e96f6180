use Rattle.ct_problem.proofs.Base.{rules, arith, common_steps, den_line}
use Rattle.ct_problem.proofs.GivenDens.{with_den-slice_set}
use Rattle.ct_problem.proofs.reading.den_lines.den_line.Goals as goal

pub returns-clause-reads : goal.returns-clause-reads
unfolding den_line
returns-clause-reads c = first_of (search rules, grind (arith, common_steps, with_den-slice_set))
