use Rattle.ct_problem.proofs.Base.{arith, common_steps, length-map, map-append, take_all, take_more}
use Rattle.ct_problem.proofs.reading.names_of.Goals as goal

pub loop-info-preserved : goal.loop-info-preserved
loop-info-preserved c = grind (arith, common_steps, map-append, take_more)

pub of-requires : goal.of-requires
of-requires c = grind (arith, common_steps, length-map, take_all)

pub returns : goal.returns
returns c = grind (arith, common_steps, take_all)
