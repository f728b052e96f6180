use Rattle.ct_problem.proofs.OneReading as reading
use Rattle.ct_problem.proofs.laws.texts_stand_for_one_report.Goals as goal

pub returns : goal.returns
returns c = reading.one_report
