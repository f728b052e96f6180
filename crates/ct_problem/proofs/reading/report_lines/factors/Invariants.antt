use Rattle.ct_problem.proofs.Base.{◌≡◌, [], drop}
use Rattle.ct_problem.specs.ReportLines as rules
use Rattle.ct_problem.proofs.reading.report_lines.factors.Given as goal

abbrev pub invariant-loop-text : goal.invariant-loop-text
invariant-loop-text l = rules.each_of (rules.factor l.fn.names) l.summed [] l.fn.tokens ≡ rules.each_of (rules.factor l.fn.names)
    (drop l.text-index l.summed) l.found l.tokens
