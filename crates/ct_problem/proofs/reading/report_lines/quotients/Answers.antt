use Rattle.ct_problem.proofs.Base.{rules, arith, common_steps, one_item, no_item}
use Rattle.ct_problem.specs.ReportLines as rules
use Rattle.ct_problem.proofs.reading.report_lines.quotients.Goals as goal

pub returns-in_err-quotient : goal.returns-in_err-quotient
unfolding rules.each_of
returns-in_err-quotient c =
    let e = one_item (λ texts. rules.each_of (rules.quotient c.args.names.now) texts c.loop-text.found c.loop-text.tokens) c.args.summed.now
    c.loop-text.text-index c.text-item.result c.loop-text-test.true c.text-item.is c.loop-text.invariant in
    first_of (search rules, grind (arith, common_steps))

pub loop-text-preserved : goal.loop-text-preserved
unfolding rules.each_of
loop-text-preserved c =
    let e = one_item (λ texts. rules.each_of (rules.quotient c.args.names.now) texts c.loop-text.found c.loop-text.tokens) c.args.summed.now
    c.loop-text.text-index c.text-item.result c.loop-text-test.true c.text-item.is c.loop-text.invariant in
    first_of (search rules, grind (arith, common_steps))

pub returns : goal.returns
unfolding rules.each_of
returns c =
    let e = no_item (λ texts. rules.each_of (rules.quotient c.args.names.now) texts c.loop-text.found c.loop-text.tokens) c.args.summed.now
    c.loop-text.text-index c.loop-text-test.false c.loop-text.invariant in
    first_of (search rules, grind (arith, common_steps))
