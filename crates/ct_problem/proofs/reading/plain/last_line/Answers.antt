use Rattle.ct_problem.proofs.Base.{◌∙◌, sym}
use Rattle.ct_problem.proofs.Plainness.{one_byte, no_byte, after_all-None}
use Rattle.ct_problem.proofs.reading.plain.last_line.Goals as goal

pub returns-in-None : goal.returns-in-None
returns-in-None c = sym (one_byte c.loop-b.line c.args.text.now c.loop-b.b-index _ c.loop-b-test.true c.in-None.ensures c.loop-b.invariant
    ∙ after_all-None _)

pub loop-b-preserved : goal.loop-b-preserved
loop-b-preserved c = one_byte c.loop-b.line c.args.text.now c.loop-b.b-index _ c.loop-b-test.true c.in-Some.ensures c.loop-b.invariant

pub returns : goal.returns
returns c = no_byte c.loop-b.line c.args.text.now c.loop-b.b-index c.loop-b-test.false c.loop-b.invariant
