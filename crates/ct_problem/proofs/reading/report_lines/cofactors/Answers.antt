use Rattle.ct_problem.proofs.Base.{rules, arith, ◌+◌, common_steps, cofactors_from, one_more, no_more}
use Rattle.ct_problem.proofs.reading.report_lines.cofactors.Goals as goal

pub returns-in_err-cofactor : goal.returns-in_err-cofactor
unfolding cofactors_from
returns-in_err-cofactor c =
    let e = one_more (λ n. cofactors_from c.args.names.now (c.loop-turn.turn + 1) n c.loop-turn.found c.loop-turn.tokens) _ c.loop-turn.turn
    c.loop-turn-test.true c.loop-turn.invariant in
    first_of (search rules, grind (arith, common_steps))

pub loop-turn-preserved : goal.loop-turn-preserved
unfolding cofactors_from
loop-turn-preserved c =
    let e = one_more (λ n. cofactors_from c.args.names.now (c.loop-turn.turn + 1) n c.loop-turn.found c.loop-turn.tokens) _ c.loop-turn.turn
    c.loop-turn-test.true c.loop-turn.invariant in
    first_of (search rules, grind (arith, common_steps))

pub returns : goal.returns
unfolding cofactors_from
returns c =
    let e = no_more (λ n. cofactors_from c.args.names.now (c.loop-turn.turn + 1) n c.loop-turn.found c.loop-turn.tokens) _ c.loop-turn.turn
    c.loop-turn-test.false c.loop-turn.invariant in
    first_of (search rules, grind (arith, common_steps))
