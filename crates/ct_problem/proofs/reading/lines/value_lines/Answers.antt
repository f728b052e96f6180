use Rattle.ct_problem.proofs.Base.{rules, arith, common_steps, value_lines, value_lines_from, one_more, no_more}
use Rattle.ct_problem.proofs.reading.lines.value_lines.Goals as goal

pub loop-turn-init : goal.loop-turn-init
unfolding value_lines
loop-turn-init c = first_of (search rules, grind (arith, common_steps))

pub returns-then-not-eat_word : goal.returns-then-not-eat_word
unfolding value_lines_from
returns-then-not-eat_word c =
    let e = one_more (λ n. value_lines_from c.args.names.now c.args.key.now n c.loop-turn.found c.loop-turn.tokens) _ c.loop-turn._turn
    c.loop-turn-test.true c.loop-turn.invariant in
    first_of (search rules, grind (arith, common_steps))

pub returns-in_err-value : goal.returns-in_err-value
unfolding value_lines_from
returns-in_err-value c =
    let e = one_more (λ n. value_lines_from c.args.names.now c.args.key.now n c.loop-turn.found c.loop-turn.tokens) _ c.loop-turn._turn
    c.loop-turn-test.true c.loop-turn.invariant in
    first_of (search rules, grind (arith, common_steps))

pub loop-turn-preserved : goal.loop-turn-preserved
unfolding value_lines_from
loop-turn-preserved c =
    let e = one_more (λ n. value_lines_from c.args.names.now c.args.key.now n c.loop-turn.found c.loop-turn.tokens) _ c.loop-turn._turn
    c.loop-turn-test.true c.loop-turn.invariant in
    first_of (search rules, grind (arith, common_steps))

pub returns-in_err-no_more : goal.returns-in_err-no_more
unfolding value_lines_from
returns-in_err-no_more c =
    let e = no_more (λ n. value_lines_from c.args.names.now c.args.key.now n c.loop-turn.found c.loop-turn.tokens) _ c.loop-turn._turn
    c.loop-turn-test.false c.loop-turn.invariant in
    first_of (search rules, grind (arith, common_steps))

pub returns : goal.returns
unfolding value_lines_from
returns c =
    let e = no_more (λ n. value_lines_from c.args.names.now c.args.key.now n c.loop-turn.found c.loop-turn.tokens) _ c.loop-turn._turn
    c.loop-turn-test.false c.loop-turn.invariant in
    first_of (search rules, grind (arith, common_steps))
