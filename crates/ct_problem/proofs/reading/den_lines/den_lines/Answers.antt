use Rattle.ct_problem.proofs.Base.{rules, arith, common_steps, den_lines, den_lines_from, one_more, no_more}
use Rattle.ct_problem.proofs.reading.den_lines.den_lines.Goals as goal

pub loop-turn-init : goal.loop-turn-init
unfolding den_lines
loop-turn-init c = first_of (search rules, grind (arith, common_steps))

pub returns-then-not-sees_word : goal.returns-then-not-sees_word
unfolding den_lines_from
returns-then-not-sees_word c =
    let e = one_more (λ n. den_lines_from c.args.names.now n c.loop-turn.found c.loop-turn.tokens) _ c.loop-turn._turn c.loop-turn-test.true
    c.loop-turn.invariant.so_far in
    first_of (search rules, grind (arith, common_steps))

pub returns-in_err-den_line : goal.returns-in_err-den_line
unfolding den_lines_from
returns-in_err-den_line c =
    let e = one_more (λ n. den_lines_from c.args.names.now n c.loop-turn.found c.loop-turn.tokens) _ c.loop-turn._turn c.loop-turn-test.true
    c.loop-turn.invariant.so_far in
    first_of (search rules, grind (arith, common_steps))

pub loop-turn-preserved : goal.loop-turn-preserved
unfolding den_lines_from
loop-turn-preserved c =
    let e = one_more (λ n. den_lines_from c.args.names.now n c.loop-turn.found c.loop-turn.tokens) _ c.loop-turn._turn c.loop-turn-test.true
    c.loop-turn.invariant.so_far in
    first_of (search rules, grind (arith, common_steps))

pub returns-in_err-no_more : goal.returns-in_err-no_more
unfolding den_lines_from
returns-in_err-no_more c =
    let e = no_more (λ n. den_lines_from c.args.names.now n c.loop-turn.found c.loop-turn.tokens) _ c.loop-turn._turn c.loop-turn-test.false
    c.loop-turn.invariant.so_far in
    first_of (search rules, grind (arith, common_steps))

pub returns : goal.returns
unfolding den_lines_from
returns c =
    let e = no_more (λ n. den_lines_from c.args.names.now n c.loop-turn.found c.loop-turn.tokens) _ c.loop-turn._turn c.loop-turn-test.false
    c.loop-turn.invariant.so_far in
    first_of (search rules, grind (arith, common_steps))
