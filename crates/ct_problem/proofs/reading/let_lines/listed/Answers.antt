use Rattle.ct_problem.proofs.Base.{rules, arith, common_steps, listed_from, one_more, no_more}
use Rattle.ct_problem.proofs.reading.let_lines.listed.Goals as goal

pub returns-in_err-expression : goal.returns-in_err-expression
unfolding listed_from
returns-in_err-expression c =
    let e = one_more (λ n. listed_from c.args.names.now n c.loop-turn.found c.loop-turn.tokens) _ c.loop-turn._turn c.loop-turn-test.true
    c.loop-turn.invariant in
    first_of (search rules, grind (arith, common_steps))

pub returns-then-not-eat : goal.returns-then-not-eat
unfolding listed_from
returns-then-not-eat c =
    let e = one_more (λ n. listed_from c.args.names.now n c.loop-turn.found c.loop-turn.tokens) _ c.loop-turn._turn c.loop-turn-test.true
    c.loop-turn.invariant in
    first_of (search rules, grind (arith, common_steps))

pub loop-turn-preserved : goal.loop-turn-preserved
unfolding listed_from
loop-turn-preserved c =
    let e = one_more (λ n. listed_from c.args.names.now n c.loop-turn.found c.loop-turn.tokens) _ c.loop-turn._turn c.loop-turn-test.true
    c.loop-turn.invariant in
    first_of (search rules, grind (arith, common_steps))

pub returns : goal.returns
unfolding listed_from
returns c =
    let e = no_more (λ n. listed_from c.args.names.now n c.loop-turn.found c.loop-turn.tokens) _ c.loop-turn._turn c.loop-turn-test.false
    c.loop-turn.invariant in
    first_of (search rules, grind (arith, common_steps))
