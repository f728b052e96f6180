use Rattle.ct_problem.proofs.Base.{rules, arith, common_steps, declarations_from, one_more, no_more}
use Rattle.ct_problem.proofs.reading.declarations.name_lines.Goals as goal

pub returns-in_default-clause-reads : goal.returns-in_default-clause-reads
unfolding declarations_from
returns-in_default-clause-reads c =
    let e = one_more (λ n. declarations_from n c.loop-turn.names.variables c.loop-turn.tokens) _ c.loop-turn._turn c.loop-turn-test.true
    c.loop-turn.invariant.so_far in
    first_of (search rules, grind (arith, common_steps))

pub returns-in_err-info-clause-reads : goal.returns-in_err-info-clause-reads
unfolding declarations_from
returns-in_err-info-clause-reads c =
    let e = one_more (λ n. declarations_from n c.loop-turn.names.variables c.loop-turn.tokens) _ c.loop-turn._turn c.loop-turn-test.true
    c.loop-turn.invariant.so_far in
    first_of (search rules, grind (arith, common_steps))

pub loop-turn-preserved : goal.loop-turn-preserved
unfolding declarations_from
loop-turn-preserved c =
    let e = one_more (λ n. declarations_from n c.loop-turn.names.variables c.loop-turn.tokens) _ c.loop-turn._turn c.loop-turn-test.true
    c.loop-turn.invariant.so_far in
    first_of (search rules, grind (arith, common_steps))

pub returns-in-None-clause-reads : goal.returns-in-None-clause-reads
unfolding declarations_from
returns-in-None-clause-reads c =
    let e = no_more (λ n. declarations_from n c.loop-turn.names.variables c.loop-turn.tokens) _ c.loop-turn._turn c.loop-turn-test.false
    c.loop-turn.invariant.so_far in
    first_of (search rules, grind (arith, common_steps))

pub returns-in-Some-name_line-clause-reads : goal.returns-in-Some-name_line-clause-reads
unfolding declarations_from
returns-in-Some-name_line-clause-reads c =
    let e = no_more (λ n. declarations_from n c.loop-turn.names.variables c.loop-turn.tokens) _ c.loop-turn._turn c.loop-turn-test.false
    c.loop-turn.invariant.so_far in
    first_of (search rules, grind (arith, common_steps))
