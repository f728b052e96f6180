use Rattle.ct_problem.proofs.Base.{rules, arith, common_steps, let_lines, let_lines_from, definitions_of, one_more, no_more}
use Rattle.ct_problem.proofs.Definitions.{definitions_of-more, definitions-named}
use Rattle.ct_problem.proofs.reading.let_lines.let_lines.Goals as goal

pub loop-turn-init : goal.loop-turn-init
unfolding let_lines
loop-turn-init c = first_of (search rules, grind (arith, common_steps))

pub returns-then-not-eat_word-clause-reads : goal.returns-then-not-eat_word-clause-reads
unfolding let_lines_from
returns-then-not-eat_word-clause-reads c =
    let e = one_more (λ n. let_lines_from c.loop-turn.names.variables n (definitions_of c.loop-turn.names.lets c.loop-turn.found) c.loop-turn.tokens)
    _ c.loop-turn._turn c.loop-turn-test.true c.loop-turn.invariant.so_far in
    let named = definitions-named c.loop-turn.names c.loop-turn.found c.loop-turn.invariant.a_name_each in
    first_of (search rules, grind (arith, common_steps, definitions_of-more))

pub returns-in_err-definition-clause-reads : goal.returns-in_err-definition-clause-reads
unfolding let_lines_from
returns-in_err-definition-clause-reads c =
    let e = one_more (λ n. let_lines_from c.loop-turn.names.variables n (definitions_of c.loop-turn.names.lets c.loop-turn.found) c.loop-turn.tokens)
    _ c.loop-turn._turn c.loop-turn-test.true c.loop-turn.invariant.so_far in
    let named = definitions-named c.loop-turn.names c.loop-turn.found c.loop-turn.invariant.a_name_each in
    first_of (search rules, grind (arith, common_steps, definitions_of-more))

pub loop-turn-preserved : goal.loop-turn-preserved
unfolding let_lines_from
loop-turn-preserved c =
    let e = one_more (λ n. let_lines_from c.loop-turn.names.variables n (definitions_of c.loop-turn.names.lets c.loop-turn.found) c.loop-turn.tokens)
    _ c.loop-turn._turn c.loop-turn-test.true c.loop-turn.invariant.so_far in
    let named = definitions-named c.loop-turn.names c.loop-turn.found c.loop-turn.invariant.a_name_each in
    first_of (search rules, grind (arith, common_steps, definitions_of-more))

pub returns-in_err-no_more-clause-reads : goal.returns-in_err-no_more-clause-reads
unfolding let_lines_from
returns-in_err-no_more-clause-reads c =
    let e = no_more (λ n. let_lines_from c.loop-turn.names.variables n (definitions_of c.loop-turn.names.lets c.loop-turn.found) c.loop-turn.tokens) _
    c.loop-turn._turn c.loop-turn-test.false c.loop-turn.invariant.so_far in
    let named = definitions-named c.loop-turn.names c.loop-turn.found c.loop-turn.invariant.a_name_each in
    first_of (search rules, grind (arith, common_steps, definitions_of-more))

pub returns-clause-reads : goal.returns-clause-reads
unfolding let_lines_from
returns-clause-reads c =
    let e = no_more (λ n. let_lines_from c.loop-turn.names.variables n (definitions_of c.loop-turn.names.lets c.loop-turn.found) c.loop-turn.tokens) _
    c.loop-turn._turn c.loop-turn-test.false c.loop-turn.invariant.so_far in
    let named = definitions-named c.loop-turn.names c.loop-turn.found c.loop-turn.invariant.a_name_each in
    first_of (search rules, grind (arith, common_steps, definitions_of-more))
