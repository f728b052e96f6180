use Rattle.ct_problem.proofs.Base.{rules, arith, common_steps, nested, term, factors_from, one_more, no_more}
use Rattle.ct_problem.proofs.reading.expressions.Grammar.term.Goals as goal

pub loop-turn-init : goal.loop-turn-init
unfolding term
loop-turn-init g c = first_of (search rules, grind (arith, common_steps))

pub returns-in_err-factor : goal.returns-in_err-factor
unfolding factors_from
returns-in_err-factor g c =
    let e = one_more (λ n. factors_from c.args.self.now.names.now c.args.self.now.operators
    (nested c.args.self.now.names.now c.args.self.now.operators c.args.self.now.depth) n c.loop-turn.found c.loop-turn.tokens) _
    c.loop-turn._turn c.loop-turn-test.true c.loop-turn.invariant in
    first_of (search rules, grind (arith, common_steps))

pub loop-turn-preserved : goal.loop-turn-preserved
unfolding factors_from
loop-turn-preserved g c =
    let e = one_more (λ n. factors_from c.args.self.now.names.now c.args.self.now.operators
    (nested c.args.self.now.names.now c.args.self.now.operators c.args.self.now.depth) n c.loop-turn.found c.loop-turn.tokens) _
    c.loop-turn._turn c.loop-turn-test.true c.loop-turn.invariant in
    first_of (search rules, grind (arith, common_steps))

pub returns-then-not-eat : goal.returns-then-not-eat
unfolding factors_from
returns-then-not-eat g c =
    let e = one_more (λ n. factors_from c.args.self.now.names.now c.args.self.now.operators
    (nested c.args.self.now.names.now c.args.self.now.operators c.args.self.now.depth) n c.loop-turn.found c.loop-turn.tokens) _
    c.loop-turn._turn c.loop-turn-test.true c.loop-turn.invariant in
    first_of (search rules, grind (arith, common_steps))

pub returns : goal.returns
unfolding factors_from
returns g c =
    let e = no_more (λ n. factors_from c.args.self.now.names.now c.args.self.now.operators
    (nested c.args.self.now.names.now c.args.self.now.operators c.args.self.now.depth) n c.loop-turn.found c.loop-turn.tokens) _
    c.loop-turn._turn c.loop-turn-test.false c.loop-turn.invariant in
    first_of (search rules, grind (arith, common_steps))
