use Rattle.ct_expr.proofs.Base.{◌-◌, ◌+◌, rules, arith, actions_of}
use Rattle.std.proofs.lemmas.Grind.{common_steps}
use Rattle.ct_expr.specs.ValueArithmetic.{checked_times}
use Rattle.ct_expr.specs.Value.{power_from}
use Rattle.ct_expr.proofs.Turns.{one_more, no_more}
use Rattle.ct_expr.proofs.Answering.{passes_on}
use Rattle.ct_expr.proofs.evaluation.power.Goals as goal

pub returns-in_err-so_far-2 : goal.returns-in_err-so_far-2
unfolding power_from
returns-in_err-so_far-2 c =
    let a = actions_of c.args.algebra.now in
    let base = c.args.base.now in
    let e = one_more (λ n. power_from a c.loop-turn.so_far n base) _ c.loop-turn._turn c.loop-turn-test.true c.loop-turn.invariant in
    rw e (passes_on (checked_times a c.loop-turn.so_far base)
    (λ more. power_from a more (c.args.exponent - (c.loop-turn._turn + 1)) base) _ _ c.from_residual-in_err-so_far-2.ensures
    c.in_err-so_far-2.ensures)

pub loop-turn-preserved : goal.loop-turn-preserved
unfolding power_from
loop-turn-preserved c =
    let e = one_more (λ n. power_from (actions_of c.args.algebra.now) c.loop-turn.so_far n c.args.base.now) _ c.loop-turn._turn c.loop-turn-test.true
    c.loop-turn.invariant in
    first_of (search rules, grind (arith, common_steps))

pub returns : goal.returns
unfolding power_from
returns c = no_more (λ n. power_from (actions_of c.args.algebra.now) c.loop-turn.so_far n c.args.base.now) _ c.loop-turn._turn c.loop-turn-test.false
    c.loop-turn.invariant
