use Rattle.ct_problem.proofs.Base.{◌≡◌, ap, arith, rules, common_steps, nested, deeper}
use Rattle.ct_problem.proofs.reading.expressions.+nested.Goals as goal

pub returns-then-depth-eq0 : goal.returns-then-depth-eq0
unfolding nested
returns-then-depth-eq0 t c = let none : c.args.depth ≡ 0 = omega arith in
    rw c.fault.ensures (ap (λ n. nested c.args.names.now c.args.operators n c.args.tokens.now) none)

pub returns-in_err-inner : goal.returns-in_err-inner
unfolding nested
returns-in_err-inner t c = rw (deeper (λ n. nested c.args.names.now c.args.operators n c.args.tokens.now) c.args.depth (omega arith))
    (first_of (search rules, grind (arith, common_steps)))

pub returns-in_err-expect : goal.returns-in_err-expect
unfolding nested
returns-in_err-expect t c = rw (deeper (λ n. nested c.args.names.now c.args.operators n c.args.tokens.now) c.args.depth (omega arith))
    (first_of (search rules, grind (arith, common_steps)))

pub returns : goal.returns
unfolding nested
returns t c = rw (deeper (λ n. nested c.args.names.now c.args.operators n c.args.tokens.now) c.args.depth (omega arith))
    (first_of (search rules, grind (arith, common_steps)))
