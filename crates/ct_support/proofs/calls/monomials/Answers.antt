use Rattle.ct_support.proofs.Base.{◌*◌, ◌+◌, ◌≤◌, ◌∙◌, ap, ap₂, arith, mul-le-mul}
use Rattle.std.specs.Prelude.{◌/◌}
use Rattle.ct_support.proofs.Binomials.{next_count, few_of_three}
use Rattle.ct_support.proofs.calls.monomials.Goals as goal

pub overflow_mul-number : goal.overflow_mul-number
overflow_mul-number c =
    let few = few_of_three c.args.degree (omega (arith, c.ranges.degree.fits)) c.loop-n.n (omega (arith, c.loop-n-test.true, c.requires)) in
    let product : c.loop-n.number * (c.from.result + c.from-in-loop-n.result + 1) ≤ 46914643623936 * 65540 =
    mul-le-mul {n₂ = 46914643623936} {m₂ = 65540} (omega (arith, few, c.loop-n.invariant))
    (omega (arith, c.from.ensures, c.from-in-loop-n.ensures, c.ranges.degree.fits, c.loop-n-test.true, c.requires)) in
    omega (arith, product)

pub loop-n-preserved : goal.loop-n-preserved
loop-n-preserved c =
    ap₂ (λ a b. c.loop-n.number * (a + b + 1) / (c.from-in-loop-n-2.result + 1)) c.from.ensures c.from-in-loop-n.ensures
    ∙ ap (λ b. c.loop-n.number * (c.args.degree + c.loop-n.n + 1) / (b + 1)) c.from-in-loop-n-2.ensures
    ∙ next_count c.loop-n.n c.args.degree c.loop-n.number c.loop-n.invariant
