use Rattle.ct_frac.proofs.Base.{◌≡◌, ◌≤◌, ◌+◌, Ok, ◌∙◌, ap, arith, largest_degree}
use Rattle.ct_frac.proofs.Limits.{exponent_fits, exponent_passes}
use Rattle.ct_frac.proofs.sum.exponent_sum.Goals as goal

pub returns-then-sum-from : goal.returns-then-sum-from
returns-then-sum-from c =
    exponent_passes (c.args.a + c.args.b) (grind (arith, c.saturating_add-sum.ensures, c.from.ensures, c.if-sum-from.true))

pub returns-else-sum-from : goal.returns-else-sum-from
returns-else-sum-from c =
    let same : c.args.a + c.args.b ≡ c.saturating_add-sum.result = grind (arith, c.saturating_add-sum.ensures, c.from.ensures, c.if-sum-from.false) in
    let low : c.args.a + c.args.b ≤ largest_degree = grind (arith, c.saturating_add-sum.ensures, c.from.ensures, c.if-sum-from.false) in
    exponent_fits (c.args.a + c.args.b) low ∙ ap Ok same
