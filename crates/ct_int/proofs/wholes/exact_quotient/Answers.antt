use Rattle.ct_int.proofs.Base.{◌≡◌, ◌∙◌, ap, arith, pos, ◌*ℤ◌, ◌-ℤ◌, neg_ℤ, ◌/◌, unsigned_abs, ◌<ℤ◌, ◌≤ℤ◌, ints, to_z-of_z, w128, cast_signed}
use Rattle.ct_int.proofs.Base.{cast_unsigned, div-le_self}
use Rattle.ct_int.proofs.Scaling.{exact-negative, exact-positive}
use Rattle.ct_int.proofs.wholes.exact_quotient.Goals as goal

pub returns-then-whole-lt0 : goal.returns-then-whole-lt0
returns-then-whole-lt0 c =
    let size : c.unsigned_abs.result ≡ unsigned_abs c.args.whole = c.unsigned_abs.ensures.value
    ∙ ap unsigned_abs (to_z-of_z w128 c.args.whole c.ranges.whole) in
    let below : c.args.whole <ℤ pos 0 = grind (arith, ints) in
    let quotient : cast_signed w128 (cast_unsigned w128 (pos 0 -ℤ cast_signed w128 (c.unsigned_abs.result / c.args.divisor))) ≡
    neg_ℤ (pos (c.unsigned_abs.result / c.args.divisor)) =
    omega (arith, ints, div-le_self c.unsigned_abs.result c.args.divisor, size, c.requires.within) in
    ap (λ z. z *ℤ pos c.args.divisor) (quotient ∙ ap (λ n. neg_ℤ (pos (n / c.args.divisor))) size)
    ∙ exact-negative c.args.whole c.args.divisor c.requires.divides below

pub returns-else-whole-lt0 : goal.returns-else-whole-lt0
returns-else-whole-lt0 c =
    let size : c.unsigned_abs.result ≡ unsigned_abs c.args.whole = c.unsigned_abs.ensures.value
    ∙ ap unsigned_abs (to_z-of_z w128 c.args.whole c.ranges.whole) in
    let above : pos 0 ≤ℤ c.args.whole = grind (arith, ints) in
    let quotient : cast_signed w128 (c.unsigned_abs.result / c.args.divisor) ≡ pos (c.unsigned_abs.result / c.args.divisor) =
    omega (arith, ints, div-le_self c.unsigned_abs.result c.args.divisor, size, c.requires.within) in
    ap (λ z. z *ℤ pos c.args.divisor) (quotient ∙ ap (λ n. pos (n / c.args.divisor)) size)
    ∙ exact-positive c.args.whole c.args.divisor c.requires.divides above
