use Rattle.ct_int.proofs.Base.{rules, ◌≡◌, ◌∙◌, ap, ap₂, arith, pos, ◌+◌, ◌*◌, ◌≤◌, ◌+ℤ◌, ◌*ℤ◌, unsigned_abs, w128, cast_signed, cast_unsigned, ints}
use Rattle.ct_int.proofs.Base.{to_z-of_z, unsigned_abs-mul}
use Rattle.ct_int.specs.Limits.{largest_whole}
use Rattle.ct_int.proofs.wholes.weighted_sum.Goals as goal

pub returns-else-unsigned_abs : goal.returns-else-unsigned_abs
returns-else-unsigned_abs c =
    let x = c.in_ok-first.first in
    let y = c.in_ok-second.second in
    let first_scale : cast_signed w128 c.args.j ≡ pos c.args.j = omega (arith, ints, c.requires.first) in
    let second_scale : cast_signed w128 c.args.k ≡ pos c.args.k = omega (arith, ints, c.requires.second) in
    let first : x ≡ c.args.a *ℤ pos c.args.j = c.in_ok-first.ensures.0 ∙ ap₂ (λ m n. m *ℤ n) (to_z-of_z w128 c.args.a c.ranges.a) first_scale in
    let second : y ≡ c.args.b *ℤ pos c.args.k = c.in_ok-second.ensures.0 ∙ ap₂ (λ m n. m *ℤ n) (to_z-of_z w128 c.args.b c.ranges.b) second_scale in
    let first_size : unsigned_abs x ≡ unsigned_abs c.args.a * c.args.j = ap unsigned_abs first ∙ unsigned_abs-mul c.args.a (pos c.args.j) in
    let second_size : unsigned_abs y ≡ unsigned_abs c.args.b * c.args.k = ap unsigned_abs second ∙ unsigned_abs-mul c.args.b (pos c.args.k) in
    let first_read : c.unsigned_abs.result ≡ unsigned_abs x = c.unsigned_abs.ensures.value ∙ ap unsigned_abs (to_z-of_z w128 x (search rules)) in
    let second_read : c.unsigned_abs-2.result ≡ unsigned_abs y = c.unsigned_abs-2.ensures.value ∙ ap unsigned_abs (to_z-of_z w128 y (search rules)) in
    let sizes : unsigned_abs x + unsigned_abs y ≤ largest_whole =
    omega (arith, first_read, second_read, c.if-unsigned_abs.false, c.in_ok-first.ensures.1) in
    let sum : cast_signed w128 (cast_unsigned w128 (cast_signed w128 (cast_unsigned w128 x) +ℤ cast_signed w128 (cast_unsigned w128 y))) ≡ x +ℤ y =
    omega (arith, ints, sizes) in
    (sum ∙ ap₂ (λ m n. m +ℤ n) first second, omega (arith, sizes, first_size, second_size))
