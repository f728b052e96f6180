use Rattle.ct_int.proofs.Base.{rules, ℕ, ℤ, ◌≡◌, sym, ◌∙◌, ap, ap₂, arith, pos, neg_ℤ, subst, unsigned_abs, ◌<ℤ◌, ◌≤ℤ◌, ◌≢◌, w128, cast_signed, ints}
use Rattle.ct_int.proofs.Base.{to_z-of_z}
use Rattle.ct_int.proofs.OperationLaws.{IsRational-reciprocal, ratio-negative, ratio-positive}
use Rattle.ct_int.specs.Rational.{Ratio, ratio}
use Rattle.ct_int.specs.Limits.{IsRational}
use Rattle.ct_int.proofs.rat.Rat.reciprocal.Goals.{then-self-lt0, else-self-lt0}
use Rattle.ct_int.proofs.rat.Rat.reciprocal.Goals as goal

pub invariant_of-result : goal.invariant_of-result
invariant_of-result c =
    let r = ratio c.self.inside.num (pos c.self.inside.den) in
    let size : c.unsigned_abs.result ≡ unsigned_abs c.self.inside.num = c.unsigned_abs.ensures.value
    ∙ ap unsigned_abs (to_z-of_z w128 c.self.inside.num (search rules)) in
    let apart : Ratio → Type 0 = λ s. s.num ≢ pos 0 in
    let turned : IsRational (ratio (pos c.self.inside.den) c.self.inside.num) =
    IsRational-reciprocal r c.self.invariant (subst apart (sym c.self.view_is) c.requires) in
    let placed = λ (z : ℤ) (n : ℕ). ratio z (pos n) in
    elim c.if-self-lt0.branch [
      | then-self-lt0 w ↦
          let below : c.self.inside.num <ℤ pos 0 = grind (arith, ints) in
          let num : cast_signed w128 c.if-self-lt0.result-bits ≡ neg_ℤ (pos c.self.inside.den) =
          omega (arith, ints, w.result-is, c.self.invariant.den_within) in
          subst IsRational (ratio-negative (pos c.self.inside.den) c.self.inside.num below ∙ ap₂ placed (sym num) (sym size)) turned
      | else-self-lt0 w ↦
          let above : pos 0 ≤ℤ c.self.inside.num = grind (arith, ints) in
          let num : cast_signed w128 c.if-self-lt0.result-bits ≡ pos c.self.inside.den =
          omega (arith, ints, w.result-is, c.self.invariant.den_within) in
          subst IsRational (ratio-positive (pos c.self.inside.den) c.self.inside.num above ∙ ap₂ placed (sym num) (sym size)) turned
    ]
