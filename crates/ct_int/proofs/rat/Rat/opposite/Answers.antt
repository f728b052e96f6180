use Rattle.ct_int.proofs.Base.{◌≡◌, sym, arith, pos, ◌-ℤ◌, neg_ℤ, subst, w128, cast_signed, cast_unsigned, ints}
use Rattle.ct_int.proofs.OperationLaws.{IsRational-opposite}
use Rattle.ct_int.specs.Rational.{ratio}
use Rattle.ct_int.specs.Limits.{IsRational}
use Rattle.ct_int.proofs.rat.Rat.opposite.Goals as goal

pub invariant_of-result : goal.invariant_of-result
invariant_of-result c =
    let negated : cast_signed w128 (cast_unsigned w128 (pos 0 -ℤ cast_signed w128 (cast_unsigned w128 c.self.inside.num))) ≡ neg_ℤ c.self.inside.num =
    omega (arith, ints, c.self.invariant.num_within) in
    subst (λ z. IsRational (ratio z (pos c.self.inside.den))) (sym negated)
    (IsRational-opposite (ratio c.self.inside.num (pos c.self.inside.den)) c.self.invariant)
