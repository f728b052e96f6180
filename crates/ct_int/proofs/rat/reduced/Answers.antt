use Rattle.ct_int.proofs.Base.{rules, sym, pos, subst, w128, to_z-of_z}
use Rattle.ct_int.proofs.LowestTerms.{lowest-cancelled, IsRational-cancelled}
use Rattle.ct_int.specs.Rational.{IsLowestTerms, IsCancelled, ratio}
use Rattle.ct_int.specs.Limits.{IsRational}
use Rattle.ct_int.proofs.rat.reduced.Goals as goal

pub invariant_of-result : goal.invariant_of-result
invariant_of-result c =
    let num = to_z-of_z w128 c.args.num c.ranges.num in
    let quotient = to_z-of_z w128 c.cancelled-num.result.0 (search rules) in
    let parts = subst (λ n. IsCancelled (ratio n (pos c.args.den)) (ratio c.cancelled-num.result.0 (pos c.cancelled-num.result.1))) num
    c.cancelled-num.ensures in
    subst (λ n. IsRational (ratio n (pos c.cancelled-num.result.1))) (sym quotient)
    (IsRational-cancelled (ratio c.args.num (pos c.args.den))
    (ratio c.cancelled-num.result.0 (pos c.cancelled-num.result.1)) c.requires.positive c.requires.num_within c.requires.den_within parts)

pub returns : goal.returns
returns c =
    let num = to_z-of_z w128 c.args.num c.ranges.num in
    let quotient = to_z-of_z w128 c.cancelled-num.result.0 (search rules) in
    let parts = subst (λ n. IsCancelled (ratio n (pos c.args.den)) (ratio c.cancelled-num.result.0 (pos c.cancelled-num.result.1))) num
    c.cancelled-num.ensures in
    subst (λ n. IsLowestTerms (ratio c.args.num (pos c.args.den)) (ratio n (pos c.cancelled-num.result.1))) (sym quotient)
    (lowest-cancelled (ratio c.args.num (pos c.args.den))
    (ratio c.cancelled-num.result.0 (pos c.cancelled-num.result.1)) c.requires.positive parts)
