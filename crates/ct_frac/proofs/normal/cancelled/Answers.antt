use Rattle.ct_frac.proofs.Base.{sym, subst, arith, IsGcd}
use Rattle.ct_frac.specs.Written.{IsWritten, IsDenominator}
use Rattle.ct_int.proofs.CommonDivisors.{divisor_positive, divisor_small}
use Rattle.ct_frac.proofs.NormalLaws.{cancelled_is}
use Rattle.ct_frac.proofs.normal.cancelled.Goals as goal

pub divided_by_number-requires-clause-within : goal.divided_by_number-requires-clause-within
divided_by_number-requires-clause-within c =
    let small = divisor_small _ _ _ c.requires.positive c.gcd-divisor.ensures in let within = c.requires.within in omega arith

pub divided_by_number-requires-clause-divides : goal.divided_by_number-requires-clause-divides
divided_by_number-requires-clause-divides c =
    (subst (λ m. IsGcd m c.args.whole c.gcd-divisor.result) c.content.ensures.value c.gcd-divisor.ensures).0

pub nonzero_div-den : goal.nonzero_div-den
nonzero_div-den c = divisor_positive _ _ _ c.requires.positive c.gcd-divisor.ensures

pub invariant_of-den : goal.invariant_of-den
invariant_of-den c =
    let is = subst (λ m. IsGcd m c.args.whole c.gcd-divisor.result) c.content.ensures.value c.gcd-divisor.ensures in
    let made = cancelled_is c.args.rest.numerator c.in_ok-numerator.numerator c.args.whole c.gcd-divisor.result c.args.rest.factors.items
    c.requires.positive is c.in_ok-numerator.ensures in
    subst (λ w. IsDenominator w.den) (sym made) c.requires.written.den

pub invariant_of-result : goal.invariant_of-result
invariant_of-result c =
    let is = subst (λ m. IsGcd m c.args.whole c.gcd-divisor.result) c.content.ensures.value c.gcd-divisor.ensures in
    let made = cancelled_is c.args.rest.numerator c.in_ok-numerator.numerator c.args.whole c.gcd-divisor.result c.args.rest.factors.items
    c.requires.positive is c.in_ok-numerator.ensures in
    subst IsWritten (sym made) c.requires.written

pub returns : goal.returns
returns c =
    let is = subst (λ m. IsGcd m c.args.whole c.gcd-divisor.result) c.content.ensures.value c.gcd-divisor.ensures in
    cancelled_is c.args.rest.numerator c.in_ok-numerator.numerator c.args.whole c.gcd-divisor.result c.args.rest.factors.items c.requires.positive is
    c.in_ok-numerator.ensures
