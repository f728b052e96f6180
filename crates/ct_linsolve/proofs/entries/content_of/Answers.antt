use Rattle.ct_linsolve.proofs.Base.{◌≡◌, arith, rules, largest_norm}
use Rattle.ct_linsolve.proofs.RowContents.{gathering_start, gathered, gathered_all, gathered_to_one, gcd_within}
use Rattle.ct_linsolve.proofs.entries.content_of.Goals as goal

pub gathering-init : goal.gathering-init
gathering-init c = (gathering_start c.args.row.now, omega arith)

pub gathering-preserved : goal.gathering-preserved
gathering-preserved c = (
  gathered c.in-Some.ensures.cases.0 c.content.ensures.value c.gcd-divisor.ensures c.gathering.invariant.0,
  gcd_within _ _ _ largest_norm c.gcd-divisor.ensures c.content.ensures.within c.gathering.invariant.1,
)

pub returns-clause-divisors : goal.returns-clause-divisors
returns-clause-divisors c = gathered_all c.in_default.ensures.cases c.gathering.invariant.0

pub returns-then-divisor-eq1-clause-divisors : goal.returns-then-divisor-eq1-clause-divisors
returns-then-divisor-eq1-clause-divisors c =
    let one : c.gcd-divisor.result ≡ 1 = search rules in
    gathered_to_one one (gathered c.in-Some.ensures.cases.0 c.content.ensures.value c.gcd-divisor.ensures c.gathering.invariant.0)
