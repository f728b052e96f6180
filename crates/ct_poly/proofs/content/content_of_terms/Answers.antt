use Rattle.ct_poly.proofs.Base.{◌≡◌, unsigned_abs, FitsSigned, rules, w128, to_z-of_z}
use Rattle.ct_poly.proofs.Contents.{gathering_start, gathered, gathered_all, gathered_to_one}
use Rattle.ct_poly.proofs.content.content_of_terms.Goals as goal

pub gathering-init : goal.gathering-init
gathering-init c = gathering_start c.args.ts.now

pub gathering-preserved : goal.gathering-preserved
gathering-preserved c =
    let fits : FitsSigned w128 c.in-Some.t.now.coef = search rules in
    let size : c.unsigned_abs.result ≡ unsigned_abs c.in-Some.t.now.coef = simp to_z-of_z at c.unsigned_abs.ensures.value in
    gathered c.in-Some.ensures.cases.0 size c.gcd-divisor.ensures c.gathering.invariant

pub returns : goal.returns
returns c = gathered_all c.in_default.ensures.cases c.gathering.invariant

pub returns-then-divisor-eq1 : goal.returns-then-divisor-eq1
returns-then-divisor-eq1 c =
    let fits : FitsSigned w128 c.in-Some.t.now.coef = search rules in
    let size : c.unsigned_abs.result ≡ unsigned_abs c.in-Some.t.now.coef = simp to_z-of_z at c.unsigned_abs.ensures.value in
    let one : c.gcd-divisor.result ≡ 1 = search rules in
    gathered_to_one one (gathered c.in-Some.ensures.cases.0 size c.gcd-divisor.ensures c.gathering.invariant)
