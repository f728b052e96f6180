use Rattle.ct_frac.proofs.Base.{◌≤◌, ◌∙◌, ap, subst, cond, arith, IfOk-weaker, total, polys, largest_degree, common_monomial}
use Rattle.ct_frac.specs.Written.{value}
use Rattle.ct_frac.proofs.QuotientLaws.{parts_den, factors_are, quotient_of-parts, quotient_of-value}
use Rattle.ct_frac.proofs.quotient.divided_by_polynomial.Goals as goal

pub invariant_of-den : goal.invariant_of-den
invariant_of-den c =
    let low : total c.in_ok-split.split.mono ≤ largest_degree = let value = c.total.ensures.value in let within = c.total.ensures.within in
    omega arith in
    parts_den c.args.d.now c.requires c.in_ok-split.split.content c.in_ok-factors.factors.items c.in_ok-split.ensures.content
    (factors_are c.args.d.now c.in_ok-split.split.primitive c.in_ok-split.split.mono c.in_ok-factors.factors.items c.in_ok-factors.ensures
    c.in_ok-split.ensures.mono c.in_ok-split.ensures.primitive)
    (subst (λ m. total m ≤ largest_degree) c.in_ok-split.ensures.mono low) c.within_limits.ensures.small

pub returns-clause-written : goal.returns-clause-written
returns-clause-written c =
    let factors = factors_are c.args.d.now c.in_ok-split.split.primitive c.in_ok-split.split.mono c.in_ok-factors.factors.items
    c.in_ok-factors.ensures c.in_ok-split.ensures.mono c.in_ok-split.ensures.primitive in
    let sign = c.in_ok-numerator.ensures ∙ ap (λ b. cond b (polys.neg c.args.n.now) c.args.n.now) c.in_ok-split.ensures.negative in
    IfOk-weaker c.brought_to_normal.result _ _
    (λ r is. is ∙ quotient_of-parts c.args.n.now c.args.d.now c.in_ok-numerator.numerator c.in_ok-split.split.content
    c.in_ok-factors.factors.items sign c.in_ok-split.ensures.content factors) c.brought_to_normal.ensures

pub returns-clause-value : goal.returns-clause-value
returns-clause-value c =
    let low : total c.in_ok-split.split.mono ≤ largest_degree = let value = c.total.ensures.value in let within = c.total.ensures.within in
    omega arith in
    let low_common : total (common_monomial c.args.d.now) ≤ largest_degree = subst (λ m. total m ≤ largest_degree) c.in_ok-split.ensures.mono low in
    let factors = factors_are c.args.d.now c.in_ok-split.split.primitive c.in_ok-split.split.mono c.in_ok-factors.factors.items
    c.in_ok-factors.ensures c.in_ok-split.ensures.mono c.in_ok-split.ensures.primitive in
    let sign = c.in_ok-numerator.ensures ∙ ap (λ b. cond b (polys.neg c.args.n.now) c.args.n.now) c.in_ok-split.ensures.negative in
    IfOk-weaker c.brought_to_normal.result _ _
    (λ r is. ap value (is
    ∙ quotient_of-parts c.args.n.now c.args.d.now c.in_ok-numerator.numerator c.in_ok-split.split.content c.in_ok-factors.factors.items sign
    c.in_ok-split.ensures.content factors) ∙ quotient_of-value c.args.n.now c.args.d.now c.requires low_common c.within_limits.ensures.small)
    c.brought_to_normal.ensures
