use Rattle.ct_poly.proofs.CommonMonomials.{least_of_none, least_start, least_more, least_all}
use Rattle.ct_poly.proofs.content.common_monomial_of_terms.Goals as goal

pub returns-in_default : goal.returns-in_default
returns-in_default c = least_of_none c.args.ts.now c.one.result c.in_default.ensures.cases c.one.ensures

pub lowering-init : goal.lowering-init
lowering-init c = least_start c.in-Some.ensures.cases.0

pub lowering-preserved : goal.lowering-preserved
lowering-preserved c = least_more c.in-Some-split_first.ensures.cases.0 c.common_monomial_of-common.ensures c.lowering.invariant

pub returns : goal.returns
returns c = least_all c.in_default-split_first.ensures.cases c.lowering.invariant
