use Rattle.ct_poly.proofs.Parts.{cleared, all_cleared}
use Rattle.ct_poly.proofs.part.without_names.Goals as goal

pub clearing-preserved : goal.clearing-preserved
clearing-preserved c = cleared c.in-Some.ensures.cases.0 c.with_exp-others.ensures c.clearing.invariant

pub returns : goal.returns
returns c = all_cleared c.in_default.ensures.cases c.clearing.invariant
