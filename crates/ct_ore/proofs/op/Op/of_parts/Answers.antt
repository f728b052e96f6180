use Rattle.ct_ore.proofs.Base.{sym, subst}
use Rattle.ct_ore.specs.CoefficientTerms.{sum_of_parts}
use Rattle.ct_ore.specs.Lists.{Fits}
use Rattle.ct_ore.proofs.WrittenForm.{coefficients_of_sum}
use Rattle.ct_ore.proofs.WrittenOperators.{value_of_terms}
use Rattle.ct_ore.proofs.OperatorMeasures.{fits_of_terms}
use Rattle.ct_ore.proofs.op.Op.of_parts.Goals as goal

pub invariant_of-result : goal.invariant_of-result
invariant_of-result c =
    fits_of_terms (sum_of_parts c.args.ts.now) c.in_ok-terms.terms.items c.in_ok-terms.ensures
    (subst Fits (sym (coefficients_of_sum c.args.ts.now c.requires.written)) c.requires)

pub returns : goal.returns
returns c = value_of_terms c.in_ok-terms.terms.items c.in_ok-terms.ensures
