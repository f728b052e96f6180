use Rattle.ct_ore.proofs.Base.{sym, ◌∙◌, ap, no_operator}
use Rattle.ct_ore.specs.Terms.{op_entries}
use Rattle.ct_ore.proofs.WrittenOperators.{terms-no_operator, value_of_terms}
use Rattle.ct_ore.proofs.OperatorMeasures.{fits_of_terms, no_operator_fits}
use Rattle.ct_ore.proofs.op.Op.zero.Goals as goal

pub invariant_of-result : goal.invariant_of-result
invariant_of-result c =
    fits_of_terms no_operator c.new.result.items (ap op_entries c.new.ensures.items ∙ sym terms-no_operator) no_operator_fits

pub returns : goal.returns
returns c = value_of_terms {p = no_operator} c.new.result.items (ap op_entries c.new.ensures.items ∙ sym terms-no_operator)
