use Rattle.ct_ore.proofs.Base.{◌≡◌, ◌∙◌, ap}
use Rattle.ct_ore.specs.Terms.{op_entries}
use Rattle.ct_ore.proofs.WrittenOperators.{terms_of, value_of_terms}
use Rattle.ct_ore.proofs.OperatorMeasures.{fits_of_terms, fits_of_invariant}
use Rattle.ct_ore.proofs.op.Op.copy.Goals as goal

pub invariant_of-result : goal.invariant_of-result
invariant_of-result c =
    let same : op_entries c.in_ok-terms.terms.items ≡ c.args.self.now.terms = c.in_ok-terms.ensures ∙ ap op_entries c.as_slice.ensures.value
    ∙ terms_of c.self.inside.terms.items c.self.invariant.0 c.self.view_is in
    fits_of_terms c.args.self.now c.in_ok-terms.terms.items same
    (fits_of_invariant c.self.inside.terms.items c.self.view_is c.self.invariant.1 c.self.invariant.2)

pub returns : goal.returns
returns c =
    let same : op_entries c.in_ok-terms.terms.items ≡ c.args.self.now.terms = c.in_ok-terms.ensures ∙ ap op_entries c.as_slice.ensures.value
    ∙ terms_of c.self.inside.terms.items c.self.invariant.0 c.self.view_is in
    record { value = value_of_terms c.in_ok-terms.terms.items same }
