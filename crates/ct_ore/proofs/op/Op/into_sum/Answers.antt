use Rattle.ct_ore.proofs.Base.{sym, subst₂, verdict_fits, verdict_refuses}
use Rattle.ct_ore.specs.Measures.{checked_sum}
use Rattle.ct_ore.specs.TermSums.{CanAdd}
use Rattle.ct_ore.proofs.OperatorMeasures.{fits_of_terms}
use Rattle.ct_ore.proofs.OperatorSums.{has_room, can_add, sum_fits, merged_is}
use Rattle.ct_ore.proofs.WrittenOperators.{terms_of, value_of_terms}
use Rattle.ct_ore.proofs.op.Op.into_sum.Goals as goal

pub returns-in-Some : goal.returns-in-Some
unfolding checked_sum
returns-in-Some c = verdict_refuses _ _ _ (sym c.in-Some.ensures)

pub merged_terms-requires : goal.merged_terms-requires
merged_terms-requires c =
    let mine = terms_of c.self.inside.terms.items c.self.invariant.0 c.self.view_is in
    let its = terms_of c.other.inside.terms.items c.other.invariant.0 c.other.view_is in
    subst₂ CanAdd (sym mine) (sym its) (can_add c.args.self c.args.other (has_room c.args.self c.args.other (sym c.in_default.ensures)))

pub invariant_of-result : goal.invariant_of-result
invariant_of-result c =
    let mine = terms_of c.self.inside.terms.items c.self.invariant.0 c.self.view_is in
    let its = terms_of c.other.inside.terms.items c.other.invariant.0 c.other.view_is in
    fits_of_terms _ c.in_ok-terms.terms.items
    (merged_is c.args.self c.args.other c.self.inside.terms.items c.other.inside.terms.items c.in_ok-terms.terms.items mine its
    c.in_ok-terms.ensures) (sum_fits c.args.self c.args.other (has_room c.args.self c.args.other (sym c.in_default.ensures)))

pub returns : goal.returns
unfolding checked_sum
returns c =
    let mine = terms_of c.self.inside.terms.items c.self.invariant.0 c.self.view_is in
    let its = terms_of c.other.inside.terms.items c.other.invariant.0 c.other.view_is in
    verdict_fits _ _ _ (sym c.in_default.ensures)
    (sym (value_of_terms c.in_ok-terms.terms.items
    (merged_is c.args.self c.args.other c.self.inside.terms.items c.other.inside.terms.items c.in_ok-terms.terms.items mine its
    c.in_ok-terms.ensures)))
