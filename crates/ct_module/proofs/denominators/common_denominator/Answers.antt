use Rattle.ct_module.proofs.Base.{◌≡◌, ◌∙◌, Ok, ap, sym, subst, map, rules, All, Answers}
use Rattle.ct_frac.proofs.SumLaws.{answers_ok}
use Rattle.ct_frac.specs.Arithmetic.{checked_common}
use Rattle.ct_frac.specs.FractionLaws.{EachIsWritten}
use Rattle.ct_frac.specs.Written.{one_den}
use Rattle.ct_mono.specs.Listing.{IsListing}
use Rattle.ct_module.specs.Columns.{free_monomials, checked_common_denominator}
use Rattle.ct_module.specs.Denominators.{checked_parts}
use Rattle.ct_ore.specs.Naming.{actions_of}
use Rattle.ct_telescoping.specs.Staircase.{HasOperators}
use Rattle.ct_module.proofs.ListedMonomials.{free_listed, free_operators}
use Rattle.ct_module.proofs.SummedDenominators.{parts_refused, parts_made, common_collects}
use Rattle.ct_module.proofs.denominators.common_denominator.Goals as goal

pub free_parts-requires : goal.free_parts-requires
free_parts-requires c =
    let listed = free_listed c.algebra.result.now c.args.order c.in_ok-names.names.items c.in_ok-monomials.monomials.items c.in_ok-names.ensures.names
    c.in_ok-names.ensures.known
    (subst (λ names. IsListing names c.args.order c.in_ok-monomials.monomials.items) c.as_slice.ensures.value c.in_ok-monomials.ensures.listing) in
    free_operators c.args.setting.now.names c.args.order c.as_slice-2.result.now
    (c.as_slice-2.ensures.value ∙ listed ∙ ap (λ ns. free_monomials ns c.args.order) c.algebra.ensures)

pub returns-in_err-parts-clause-steps : goal.returns-in_err-parts-clause-steps
returns-in_err-parts-clause-steps c =
    let listed = free_listed c.algebra.result.now c.args.order c.in_ok-names.names.items c.in_ok-monomials.monomials.items c.in_ok-names.ensures.names
    c.in_ok-names.ensures.known
    (subst (λ names. IsListing names c.args.order c.in_ok-monomials.monomials.items) c.as_slice.ensures.value c.in_ok-monomials.ensures.listing) in
    let refused = parts_refused c.args.setting.now c.args.order c.as_slice-2.result.now c.in_err-parts.field-0.0
    (c.as_slice-2.ensures.value ∙ listed ∙ ap (λ ns. free_monomials ns c.args.order) c.algebra.ensures) c.in_err-parts.ensures.steps in
    search rules

pub returns-clause-steps : goal.returns-clause-steps
returns-clause-steps c =
    let listed = free_listed c.algebra.result.now c.args.order c.in_ok-names.names.items c.in_ok-monomials.monomials.items c.in_ok-names.ensures.names
    c.in_ok-names.ensures.known
    (subst (λ names. IsListing names c.args.order c.in_ok-monomials.monomials.items) c.as_slice.ensures.value c.in_ok-monomials.ensures.listing) in
    let made = parts_made c.args.setting.now c.args.order c.as_slice-2.result.now c.in_ok-parts.parts.items
    (c.as_slice-2.ensures.value ∙ listed ∙ ap (λ ns. free_monomials ns c.args.order) c.algebra.ensures) c.in_ok-parts.ensures.steps in
    subst (λ d. Answers d c.common.result) (sym (made ∙ ap (checked_common one_den) (sym c.as_slice-3.ensures.value))) c.common.ensures

pub returns-clause-means : goal.returns-clause-means
returns-clause-means c =
    let listed = free_listed c.algebra.result.now c.args.order c.in_ok-names.names.items c.in_ok-monomials.monomials.items c.in_ok-names.ensures.names
    c.in_ok-names.ensures.known
    (subst (λ names. IsListing names c.args.order c.in_ok-monomials.monomials.items) c.as_slice.ensures.value c.in_ok-monomials.ensures.listing) in
    answers_ok (checked_common one_den c.as_slice-3.result.now) c.common.result _ c.common.ensures
    (λ d made. common_collects c.args.setting.now c.args.order c.as_slice-2.result.now c.in_ok-parts.parts.items d
    (c.as_slice-2.ensures.value ∙ listed ∙ ap (λ ns. free_monomials ns c.args.order) c.algebra.ensures) c.in_ok-parts.ensures.steps
    c.in_ok-parts.ensures.written (ap (checked_common one_den) (sym c.as_slice-3.ensures.value) ∙ made))
