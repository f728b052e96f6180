use Rattle.ct_poly.proofs.Base.{◌≡◌, refl, ◌+◌, ◌*◌, ◌<◌, ◌≤◌, neg_ℤ, nat_abs, sym, ap, subst, subst₂, All, length, FitsSigned, rules, w128}
use Rattle.ct_poly.proofs.Base.{to_z-of_z}
use Rattle.ct_poly.proofs.CellSteps.{taking_start, step_inside, taking_more, measures_have_room, nothing_left}
use Rattle.ct_poly.specs.Cells.{added, size_of_cells, size_of_spots}
use Rattle.ct_poly.proofs.cell_division.taken_out.Goals as goal

pub taking-init : goal.taking-init
taking-init c = taking_start c.requires.counts.0 c.requires.norms.0 c.requires.cells.0 c.requires.small c.requires.divisor c.new-found.ensures.items
    refl

pub add_multiple-requires-clause-inside : goal.add_multiple-requires-clause-inside
add_multiple-requires-clause-inside c =
    subst (All (λ s. c.in-Some-term_at.cell + s.cell < length c.taking.cells)) (sym c.as_slice.ensures.value)
    (step_inside c.requires.divisor c.taking.invariant c.in-Some-term_at.u c.in-Some-term_at.ensures.0 c.in-Some-term_at.ensures.1)

pub taking-preserved : goal.taking-preserved
taking-preserved c =
    let mine : FitsSigned w128 c.in-Some-term_at.u.coef = search rules in
    let fits : FitsSigned w128 c.negative_of_coef-negative.result = search rules in
    let negative : c.negative_of_coef-negative.result ≡ neg_ℤ c.in-Some-term_at.u.coef = simp to_z-of_z at c.negative_of_coef-negative.ensures in
    let size : c.unsigned_abs-norm.result ≡ nat_abs c.in-Some-term_at.u.coef = simp to_z-of_z at c.unsigned_abs-norm.ensures.value in
    let counted : c.len.result ≡ length c.taking.found.items = search rules in
    taking_more c.requires.divisor c.taking.invariant c.in-Some-term_at.u c.in-Some-term_at.ensures.0 c.in-Some-term_at.ensures.1
    (ap (λ n. n + 1) counted)
    (ap (λ n. c.taking.norm + n) size)
    (measures_have_room c.args.by.now c.measure_of_terms-by_measure.ensures (c.has_room.ensures c.if-not-has_room.false))
    c.negative_of_coef-negative.result negative
    (subst₂ (λ z ss. c.add_multiple.new.cells ≡ added c.in-Some-term_at.cell z c.taking.cells ss)
    (to_z-of_z w128 _ fits) c.as_slice.ensures.value c.add_multiple.ensures.cells)
    (subst₂ (λ z ss. size_of_cells c.add_multiple.new.cells ≤ size_of_cells c.taking.cells + nat_abs z * size_of_spots ss)
    (to_z-of_z w128 _ fits) c.as_slice.ensures.value c.add_multiple.ensures.small)
    c.in_ok-append.ensures c.in-Some.ensures (search rules)

pub returns-then-are_zero : goal.returns-then-are_zero
returns-then-are_zero c = nothing_left c.taking.invariant.taken (c.are_zero.ensures c.if-are_zero.true)
