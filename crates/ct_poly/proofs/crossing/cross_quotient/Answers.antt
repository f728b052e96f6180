use Rattle.ct_poly.proofs.Base.{sym, subst, length, polys}
use Rattle.ct_poly.specs.Crossing.{IsCrossQuotient}
use Rattle.ct_poly.specs.Terms.{IsListOf, poly_of_terms, size_of}
use Rattle.ct_poly.proofs.CellSteps.{some_is}
use Rattle.ct_poly.proofs.CrossCells.{counts_are, norms_are, has_room, products_small, cross_answer}
use Rattle.ct_poly.proofs.OfTerms.{poly_is}
use Rattle.ct_poly.proofs.crossing.cross_quotient.Goals as goal

pub room_for_cross-requires-clause-counts : goal.room_for_cross-requires-clause-counts
room_for_cross-requires-clause-counts c =
    (c.list-p_terms.ensures.few, c.list-a_terms.ensures.few, c.list-x_terms.ensures.few, c.list-y_terms.ensures.few)

pub room_for_cross-requires-clause-norms : goal.room_for_cross-requires-clause-norms
room_for_cross-requires-clause-norms c =
    (c.list-p_terms.ensures.small, c.list-a_terms.ensures.small, c.list-x_terms.ensures.small, c.list-y_terms.ensures.small)

pub negative_of_terms-requires-clause-falling : goal.negative_of_terms-requires-clause-falling
negative_of_terms-requires-clause-falling c = c.list-a_terms.ensures.falling

pub negative_of_terms-requires-clause-small : goal.negative_of_terms-requires-clause-small
negative_of_terms-requires-clause-small c = c.list-a_terms.ensures.small

pub quotient_of_products-requires-clause-count : goal.quotient_of_products-requires-clause-count
quotient_of_products-requires-clause-count c =
    let room = some_is _ c.in-Some.is c.room_for_cross.ensures in (room.few, c.list-by_terms.ensures.few)

pub quotient_of_products-requires-clause-norm : goal.quotient_of_products-requires-clause-norm
quotient_of_products-requires-clause-norm c =
    let room = some_is _ c.in-Some.is c.room_for_cross.ensures in (room.small, c.list-by_terms.ensures.small)

pub quotient_of_products-requires-clause-small : goal.quotient_of_products-requires-clause-small
quotient_of_products-requires-clause-small c =
    products_small c.list-p_terms.ensures c.list-a_terms.ensures c.list-x_terms.ensures c.list-y_terms.ensures
    (some_is _ c.in-Some.is c.room_for_cross.ensures) c.as_slice.result.now (rw c.as_slice.ensures.value c.in_ok-negative.ensures.small)

pub returns : goal.returns
returns c =
    let first = c.list-p_terms.ensures in
    let second = c.list-a_terms.ensures in
    let third = c.list-x_terms.ensures in
    let fourth = c.list-y_terms.ensures in
    let room = some_is _ c.in-Some.is c.room_for_cross.ensures in
    let negative : IsListOf (polys.neg (poly_of_terms c.list-a_terms.result.now)) (length c.list-a_terms.result.now)
    (size_of c.list-a_terms.result.now) c.as_slice.result.now =
    rw c.as_slice.ensures.value c.in_ok-negative.ensures in
    let list : IsListOf (poly_of_terms c.in-Some-2.found.items) (length c.in-Some-2.found.items)
    (size_of c.in-Some-2.found.items) c.in_ok-terms.terms.items =
    rw (← c.as_slice-2.ensures.value) c.in_ok-terms.ensures in
    subst (IsCrossQuotient c.args.p.now c.args.a.now c.args.x.now c.args.y.now c.args.by.now)
    (sym (poly_is c.in_ok-terms.terms.items list c.of_terms.ensures))
    (cross_answer first second third fourth c.list-by_terms.ensures negative c.requires (has_room first second third fourth room)
    (counts_are first second third fourth room) (norms_are first second third fourth room) (some_is _ c.in-Some-2.is c.in_ok-found.ensures) list)
