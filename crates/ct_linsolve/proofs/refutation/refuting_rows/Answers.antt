use Rattle.ct_linsolve.proofs.Base.{◌≡◌, ◌<◌, ◌∙◌, ◌++◌, ◌∷◌, [], ◌-◌, ap, sym, map, arith, rules, subst, range_with_len, length-map, map-append}
use Rattle.ct_linsolve.proofs.Base.{polys, Isolates}
use Rattle.ct_linsolve.specs.Refuting.{column_row, refuting_row, refuting_rows}
use Rattle.ct_linsolve.specs.Views.{eliminated, pivots_of, rows_of}
use Rattle.ct_linsolve.proofs.Refuted.{listed_from, listed_more, rows_refute}
use Rattle.ct_linsolve.proofs.refutation.refuting_rows.Goals as goal

pub choosing-init : goal.choosing-init
choosing-init c =
    let e = c.args.echelon.now in
    let f = refuting_row (rows_of e.right.items) (pivots_of e.pivots.items) in (
      (λ i. rows_of (sym c.new-done.ensures.items i) ++ map f (range_with_len e.certs (e.width - e.certs)))
          ∙ listed_from f e.certs (e.width - e.certs) (rows_of c.new-done.result.items),
      omega (arith, e.within),
    )

pub choosing-preserved : goal.choosing-preserved
choosing-preserved c =
    let e = c.args.echelon.now in
    let some : 0 < c.choosing.left = search rules in
    let f = refuting_row (rows_of e.right.items) (pivots_of e.pivots.items) in
    let row_is : c.in_ok-row.row.items ≡ f c.choosing.column =
    c.in_ok-row.ensures ∙ (λ i. refuting_row (rows_of (c.as_slice.ensures.value i)) (pivots_of
    (c.as_slice-in-choosing.ensures.value i)) c.choosing.column) in
    let more : rows_of c.append_row.new.list.items ≡ rows_of c.choosing.done.items ++ f c.choosing.column ∷ [] =
    ap rows_of c.in_ok-append_row.ensures ∙ map-append (λ row. row.items) c.choosing.done.items (c.in_ok-row.row ∷ [])
    ∙ ap (λ r. rows_of c.choosing.done.items ++ r ∷ []) row_is in (
      c.choosing.invariant.0 ∙ listed_more f c.choosing.column c.choosing.left
          (rows_of c.choosing.done.items) (rows_of c.append_row.new.list.items) some more,
      omega (arith, some, c.choosing.invariant.1),
    )

pub returns-clause-refutes : goal.returns-clause-refutes
returns-clause-refutes c =
    let e = c.args.echelon.now in
    let all : rows_of c.choosing.done.items ≡ refuting_rows e.certs e.width (rows_of e.right.items) (pivots_of e.pivots.items) = search rules in
    λ A given column small past.
    subst (λ n. Isolates polys n e.width A (column_row (rows_of c.choosing.done.items) e.certs column) column) (length-map e.left.items _)
    (rows_refute e.certs e.width A (eliminated e.left.items e.right.items e.pivots.items e.free) given
    (rows_of c.choosing.done.items) all c.requires e.formed column small past)
