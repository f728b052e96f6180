use Rattle.ct_linsolve.proofs.Base.{◌≡◌, ◌∙◌, ap, sym, [], get_or-map, checked_each_from}
use Rattle.ct_linsolve.specs.Elimination.{row_after}
use Rattle.ct_linsolve.specs.Rows.{row_at}
use Rattle.ct_linsolve.specs.Views.{rows_of}
use Rattle.ct_linsolve.proofs.FromZero.{zero_behind}
use Rattle.ct_linsolve.proofs.rows.rows_at_pivot.Goals as goal

pub going-init : goal.going-init
going-init c =
    let pivot_is : row_at (rows_of c.args.old.now) c.args.place ≡ c.as_slice-pivot.result.now =
    get_or-map (λ row. row.items) c.args.old.now c.args.place c.index-old-place.result [] c.requires.in_range
    ∙ ap (λ row. row.items) (sym c.index-old-place.is) ∙ sym c.as_slice-pivot.ensures.value in
    ap (λ pivot. checked_each_from 0 (row_after c.args.column c.args.place pivot c.args.prev.now) (rows_of c.args.old.now)) pivot_is
    ∙ zero_behind (row_after c.args.column c.args.place c.as_slice-pivot.result.now c.args.prev.now) (rows_of c.in_ok-done.done.items)
    (rows_of c.args.old.now)
    (ap rows_of c.in_ok-done.ensures.items)
