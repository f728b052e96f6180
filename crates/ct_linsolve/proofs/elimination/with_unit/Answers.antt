use Rattle.ct_linsolve.proofs.Base.{ap, length, sym, length-map}
use Rattle.ct_linsolve.specs.Views.{rows_of}
use Rattle.ct_linsolve.proofs.Starts.{unit_start}
use Rattle.ct_linsolve.proofs.elimination.with_unit.Goals as goal

pub joining-init : goal.joining-init
joining-init c =
    unit_start (length c.args.rows.now) (rows_of c.args.rows.now) (rows_of c.in_ok-done.done.items) (sym (length-map c.args.rows.now _))
    (ap rows_of c.in_ok-done.ensures.items)
