use Rattle.ct_linsolve.proofs.Base.{arith}
use Rattle.ct_linsolve.proofs.Starts.{unit_of}
use Rattle.ct_linsolve.proofs.elimination.joined.Goals as goal

pub joining-init : goal.joining-init
joining-init c = (unit_of c.args.count c.args.place c.args.row.now c.in_ok-done.done.items c.in_ok-done.ensures, omega arith)
