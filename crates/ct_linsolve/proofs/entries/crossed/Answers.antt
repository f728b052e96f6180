use Rattle.ct_linsolve.specs.Elimination.{crossed_entry}
use Rattle.ct_linsolve.proofs.FromZero.{zero_behind}
use Rattle.ct_linsolve.proofs.entries.crossed.Goals as goal

pub crossing-init : goal.crossing-init
crossing-init c =
    zero_behind (crossed_entry c.args.column c.args.p.now c.args.a.now c.args.pivot.now) c.in_ok-done.done.items c.args.row.now
    c.in_ok-done.ensures.items
