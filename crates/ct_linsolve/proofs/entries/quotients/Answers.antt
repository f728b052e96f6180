use Rattle.ct_linsolve.proofs.Base.{each_behind}
use Rattle.ct_linsolve.specs.Rows.{quotient_or_none}
use Rattle.ct_linsolve.proofs.entries.quotients.Goals as goal

pub dividing-init : goal.dividing-init
dividing-init c = each_behind (λ _ x. quotient_or_none c.args.by.now x) c.in_ok-done.done.items c.args.row.now c.in_ok-done.ensures.items
