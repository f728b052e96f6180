use Rattle.ct_linsolve.proofs.Base.{each_behind}
use Rattle.ct_frac.specs.Arithmetic.{checked_cleared}
use Rattle.ct_linsolve.proofs.kernel.each_cleared.Goals as goal

pub clearing-init : goal.clearing-init
clearing-init c = (
  each_behind (λ _ w. checked_cleared w c.args.den.now) c.in_ok-done.done.items c.args.list.now c.in_ok-done.ensures.items,
  c.requires,
)
