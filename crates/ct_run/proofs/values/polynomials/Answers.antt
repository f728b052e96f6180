use Rattle.ct_run.proofs.Base.{actions_of, checked_polynomial, each_behind}
use Rattle.ct_run.proofs.values.polynomials.Goals as goal

pub valuing-init : goal.valuing-init
valuing-init c = (
  each_behind (λ _ x. checked_polynomial (actions_of c.args.algebra.now) x) c.new-done.result.items c.args.exprs.now c.new-done.ensures.items,
  c.requires,
)
