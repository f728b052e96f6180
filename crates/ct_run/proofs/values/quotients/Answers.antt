use Rattle.ct_run.proofs.Base.{ap, map, actions_of, each_behind}
use Rattle.ct_run.specs.Checking.{checked_quotient}
use Rattle.ct_run.specs.Fractions.{pair_of}
use Rattle.ct_run.proofs.values.quotients.Goals as goal

pub valuing-init : goal.valuing-init
valuing-init c = (
  each_behind (λ _ q. checked_quotient (actions_of c.args.algebra.now) q) (map pair_of c.new-done.result.items) c.args.quotients.now
      (ap (map pair_of) c.new-done.ensures.items),
  c.requires,
)
