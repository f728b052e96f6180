use Rattle.ct_setup.proofs.Base.{actions_of, value_of, each_behind}
use Rattle.ct_setup.proofs.expressions.values.Goals as goal

pub valuing-init : goal.valuing-init
valuing-init c =
    (each_behind (λ _ x. value_of (actions_of c.args.algebra.now) x) c.new-done.result.items c.args.exprs.now c.new-done.ensures.items, c.requires)
