use Rattle.ct_setup.proofs.Base.{actions_of, ap, arith, each_behind, length}
use Rattle.ct_setup.specs.Setup.{plain_generator}
use Rattle.ct_setup.proofs.plain.plain_generators.Goals as goal

pub valuing-init : goal.valuing-init
valuing-init c = (
  each_behind (plain_generator (actions_of c.args.algebra.now)) c.new-done.result.items c.args.exprs.now c.new-done.ensures.items,
  c.requires.each,
  omega (arith, ap length c.new-done.ensures.items, c.requires.few),
)
