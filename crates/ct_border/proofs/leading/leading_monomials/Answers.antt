use Rattle.ct_border.proofs.Base.{ap, arith, each_behind, length}
use Rattle.ct_border.specs.Staircase.{leading_of}
use Rattle.ct_border.proofs.leading.leading_monomials.Goals as goal

pub leading-init : goal.leading-init
leading-init c = (
  each_behind leading_of c.new-done.result.items c.args.generators.now c.new-done.ensures.items,
  omega (arith, ap length c.new-done.ensures.items),
)
