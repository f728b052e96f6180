use Rattle.ct_setup.proofs.Base.{actions_of, ap, arith, length}
use Rattle.ct_setup.proofs.GivenPolynomials.{dens_given, dens_length}
use Rattle.ct_setup.proofs.NumberedFromZero.{each_after}
use Rattle.ct_setup.specs.Setup.{checked_den}
use Rattle.ct_setup.proofs.denominators.denominators.Goals as goal

pub valuing-init : goal.valuing-init
valuing-init c =
    let ns = c.args.algebra.now in (
      each_after (checked_den (actions_of ns)) c.new-done.result.items c.args.dens.now c.new-done.ensures.items,
      dens_given ns ns c.args.dens.now c.requires.dens,
      omega (arith, ap length c.new-done.ensures.items, dens_length ns ns c.args.dens.now c.requires.dens, c.requires.names.few),
    )
