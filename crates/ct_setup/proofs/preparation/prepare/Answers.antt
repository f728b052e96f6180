use Rattle.ct_setup.proofs.Base.{actions_of, ap, subst, sym, ◌∙◌}
use Rattle.ct_module.specs.Fitting.{SettingFits}
use Rattle.ct_setup.proofs.DensFit.{setting_fits}
use Rattle.ct_setup.specs.Setup.{checked_dens}
use Rattle.ct_setup.proofs.preparation.prepare.Goals as goal

pub invariant_of-result : goal.invariant_of-result
invariant_of-result c =
    let p = c.args.problem.now in
    subst (λ ns. SettingFits ns c.in_ok-module.module c.in_ok-dens.dens.items) (sym c.in_ok-algebra.ensures)
    (setting_fits p.algebra p.formed.names.few c.in_ok-module.module p.dens c.in_ok-dens.dens.items c.in_ok-module.ensures.fits
    p.formed.denominators (ap (checked_dens (actions_of p.algebra)) (sym c.as_slice.ensures) ∙ c.in_ok-dens.ensures.answers))
