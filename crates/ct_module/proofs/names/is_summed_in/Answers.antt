use Rattle.ct_module.proofs.Base.{◌∙◌, ap, sym}
use Rattle.std.proofs.Common.{◌&&◌}
use Rattle.ct_algebra.specs.Names.{name_with}
use Rattle.ct_frac.specs.Symbols.{has_name}
use Rattle.ct_ore.specs.Naming.{is_summed}
use Rattle.ct_module.proofs.DeclaredNames.{told_name}
use Rattle.ct_module.proofs.names.is_summed_in.Goals as goal

pub returns-in-Summed : goal.returns-in-Summed
returns-in-Summed c =
    told_name (name_with c.args.i) c.args.p.now c.contains.result c.contains.ensures
    ∙ sym (ap (λ r. is_summed r && has_name (name_with c.args.i) c.args.p.now) c.in-Summed.is)
