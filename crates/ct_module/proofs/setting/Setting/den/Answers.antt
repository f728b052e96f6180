use Rattle.ct_module.proofs.Base.{◌≡◌, ◌∙◌, ap, sym, arith, None, get_or, length}
use Rattle.std.proofs.lemmas.List.{length-map}
use Rattle.ct_ore.specs.Naming.{naming_of}
use Rattle.ct_poly.proofs.TermLists.{place-name_with}
use Rattle.ct_algebra.specs.Names.{name_with}
use Rattle.ct_module.specs.Modules.{den_of}
use Rattle.ct_module.proofs.PlainLists.{get_or_inside}
use Rattle.ct_module.proofs.setting.Setting.den.Goals as goal

pub returns : goal.returns
returns c =
    let names : length c.self.inside.algebra ≡ length c.args.self.now.names = ap (λ s. length s.names) c.self.view_is in
    let sizes = ap length c.infos.ensures.names in
    let few = c.infos.ensures.few in
    let dens = c.self.invariant.names in
    c.as_ref.ensures.value ∙ c.index.ensures
    ∙ get_or_inside c.self.inside.dens.items c.args.i c.index.result.now None (omega (arith, c.requires, names, dens))
    ∙ ap (λ k. get_or c.self.inside.dens.items k None) (sym (place-name_with c.args.i (omega (arith, c.requires, few, sizes, names, length-map c.infos.result.now naming_of))))
    ∙ ap (λ s. den_of s.dens (name_with c.args.i)) c.self.view_is
