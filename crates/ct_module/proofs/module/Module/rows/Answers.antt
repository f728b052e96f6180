use Rattle.ct_module.proofs.Base.{◌≡◌, ◌∙◌, ◌<◌, ap, sym, rules, length, arith, name_with}
use Rattle.std.proofs.lemmas.List.{length-map}
use Rattle.std.specs.Global.{Vec}
use Rattle.ct_frac.specs.Written.{Written}
use Rattle.ct_module.specs.Modules.{WrittenModule, rows_of}
use Rattle.ct_module.specs.Views.{rows_in, lists_in}
use Rattle.ct_module.proofs.Rows.{rows_at}
use Rattle.ct_module.proofs.module.Module.rows.Goals as goal

pub returns : goal.returns
returns c =
    let slice : c.as_slice.result.now ≡ c.index.result.now.items = search rules in
    let same : length (lists_in c.self.inside.rows.items) ≡ length c.args.self.now.rows = ap (λ (m : WrittenModule). length m.rows) c.self.view_is in
    let many = length-map c.self.inside.rows.items (λ (rows : Vec (Vec Written)). rows_in rows.items) in
    ap rows_in slice
    ∙ rows_at c.self.inside.rows.items c.index.result.now c.args.i c.requires.known (omega (arith, c.requires.in_range, same, many)) c.index.ensures
    ∙ ap (λ m. rows_of m (name_with c.args.i)) c.self.view_is
