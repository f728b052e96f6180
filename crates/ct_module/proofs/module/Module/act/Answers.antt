use Rattle.ct_module.proofs.Base.{◌≡◌, ◌∙◌, ◌<◌, ap, ap₂, sym, subst, arith, length, name_with, AnswersBy, IfOk-weaker, each_length, range_with_len}
use Rattle.ct_module.proofs.Base.{length-range_with_len}
use Rattle.std.proofs.lemmas.List.{length-map}
use Rattle.ct_ore.specs.Naming.{action_of, actions_of, naming_of}
use Rattle.ct_module.specs.Action.{checked_entry, checked_action}
use Rattle.ct_module.specs.Modules.{dimension, rows_of}
use Rattle.ct_module.specs.Views.{rows_in}
use Rattle.ct_module.proofs.ActedVectors.{acted-is}
use Rattle.ct_module.proofs.Rows.{info_action, filled_in}
use Rattle.ct_module.proofs.Steps.{by_steps}
use Rattle.ct_module.proofs.module.Module.act.Goals as goal

pub entries-requires-clause-filled : goal.entries-requires-clause-filled
entries-requires-clause-filled c =
    filled_in c.rows.result.now (rows_of c.args.self.now (name_with c.args.i)) (length c.args.v.now) (dimension c.args.self.now) c.rows.ensures
    (sym c.requires.vector) (c.requires.lengths.filled (name_with c.args.i))

pub returns-clause-steps : goal.returns-clause-steps
returns-clause-steps c =
    let names : length c.infos.result.now ≡ length c.args.algebra.now = sym (length-map c.infos.result.now naming_of) ∙ ap length c.infos.ensures.names in
    let known : action_of c.index-infos-i.result.action ≡ actions_of c.args.algebra.now (name_with c.args.i) =
    info_action c.args.algebra.now c.infos.result.now c.index-infos-i.result c.index-infos-i.result c.args.i
    (omega (arith, c.requires.name, names, c.infos.ensures.few)) (omega (arith, c.requires.name, names)) c.infos.ensures.names c.index-infos-i.is in
    subst (λ d. AnswersBy (λ w. w.items) d c.entries.result)
    (ap₂ (λ t rows. checked_action t (name_with c.args.i) rows c.args.v.now) known c.rows.ensures) c.entries.ensures.steps

pub returns-clause-size : goal.returns-clause-size
returns-clause-size c =
    by_steps (λ w. w.items) _ c.entries.result (λ ws. length ws ≡ dimension c.args.self.now) c.entries.ensures.steps
    (λ ws made. each_length (λ _ k. checked_entry (action_of c.index-infos-i.result.action) (name_with c.args.i) (rows_in c.rows.result.now) c.args.v.now k) 1
    (range_with_len 0 (length c.args.v.now)) ws made ∙ length-range_with_len 0 (length c.args.v.now) ∙ c.requires.vector)

pub returns-clause-means : goal.returns-clause-means
returns-clause-means c =
    let names : length c.infos.result.now ≡ length c.args.algebra.now = sym (length-map c.infos.result.now naming_of) ∙ ap length c.infos.ensures.names in
    let known : action_of c.index-infos-i.result.action ≡ actions_of c.args.algebra.now (name_with c.args.i) =
    info_action c.args.algebra.now c.infos.result.now c.index-infos-i.result c.index-infos-i.result c.args.i
    (omega (arith, c.requires.name, names, c.infos.ensures.few)) (omega (arith, c.requires.name, names)) c.infos.ensures.names c.index-infos-i.is in
    IfOk-weaker c.entries.result _ _
    (λ w is. acted-is (actions_of c.args.algebra.now) c.args.self.now (name_with c.args.i) c.args.v.now w.items (rows_in c.rows.result.now)
    c.rows.ensures c.requires.vector (is (actions_of c.args.algebra.now) (sym known)))
    c.entries.ensures.value
