use Rattle.ct_module.proofs.Base.{◌≡◌, ◌∙◌, ◌<◌, ◌≤◌, ◌+◌, ◌-◌, ◌++◌, ap, sym, subst, rules, arith, length, List, Name, name_with, AnswersBy, [], Ok}
use Rattle.std.proofs.lemmas.List.{length-map}
use Rattle.std.specs.Prelude.{replicate}
use Rattle.ct_ore.specs.Naming.{actions_of, naming_of}
use Rattle.ct_module.specs.Action.{checked_act}
use Rattle.ct_module.specs.Columns.{symbols_of}
unfoldable use Rattle.ct_module.specs.Columns.{checked_free_column}
use Rattle.ct_module.specs.Modules.{dimension}
use Rattle.ct_module.specs.Values.{vector_of, rows_by_value, made_by}
use Rattle.ct_module.proofs.FreeColumns.{acting, fold_append, leads_more, symbols_from, symbols_open, symbols_past}
use Rattle.ct_module.proofs.module.Module.free_column.Goals as goal

pub returns-in_err-v-2-clause-steps : goal.returns-in_err-v-2-clause-steps
unfolding checked_free_column
returns-in_err-v-2-clause-steps c =
    let i : Name = name_with c.acting.i in
    let rest : List Name = symbols_from c.args.m.now (c.acting.i + 1) (6 - (c.acting.i + 1)) in
    let opens : symbols_from c.args.m.now c.acting.i (6 - c.acting.i) ≡ replicate c.exp.result i ++ rest =
    symbols_open c.args.m.now c.acting.i (omega (arith, c.acting-test.true, c.infos.ensures.few))
    ∙ ap (λ e. replicate e i ++ rest) (sym c.exp.ensures) in
    subst (λ d. AnswersBy (λ w. w.items) d c.from_residual-in_err-v-2.result)
    (sym (c.acting.invariant.steps ∙ ap (acting c.args.algebra.now c.args.self.now c.acting.v.items) opens
    ∙ fold_append (λ w j. checked_act c.args.algebra.now c.args.self.now j w) c.acting.v.items (replicate c.exp.result i) rest)) (search rules)

pub acting-preserved : goal.acting-preserved
acting-preserved c =
    let i : Name = name_with c.acting.i in
    let rest : List Name = symbols_from c.args.m.now (c.acting.i + 1) (6 - (c.acting.i + 1)) in
    leads_more c.args.algebra.now c.args.self.now c.args.start.now (symbols_of c.args.m.now) c.acting.v.items c.in_ok-v-2.v.items
    (symbols_from c.args.m.now c.acting.i (6 - c.acting.i)) (replicate c.exp.result i) rest c.acting.invariant
    (symbols_open c.args.m.now c.acting.i (omega (arith, c.acting-test.true, c.infos.ensures.few)) ∙ ap (λ e. replicate e i ++ rest) (sym c.exp.ensures))
    c.in_ok-v-2.ensures.steps c.in_ok-v-2.ensures.size c.in_ok-v-2.ensures.means

pub returns-clause-steps : goal.returns-clause-steps
unfolding checked_free_column
returns-clause-steps c =
    let names : length c.infos.result.now ≡ length c.args.algebra.now = sym (length-map c.infos.result.now naming_of) ∙ ap length c.infos.ensures.names in
    c.acting.invariant.steps ∙ ap (acting c.args.algebra.now c.args.self.now c.acting.v.items)
    (symbols_past c.args.algebra.now c.args.m.now c.acting.i c.requires.operators (omega (arith, names, c.acting-test.false))
    (omega (arith, c.acting.auto.i-end, c.infos.ensures.few)))

pub returns-clause-means : goal.returns-clause-means
returns-clause-means c =
    let names : length c.infos.result.now ≡ length c.args.algebra.now = sym (length-map c.infos.result.now naming_of) ∙ ap length c.infos.ensures.names in
    sym (c.acting.invariant.means ∙ ap (λ js. made_by (actions_of c.args.algebra.now) (dimension c.args.self.now) (rows_by_value c.args.self.now) js
    (vector_of (dimension c.args.self.now) c.acting.v.items))
    (symbols_past c.args.algebra.now c.args.m.now c.acting.i c.requires.operators (omega (arith, names, c.acting-test.false))
    (omega (arith, c.acting.auto.i-end, c.infos.ensures.few))))
