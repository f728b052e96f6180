use Rattle.ct_border.proofs.Base.{◌∙◌, ap, length, name_with, subst, actions_of}
use Rattle.std.proofs.lemmas.Result.{IfOk-weaker}
use Rattle.ct_checked.specs.Checked.{AnswersBy}
use Rattle.ct_module.specs.Action.{checked_act}
use Rattle.ct_module.specs.Modules.{dimension}
use Rattle.ct_module.specs.Values.{rows_by_value, values}
use Rattle.ct_border.proofs.CommutingRows.{acted_entries, row_of_element, row_size}
use Rattle.ct_border.proofs.closed.acted_row.Goals as goal

pub act-requires-clause-vector : goal.act-requires-clause-vector
act-requires-clause-vector c =
    ap length (c.as_slice.ensures.value
    ∙ row_of_element c.args.algebra.now c.args.space.now c.args.i c.args.element c.rows.result.now c.index-rows-element.result c.requires.lengths
    c.requires.has_rows c.requires.in_range c.rows.ensures c.index-rows-element.is)
    ∙ row_size c.args.algebra.now c.args.space.now c.args.i c.args.element c.requires.lengths c.requires.has_rows c.requires.in_range

pub returns : goal.returns
returns c =
    let row_is = c.as_slice.ensures.value
    ∙ row_of_element c.args.algebra.now c.args.space.now c.args.i c.args.element c.rows.result.now c.index-rows-element.result c.requires.lengths
    c.requires.has_rows c.requires.in_range c.rows.ensures c.index-rows-element.is in
    record {
      steps = subst (λ v. AnswersBy (λ w. w.items) (checked_act c.args.algebra.now c.args.space.now (name_with c.args.j) v) c.act.result)
          row_is c.act.ensures.steps;
      size = c.act.ensures.size;
      means = IfOk-weaker c.act.result _ _
          (λ w. acted_entries (actions_of c.args.algebra.now) (dimension c.args.space.now) (rows_by_value c.args.space.now)
          (name_with c.args.i) (name_with c.args.j) c.args.element c.as_slice.result.now w.items (λ k. ap (λ v. values v k) row_is))
          c.act.ensures.means;
    }
