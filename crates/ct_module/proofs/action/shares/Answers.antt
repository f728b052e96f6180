use Rattle.ct_module.proofs.Base.{◌≡◌, ◌∙◌, ◌<◌, length, Ok, ap, sym, subst, suc, rules, arith, name_with, field, empty_of_length, Answers, AnswersBy}
use Rattle.std.specs.List.{All}
use Rattle.ct_algebra.specs.Group.{zero_add}
use Rattle.ct_frac.specs.Written.{value}
use Rattle.ct_module.specs.Action.{checked_share}
use Rattle.ct_module.specs.Modules.{entry}
use Rattle.ct_module.specs.Values.{moved_product, moved_sum}
use Rattle.ct_module.specs.Views.{rows_in}
use Rattle.ct_ore.specs.Naming.{action_of}
use Rattle.ct_module.proofs.Shares.{shares_open, share_more, moved_sum-more, moved_sum-no_rows, moved_sum-no_entries}
use Rattle.ct_module.proofs.action.shares.Goals as goal

pub adding-init : goal.adding-init
adding-init c = record {
  left = search rules;
  filled = c.requires.filled;
  values = λ a known. ap (λ u. field.◌+◌ u (moved_sum a (name_with c.args.i) c.args.v.now (rows_in c.args.rows.now) c.args.element))
      c.in_ok-sum.ensures.value ∙ zero_add field.group _;
}

pub adding-preserved : goal.adding-preserved
adding-preserved c =
    let row : c.as_slice.result.now ≡ c.in-Some-split_first.row.now.items = search rules in
    let made : checked_share (action_of c.args.action) (name_with c.args.i) c.adding.sum (c.in-Some.x.now, entry c.in-Some-split_first.row.now.items c.args.element) ≡ Ok c.in_ok-sum-2.sum =
    subst (λ r. checked_share (action_of c.args.action) (name_with c.args.i) c.adding.sum (c.in-Some.x.now, entry r c.args.element) ≡ Ok c.in_ok-sum-2.sum) row c.in_ok-sum-2.ensures.steps in
    record {
      left = sym (share_more (action_of c.args.action) (name_with c.args.i) c.args.element c.adding.left.now c.in-Some.more.now c.in-Some.x.now
          (rows_in c.adding.rest.now) (rows_in c.in-Some-split_first.others.now) c.in-Some-split_first.row.now.items c.adding.sum c.in_ok-sum-2.sum
          c.in-Some.ensures.cases.0 (ap rows_in c.in-Some-split_first.ensures.cases.0) made) ∙ c.adding.invariant.left;
      filled = λ k d within. subst (All (λ row. c.args.element < length row.items)) c.in-Some-split_first.ensures.cases.0 c.adding.invariant.filled
          (suc k) d (omega (arith, within));
      values = λ a known. moved_sum-more a (name_with c.args.i) c.args.element c.adding.left.now c.in-Some.more.now c.in-Some.x.now
          (rows_in c.adding.rest.now) (rows_in c.in-Some-split_first.others.now) c.in-Some-split_first.row.now.items (value c.adding.sum) (value c.in_ok-sum-2.sum) _
          c.in-Some.ensures.cases.0 (ap rows_in c.in-Some-split_first.ensures.cases.0)
          (c.in_ok-sum-2.ensures.value a known ∙ ap (λ r. field.◌+◌ (value c.adding.sum) (moved_product a (name_with c.args.i) c.in-Some.x.now (entry r c.args.element))) row)
          (c.adding.invariant.values a known);
    }

pub returns-in_default-split_first-clause-value : goal.returns-in_default-split_first-clause-value
returns-in_default-split_first-clause-value c a known =
    moved_sum-no_rows a (name_with c.args.i) c.args.element c.adding.left.now (rows_in c.adding.rest.now) (value c.adding.sum) _
    (ap rows_in (empty_of_length c.adding.rest.now c.in_default-split_first.ensures.cases))
    (c.adding.invariant.values a known)

pub returns-clause-value : goal.returns-clause-value
returns-clause-value c a known =
    moved_sum-no_entries a (name_with c.args.i) c.args.element c.adding.left.now (rows_in c.adding.rest.now) (value c.adding.sum) _
    (empty_of_length c.adding.left.now c.in_default.ensures.cases)
    (c.adding.invariant.values a known)
