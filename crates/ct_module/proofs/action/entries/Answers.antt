use Rattle.ct_module.proofs.Base.{◌≡◌, ◌∙◌, ◌<◌, ◌+◌, ◌-◌, ◌++◌, ◌∷◌, [], ap, sym, subst, rules, arith, length, length-append, name_with, AnswersBy, ◌>>=◌, ℕ, List}
use Rattle.ct_module.proofs.Base.{behind, each_behind, range_with_len}
use Rattle.ct_checked.specs.Checked.{Checked}
use Rattle.ct_checked.specs.Traversal.{checked_each_from}
use Rattle.ct_frac.specs.Written.{Written}
use Rattle.ct_module.specs.Action.{checked_entry}
use Rattle.ct_module.specs.Values.{values, acted_entry}
use Rattle.ct_module.specs.Views.{rows_in}
use Rattle.ct_ore.specs.Naming.{action_of}
use Rattle.ct_module.proofs.Ranges.{range_opens, values_more}
use Rattle.ct_module.proofs.action.entries.Goals as goal

pub going-init : goal.going-init
going-init c =
    let f : ℕ → ℕ → Checked Written = λ _ k. checked_entry (action_of c.args.action) (name_with c.args.i) (rows_in c.args.rows.now) c.args.v.now k in
    let all : length c.args.v.now ≡ length c.args.v.now - 0 = omega arith in
    record {
      steps = ap (λ n. checked_each_from 1 f (range_with_len 0 n)) all
          ∙ each_behind f c.in_ok-made.made.items (range_with_len 0 (length c.args.v.now - 0)) c.in_ok-made.ensures.items;
      many = ap length c.in_ok-made.ensures.items;
      made = λ a known k within. absurd (omega (arith, within, ap length c.in_ok-made.ensures.items));
    }

pub returns-in_err-entry-clause-steps : goal.returns-in_err-entry-clause-steps
returns-in_err-entry-clause-steps c =
    let f : ℕ → ℕ → Checked Written = λ _ k. checked_entry (action_of c.args.action) (name_with c.args.i) (rows_in c.args.rows.now) c.args.v.now k in
    let some : c.going.element < length c.args.v.now = omega (arith, c.going-test.true) in
    subst (λ d. AnswersBy (λ w. w.items) d c.from_residual-in_err-entry.result)
    (sym (c.going.invariant.steps ∙ ap (behind f c.going.made.items) (range_opens c.going.element (length c.args.v.now) some))) (search rules)

pub going-preserved : goal.going-preserved
going-preserved c =
    let f : ℕ → ℕ → Checked Written = λ _ k. checked_entry (action_of c.args.action) (name_with c.args.i) (rows_in c.args.rows.now) c.args.v.now k in
    let some : c.going.element < length c.args.v.now = omega (arith, c.going-test.true) in
    let next : List ℕ = range_with_len (c.going.element + 1) (length c.args.v.now - (c.going.element + 1)) in
    let pushed : c.append.new.v.items ≡ c.going.made.items ++ c.in_ok-entry.field-0 ∷ [] = c.in_ok-append.ensures in
    let longer = length-append c.going.made.items (c.in_ok-entry.field-0 ∷ []) in
    record {
      steps = c.going.invariant.steps ∙ ap (behind f c.going.made.items) (range_opens c.going.element (length c.args.v.now) some)
          ∙ ap (λ r. r >>= (λ y. behind f (c.going.made.items ++ y ∷ []) next)) c.in_ok-entry.ensures.steps
          ∙ ap (λ d. behind f d next) (sym pushed);
      many = omega (arith, ap length pushed, longer, c.going.invariant.many);
      made = λ a known k within. subst (λ ws. values ws k ≡ acted_entry a (name_with c.args.i) c.args.v.now (rows_in c.args.rows.now) k) (sym pushed)
          (values_more (acted_entry a (name_with c.args.i) c.args.v.now (rows_in c.args.rows.now)) c.going.made.items c.in_ok-entry.field-0
          (c.going.invariant.made a known)
          (c.in_ok-entry.ensures.value a known ∙ ap (acted_entry a (name_with c.args.i) c.args.v.now (rows_in c.args.rows.now)) (sym c.going.invariant.many))
          k (omega (arith, within, ap length pushed, longer)));
    }
