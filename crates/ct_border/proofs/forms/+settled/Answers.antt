use Rattle.ct_border.proofs.Base.{◌∙◌, ap, length, sym, subst, actions_of, IfSome_then, err_from_is_err_and, ◌>>=◌}
use Rattle.ct_checked.specs.Checked.{kind_of}
use Rattle.ct_module.proofs.Base.{empty_of_length}
use Rattle.ct_module.specs.Combination.{checked_combination}
use Rattle.ct_ore.specs.Terms.{op_entries}
use Rattle.ct_reduce.specs.Views.{reducer_of}
use Rattle.ct_border.specs.Build.{shares, checked_form}
use Rattle.ct_border.specs.Known.{IsWorked, place_of}
use Rattle.ct_border.proofs.FormSteps.{some_terms}
use Rattle.ct_border.proofs.FormSums.{unit_worked, form_moved, settling_start, settling_more, settling_end}
use Rattle.ct_border.proofs.KnownForms.{found_stored, appended_stored, form_there}
use Rattle.ct_border.proofs.forms.+settled.Goals as goal

pub returns-in-Some : goal.returns-in-Some
returns-in-Some t c =
    let i = c.args.ideal.now in
    let stored = found_stored (actions_of i.algebra.now) i.generators.now i.basis.now c.args.known.now.items c.args.m.now c.in-Some.place
    c.requires.known (ap (λ es. place_of es c.args.m.now) (sym c.as_slice.ensures.value) ∙ sym c.in-Some.ensures) in
    record { steps = stored.form.steps; stored = stored }

pub returns-in_default : goal.returns-in_default
returns-in_default t c =
    let i = c.args.ideal.now in
    let stored = appended_stored (actions_of i.algebra.now) i.generators.now i.basis.now c.args.known.now.items c.remember.new.known.items _
    c.in_ok-place.place c.requires.known
    (unit_worked (actions_of i.algebra.now) i.generators.now i.basis.now c.args.m.now c.in_ok-form.form.items c.requires.staircase
    c.requires.operators (sym c.in_default.ensures) c.in_ok-form.ensures) c.in_ok-place.ensures.appended c.in_ok-place.ensures.place in
    record { steps = stored.form.steps; stored = stored }

pub returns-in_err-moved-clause-steps : goal.returns-in_err-moved-clause-steps
returns-in_err-moved-clause-steps t c =
    let i = c.args.ideal.now in
    let exit = err_from_is_err_and c.from_residual-in_err-moved.result c.from_residual-in_err-moved.ensures.1 in
    rw (exit.1, exit.2) (IfSome_then (kind_of c.in_err-moved.field-0.0) c.in_err-moved.ensures
    (λ k refused. form_moved (actions_of i.algebra.now) i.generators.now i.basis.now c.args.m.now (reducer_of c.in-Some-first_reducer.reducer)
    (sym c.in-Some-first_reducer.ensures)
    ∙ ap (λ o. o >>= (λ moved. checked_combination (checked_form (actions_of i.algebra.now) i.generators.now i.basis.now) (length i.basis.now)
    (shares moved.terms))) refused))

pub returns-in_default-split_first : goal.returns-in_default-split_first
returns-in_default-split_first t c =
    let i = c.args.ideal.now in
    absurd (some_terms (actions_of i.algebra.now) i.generators.now c.args.m.now (reducer_of c.in-Some-first_reducer.reducer) c.in_ok-moved.moved
    (sym c.in-Some-first_reducer.ensures) c.in_ok-moved.ensures
    (sym c.terms.ensures ∙ ap op_entries (empty_of_length c.terms.result.now c.in_default-split_first.ensures.cases)))

pub with_share-requires-clause-first : goal.with_share-requires-clause-first
with_share-requires-clause-first t c = c.adding.invariant.0.nonzero

pub adding-init : goal.adding-init
adding-init t c =
    let i = c.args.ideal.now in (
      settling_start (actions_of i.algebra.now) i.generators.now i.basis.now c.args.m.now c.in-Some-split_first.first.now.coef
          (reducer_of c.in-Some-first_reducer.reducer) c.in_ok-moved.moved c.in-Some-split_first.first.now.mono c.in_ok-sum.sum.items
          (op_entries c.in-Some-split_first.tail.now) c.requires.over c.requires.operators (sym c.in-Some-first_reducer.ensures) c.in_ok-moved.ensures
          (sym c.terms.ensures ∙ ap op_entries c.in-Some-split_first.ensures.cases.0) c.in_ok-sum.ensures,
      c.requires.known,
    )

pub adding-preserved : goal.adding-preserved
adding-preserved t c =
    let i = c.args.ideal.now in
    let t = c.in-Some-split_first-2.t.now in
    let there = form_there c.settled.new.known.items c.in_ok-place-3.place c.index.result.now c.as_slice-in-Some-split_first-2-2.result.now
    c.in_ok-place-3.ensures.stored.within c.index.ensures c.as_slice-in-Some-split_first-2-2.ensures.value in (
      settling_more (actions_of i.algebra.now) i.generators.now i.basis.now c.args.m.now c.in-Some-split_first.first.now.coef c.adding.sum.items
          c.as_slice-in-Some-split_first-2.result.now c.as_slice-in-Some-split_first-2-2.result.now c.in_ok-sum-2.sum.items (op_entries
          c.adding.rest.now)
          (op_entries c.in-Some-split_first-2.more.now) t.mono t.coef c.adding.invariant.0 (ap op_entries c.in-Some-split_first-2.ensures.cases.0)
          c.as_slice-in-Some-split_first-2.ensures.value
          (subst (IsWorked (actions_of i.algebra.now) i.generators.now i.basis.now t.mono) there c.in_ok-place-3.ensures.stored.form)
          c.in_ok-sum-2.ensures.steps c.in_ok-sum-2.ensures.size c.in_ok-sum-2.ensures.means,
      c.in_ok-place-3.ensures.stored.known,
    )

pub returns : goal.returns
returns t c =
    let i = c.args.ideal.now in
    let stored = appended_stored (actions_of i.algebra.now) i.generators.now i.basis.now c.adding.known.items c.remember-2.new.known.items _
    c.in_ok-place-4.place c.adding.invariant.1
    (settling_end (actions_of i.algebra.now) i.generators.now i.basis.now c.args.m.now c.in-Some-split_first.first.now.coef c.adding.sum.items
    (op_entries c.adding.rest.now) c.adding.invariant.0 (ap op_entries (empty_of_length c.adding.rest.now c.in_default-split_first-2.ensures.cases)))
    c.in_ok-place-4.ensures.appended c.in_ok-place-4.ensures.place in
    record { steps = stored.form.steps; stored = stored }
