use Rattle.ct_border.proofs.Base.{IfSome_then, err_from_is_err_and, subst, sym, actions_of}
use Rattle.ct_module.specs.Modules.{dimension}
use Rattle.ct_module.specs.Tested.{element_of}
use Rattle.ct_module.specs.Values.{rows_by_value}
use Rattle.ct_telescoping.proofs.StaircaseLawProofs.{gives_module}
use Rattle.ct_border.specs.BuildViews.{build_refusal_of}
use Rattle.ct_border.specs.Staircase.{refusal_of}
use Rattle.ct_border.specs.StaircaseMeans.{HasStaircase}
use Rattle.ct_border.proofs.BuiltModules.{tested_module}
use Rattle.ct_border.proofs.RefusedLists.{stair_refused, unclosed, unkilled}
use Rattle.ct_border.proofs.construction.build.Goals as goal

pub returns-in_err-basis-clause-refused : goal.returns-in_err-basis-clause-refused
returns-in_err-basis-clause-refused c =
    let exit = err_from_is_err_and c.from_residual.result c.from_residual.ensures.1 in
    rw (exit.1, exit.2)
    (stair_refused (actions_of c.args.algebra.now) c.args.generators.now (refusal_of c.in_err-basis.field-0.0) c.in_err-basis.ensures.answers)

pub returns-in_err-closed-clause-refused : goal.returns-in_err-closed-clause-refused
returns-in_err-closed-clause-refused c =
    let exit = err_from_is_err_and c.from_residual-in_err-closed.result c.from_residual-in_err-closed.ensures.1 in
    let m = c.in_ok-module.module in
    rw (exit.1, exit.2) (IfSome_then (build_refusal_of c.in_err-closed.field-0.0) c.in_err-closed.ensures.refused
    (unclosed (actions_of c.args.algebra.now) c.args.generators.now (dimension m) (element_of m) (rows_by_value m) c.in_ok-module.ensures.means.its))

pub returns-in_err-killed-clause-refused : goal.returns-in_err-killed-clause-refused
returns-in_err-killed-clause-refused c =
    let exit = err_from_is_err_and c.from_residual-in_err-killed.result c.from_residual-in_err-killed.ensures.1 in
    let m = c.in_ok-module.module in
    rw (exit.1, exit.2) (IfSome_then (build_refusal_of c.in_err-killed.field-0.0) c.in_err-killed.ensures.refused
    (unkilled (actions_of c.args.algebra.now) c.args.generators.now (dimension m) (element_of m) (rows_by_value m) c.in_ok-module.ensures.means.its
    c.in_ok-closed.ensures.means))

pub returns-clause-laws : goal.returns-clause-laws
returns-clause-laws c =
    let a = actions_of c.args.algebra.now in
    let gs = c.args.generators.now in
    let m = c.in_ok-module.module in
    gives_module a gs (dimension m) (element_of m) (rows_by_value m)
    (tested_module c.args.algebra.now gs c.as_slice.result.now m c.requires.operators
    (subst (HasStaircase a gs) (sym c.as_slice.ensures.value) c.in_ok-basis.ensures.certified) c.in_ok-module.ensures.means
    c.in_ok-closed.ensures.means c.in_ok-killed.ensures.means).tested

pub returns-clause-certified : goal.returns-clause-certified
returns-clause-certified c =
    let a = actions_of c.args.algebra.now in
    let gs = c.args.generators.now in
    tested_module c.args.algebra.now gs c.as_slice.result.now c.in_ok-module.module c.requires.operators
    (subst (HasStaircase a gs) (sym c.as_slice.ensures.value) c.in_ok-basis.ensures.certified) c.in_ok-module.ensures.means
    c.in_ok-closed.ensures.means c.in_ok-killed.ensures.means
