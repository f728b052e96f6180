use Rattle.ct_reduce.proofs.Base.{◌∙◌, actions_of}
use Rattle.ct_reduce.specs.Views.{reduction_of, reducible_of, step_of}
use Rattle.ct_reduce.proofs.ReductionEnds.{reduction_is}
use Rattle.ct_reduce.proofs.Turns.{place_known, turned}
use Rattle.ct_reduce.proofs.reduction.reduced_from.Goals as goal

pub reducing-init : goal.reducing-init
reducing-init c =
    (reduction_is (actions_of c.args.algebra.now) c.args.generators.now (reduction_of c.args.start), c.requires)

pub taken-requires : goal.taken-requires
taken-requires c =
    place_known (actions_of c.args.algebra.now) c.args.generators.now (reduction_of c.reducing.state) (reducible_of c.in-Some.reducible)
    (step_of c.in_ok-step.step) (reduction_of c.in_ok-multiplied.multiplied) c.in-Some.ensures c.in_ok-step.ensures c.in_ok-multiplied.ensures
    c.reducing.invariant.1

pub reducing-smaller : goal.reducing-smaller
reducing-smaller c =
    (turned (actions_of c.args.algebra.now) c.args.generators.now (reduction_of c.reducing.state) (reducible_of c.in-Some.reducible)
    (step_of c.in_ok-step.step) (reduction_of c.in_ok-multiplied.multiplied) c.in-Some.ensures c.in_ok-step.ensures c.in_ok-multiplied.ensures
    (reduction_of c.in_ok-state.state) c.in_ok-state.ensures).rank_falls

pub reducing-preserved : goal.reducing-preserved
reducing-preserved c =
    let t = turned (actions_of c.args.algebra.now) c.args.generators.now (reduction_of c.reducing.state) (reducible_of c.in-Some.reducible)
    (step_of c.in_ok-step.step) (reduction_of c.in_ok-multiplied.multiplied) c.in-Some.ensures c.in_ok-step.ensures c.in_ok-multiplied.ensures
    (reduction_of c.in_ok-state.state) c.in_ok-state.ensures in
    (c.reducing.invariant.0 ∙ t.same, t.length_kept ∙ c.reducing.invariant.1)
