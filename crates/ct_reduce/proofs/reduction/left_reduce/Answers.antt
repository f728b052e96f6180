use Rattle.ct_reduce.proofs.Base.{IfOk-weaker, actions_of}
use Rattle.ct_reduce.proofs.ReductionMeans.{answer_means}
use Rattle.ct_reduce.proofs.reduction.left_reduce.Goals as goal

pub returns-clause-meaning : goal.returns-clause-meaning
returns-clause-meaning c =
    IfOk-weaker c.reduced_from.result _ _ (λ t both. both.0)
    (answer_means (actions_of c.args.algebra.now) c.args.generators.now c.args.op.now _ c.reduced_from.result c.in_ok-scale.ensures
    c.in_ok-cofactors.ensures c.in_ok-rest.ensures.value c.reduced_from.ensures)

pub returns-clause-reduced : goal.returns-clause-reduced
returns-clause-reduced c =
    IfOk-weaker c.reduced_from.result _ _ (λ t both. both.1)
    (answer_means (actions_of c.args.algebra.now) c.args.generators.now c.args.op.now _ c.reduced_from.result c.in_ok-scale.ensures
    c.in_ok-cofactors.ensures c.in_ok-rest.ensures.value c.reduced_from.ensures)
