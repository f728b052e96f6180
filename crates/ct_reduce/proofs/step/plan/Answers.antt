use Rattle.ct_reduce.proofs.Base.{◌∙◌, sym}
use Rattle.ct_reduce.proofs.StepsKeepIdentity.{leading_nonzero}
use Rattle.ct_reduce.proofs.step.plan.Goals as goal

pub factor_and_share-requires : goal.factor_and_share-requires
factor_and_share-requires c = λ none. leading_nonzero c.in_ok-moved.moved (sym c.in_ok-leading.ensures ∙ none)
