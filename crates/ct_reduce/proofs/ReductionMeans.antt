-- What a checked reduction means. Main lemmas `reduction_means`, `answer_means`: its value is a
-- reduction of the operator to a reduced rest. Cited by `left_reduce`.
use Rattle.ct_reduce.proofs.Base.{◌≡◌, Ok, Err, List, IfOk, Result, sym, ◌∙◌, ap, Name, polys, Action, Operator, IsReduced, Reduction, ReducesTo}
use Rattle.ct_checked.specs.Checked.{AnswersBy}
use Rattle.ct_checked.specs.Loop.{run_keeps}
use Rattle.ct_checked.specs.declared.fault.Fault.{Fault}
use Rattle.ct_reduce.specs.Reduction.{greatest_reducible, checked_step, reduction_rank, reduction_from, checked_reduction, no_cofactors, start}
use Rattle.ct_reduce.specs.Views.{reduction_of}
use Rattle.ct_reduce.specs.declared.reduced.Reduced.{Reduced}
use Rattle.ct_reduce.proofs.Searching.{nothing_is_reduced}
use Rattle.ct_reduce.proofs.StepsKeepIdentity.{start_reduces, step_reduces}
use Rattle.ct_reduce.proofs.ReductionEnds.{falls}

module _ (a : Name → Action) where
  pub reduction_means :
      (generators : List Operator) (p : Operator) (r : Reduction) → checked_reduction a generators p ≡ Ok r →
      ReducesTo a generators p r × IsReduced generators r.rest
  unfolding reduction_from
  reduction_means generators p r fits =
      let w = run_keeps (reduction_rank generators) (greatest_reducible generators) (checked_step a) (ReducesTo a generators p)
      (λ s t h. step_reduces a generators p s t h) (falls a generators) (start generators p) r (start_reduces a generators p) fits in
      (w.0, nothing_is_reduced generators r w.1)

  -- the same of what a call answers to it, from the start's three parts
  pub answer_means :
      (generators : List Operator) (p : Operator) (s : Reduction) (r : Result Reduced Fault) →
      s.scale ≡ polys.one → s.cofactors ≡ no_cofactors generators → s.rest ≡ p →
      AnswersBy reduction_of (reduction_from a generators s) r →
      IfOk r (λ t. ReducesTo a generators p (reduction_of t) × IsReduced generators t.rest)
  answer_means generators p s r one none same answer = by r answer
    where
      begins : start generators p ≡ s
      begins = λ i. record { scale = sym one i; cofactors = sym none i; rest = sym same i }

      by :
          (r : Result Reduced Fault) → AnswersBy reduction_of (reduction_from a generators s) r →
          IfOk r (λ t. ReducesTo a generators p (reduction_of t) × IsReduced generators t.rest)
      by (Ok t) fits = reduction_means generators p (reduction_of t) (ap (reduction_from a generators) begins ∙ fits)
      by (Err fault) refused = tt
