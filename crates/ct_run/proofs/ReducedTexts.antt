-- What a text of reductions means. Main lemma `reductions_mean`, which what a run means stands on.
use Rattle.ct_run.proofs.Base.{◌≡◌, refl, subst, ℕ, List, Ok, Err, Name, Operator, Reduction, ReducesTo, Checked, refused_as, each_means}
use Rattle.ct_algebra.specs.Actions.{Action}
use Rattle.ct_algebra.specs.Leading.{IsReduced}
use Rattle.ct_reduce.specs.Reduction.{checked_reduction}
use Rattle.ct_reduce.proofs.ReductionMeans.{reduction_means}
use Rattle.ct_run.specs.Reducing.{TargetOverflow, checked_reductions, target_reduction, EachReduces}

module _ (a : Name → Action) (generators : List Operator) where
  reduces :
      (n : ℕ) (x : Operator) (r : Reduction) → target_reduction a generators n x ≡ Ok r →
      ReducesTo a generators x r × IsReduced generators r.rest
  reduces n x r fits = by (checked_reduction a generators x) refl fits
    where
      by :
          (c : Checked Reduction) → checked_reduction a generators x ≡ c → refused_as {F = TargetOverflow} (λ kind. (n, kind)) c ≡ Ok r →
          ReducesTo a generators x r × IsReduced generators r.rest
      by (Ok s) is fits =
          let same : s ≡ r = cc in
          subst (λ t. ReducesTo a generators x t × IsReduced generators t.rest) same (reduction_means a generators x s is)
      by (Err kind) is fits = cc

  pub reductions_mean : (xs : List Operator) (rs : List Reduction) → checked_reductions a generators xs ≡ Ok rs → EachReduces a generators xs rs
  reductions_mean =
      each_means (target_reduction a generators) (EachReduces a generators) tt (λ n x r xs rs fits each. (reduces n x r fits, each)) 1
