use Rattle.ct_int.proofs.Base.{◌≡◌, subst, ◌∙◌, ap, sym, IfOk-weaker}
use Rattle.ct_int.proofs.OperationLaws.{sum_of_ratios-opposite, SumPasses-opposite, SumPasses-to_opposite, refuses-same}
use Rattle.ct_int.specs.Rational.{IsLowestTerms, sum_of_ratios, difference_of_ratios}
use Rattle.ct_int.specs.Limits.{SumPasses}
use Rattle.ct_int.specs.declared.fault.IntFault.TheVariants.{Overflow}
use Rattle.ct_int.proofs.rat.Rat.sub.Goals as goal

pub returns-clause-value : goal.returns-clause-value
returns-clause-value c =
    let p = c.args.self.now in
    let q = c.args.other.now in
    let same : sum_of_ratios p c.opposite.result ≡ difference_of_ratios p q = ap (λ s. sum_of_ratios p s) c.opposite.ensures
    ∙ sum_of_ratios-opposite p q in
    IfOk-weaker c.add.result (λ r. IsLowestTerms (sum_of_ratios p c.opposite.result) r) (λ r. IsLowestTerms (difference_of_ratios p q) r)
    (λ r h. subst (λ s. IsLowestTerms s r) same h) c.add.ensures.value

pub returns-clause-overflows : goal.returns-clause-overflows
returns-clause-overflows c =
    let p = c.args.self.now in
    let q = c.args.other.now in
    refuses-same Overflow (SumPasses p c.opposite.result) (SumPasses p q) c.add.result
    (λ h. SumPasses-opposite p q (subst (λ s. SumPasses p s) c.opposite.ensures h))
    (λ h. subst (λ s. SumPasses p s) (sym c.opposite.ensures) (SumPasses-to_opposite p q h)) c.add.ensures.overflows
