use Rattle.ct_int.proofs.Base.{◌≡◌, subst, ◌∙◌, ap, ◌<◌, IfOk-weaker}
use Rattle.ct_int.proofs.OperationLaws.{product_of_ratios-reciprocal}
use Rattle.ct_int.specs.Rational.{Ratio, IsLowestTerms, product_of_ratios, quotient_of_ratios}
use Rattle.ct_int.specs.Limits.{LowestTermsPass, RefusesWhere}
use Rattle.ct_int.specs.declared.fault.IntFault.TheVariants.{Overflow}
use Rattle.ct_int.proofs.rat.Rat.div.Goals as goal

same : (c : goal.After-mul) → product_of_ratios c.args.self.now c.reciprocal.result ≡ quotient_of_ratios c.args.self.now c.args.other.now
same c =
    let p = c.args.self.now in
    let q = c.args.other.now in
    let positive : Ratio → Type 0 = λ s. 0 < s.den in
    ap (λ s. product_of_ratios p s) c.reciprocal.ensures
    ∙ product_of_ratios-reciprocal p q (subst positive c.self.view_is c.self.invariant.lowest.positive)

pub returns-else-other-eq0-clause-value : goal.returns-else-other-eq0-clause-value
returns-else-other-eq0-clause-value c =
    IfOk-weaker c.mul.result (λ r. IsLowestTerms (product_of_ratios c.args.self.now c.reciprocal.result) r)
    (λ r. IsLowestTerms (quotient_of_ratios c.args.self.now c.args.other.now) r)
    (λ r h. subst (λ s. IsLowestTerms s r) (same c) h) c.mul.ensures.value

pub returns-else-other-eq0-clause-overflows : goal.returns-else-other-eq0-clause-overflows
returns-else-other-eq0-clause-overflows c =
    λ other. subst (λ s. RefusesWhere Overflow (LowestTermsPass s) c.mul.result) (same c) c.mul.ensures.overflows
