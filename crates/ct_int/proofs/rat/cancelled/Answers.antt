use Rattle.ct_int.proofs.Base.{rules, ◌∙◌, ap, pos, ◌*ℤ◌, subst, unsigned_abs, ◌≡◌, w128, IsGcd, ◌∣◌, to_z-of_z, pos_of_dvd_of_pos, div-mul_cancel}
use Rattle.ct_int.proofs.rat.cancelled.Goals as goal

pub exact_quotient-requires-clause-positive : goal.exact_quotient-requires-clause-positive
exact_quotient-requires-clause-positive c = pos_of_dvd_of_pos c.gcd-divisor.ensures.1 c.requires.positive

pub exact_quotient-requires-clause-divides : goal.exact_quotient-requires-clause-divides
exact_quotient-requires-clause-divides c =
    subst (λ n. c.gcd-divisor.result ∣ n) c.unsigned_abs.ensures.value c.gcd-divisor.ensures.0

pub nonzero_div-result : goal.nonzero_div-result
nonzero_div-result c = pos_of_dvd_of_pos c.gcd-divisor.ensures.1 c.requires.positive

pub returns : goal.returns
returns c =
    let num = to_z-of_z w128 c.args.num c.ranges.num in
    let size : c.unsigned_abs.result ≡ unsigned_abs c.args.num = c.unsigned_abs.ensures.value ∙ ap unsigned_abs num in
    record {
      divisor = c.gcd-divisor.result;
      greatest = subst (λ n. IsGcd n c.args.den c.gcd-divisor.result) size c.gcd-divisor.ensures;
      num = ap (λ z. z *ℤ pos c.gcd-divisor.result) (to_z-of_z w128 c.exact_quotient.result (search rules)) ∙ c.exact_quotient.ensures ∙ num;
      den = div-mul_cancel c.gcd-divisor.result c.gcd-divisor.ensures.1;
    }
