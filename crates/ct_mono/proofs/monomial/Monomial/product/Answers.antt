use Rattle.std.proofs.Common.{◌≡◌, ◌≢◌, ◌<◌, length, ◌∙◌, ap, arith, below_more, get_or-set_other, get_or-set_same, length-set}
use Rattle.ct_algebra.proofs.MonomialLists.{product_of_sums}
use Rattle.ct_algebra.specs.Monomial.{total, total-mono_of, total-·, mono_of, ◌·◌}
use Rattle.ct_mono.proofs.monomial.Monomial.product.Goals as goal

pub loop-i-preserved : goal.loop-i-preserved
loop-i-preserved c = record {
  six = length-set c.loop-i.exps c.loop-i.i _ ∙ c.loop-i.invariant.six;
  sums = below_more _ _
      (λ k h. let ne : k ≢ c.loop-i.i = omega arith in rw get_or-set_other (c.loop-i.invariant.sums k h))
      (let lt : c.loop-i.i < length c.loop-i.exps = omega (arith, c.loop-i.invariant.six) in rw get_or-set_same);
}

pub returns : goal.returns
returns c =
    product_of_sums c.self.inside.exps c.other.inside.exps c.loop-i.exps c.self.view_is c.other.view_is
    (λ k h. c.loop-i.invariant.sums k (omega arith))

pub invariant_of-result : goal.invariant_of-result
invariant_of-result c =
    let e : mono_of c.loop-i.exps ≡ mono_of c.self.inside.exps · mono_of c.other.inside.exps = product_of_sums
    c.self.inside.exps c.other.inside.exps c.loop-i.exps (λ i. mono_of c.self.inside.exps)
    (λ i. mono_of c.other.inside.exps) (λ k h. c.loop-i.invariant.sums k (omega arith)) in (
      c.loop-i.invariant.six,
      omega (
        arith,
        c.requires,
        total-mono_of c.loop-i.exps c.loop-i.invariant.six,
        ap total e,
        total-· (mono_of c.self.inside.exps) (mono_of c.other.inside.exps),
        ap total c.self.view_is,
        ap total c.other.view_is,
      ),
    )
