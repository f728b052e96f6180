use Rattle.std.proofs.Common.{◌≡◌, ◌≢◌, ◌<◌, ◌+◌, length, ℕ, sym, ◌∙◌, ap, subst, arith, below_more, get_or, get_or-set_other, get_or-set_same}
use Rattle.std.proofs.Common.{length-set, MatchOption}
use Rattle.ct_algebra.specs.Monomial.{mono_of, total, total-mono_of, total-·, ◌·◌}
use Rattle.ct_algebra.proofs.MonomialLists.{product_of_sums}
use Rattle.ct_mono.specs.Division.{Divides, over-meaning}
use Rattle.ct_mono.proofs.Arrays.{over_of_differences, over_of_less}
use Rattle.ct_mono.proofs.monomial.Monomial.over.Goals as goal

pub loop-i-preserved : goal.loop-i-preserved
loop-i-preserved c = record {
  six = length-set c.loop-i.exps c.loop-i.i _ ∙ c.loop-i.invariant.six;
  sums = below_more _ _
      (λ k h. let ne : k ≢ c.loop-i.i = omega arith in rw get_or-set_other (c.loop-i.invariant.sums k h))
      (let lt : c.loop-i.i < length c.loop-i.exps = omega (arith, c.loop-i.invariant.six) in rw get_or-set_same
      (omega arith));
}

pub returns-then-mine-i-clause-value : goal.returns-then-mine-i-clause-value
returns-then-mine-i-clause-value c =
    over_of_less c.self.inside.exps c.by.inside.exps c.loop-i.i c.self.view_is c.by.view_is c.loop-i-test.true
    c.if-mine-i.true

pub returns-then-mine-i-clause-divides : goal.returns-then-mine-i-clause-divides
returns-then-mine-i-clause-divides c =
    subst (λ o. MatchOption o (¬ Divides c.args.by.now c.args.self.now) (λ m. m · c.args.by.now ≡ c.args.self.now))
    (sym (returns-then-mine-i-clause-value c)) (over-meaning c.args.self.now c.args.by.now)

whole : (c : goal.After-loop-i) → (k : ℕ) → k < 6 →
    get_or c.loop-i.exps k 0 + get_or c.by.inside.exps k 0 ≡ get_or c.self.inside.exps k 0
whole c k small = c.loop-i.invariant.sums k (omega arith)

pub returns-clause-value : goal.returns-clause-value
returns-clause-value c =
    over_of_differences c.self.inside.exps c.by.inside.exps c.loop-i.exps c.self.view_is c.by.view_is (whole c)

pub returns-clause-divides : goal.returns-clause-divides
returns-clause-divides c =
    sym (product_of_sums c.loop-i.exps c.by.inside.exps c.self.inside.exps (λ i. mono_of c.loop-i.exps) c.by.view_is
    (λ k small. sym (whole c k small))) ∙ c.self.view_is

pub invariant_of-result : goal.invariant_of-result
invariant_of-result c =
    let product : mono_of c.self.inside.exps ≡ mono_of c.loop-i.exps · mono_of c.by.inside.exps = product_of_sums
    c.loop-i.exps c.by.inside.exps c.self.inside.exps (λ i. mono_of c.loop-i.exps) (λ i. mono_of c.by.inside.exps)
    (λ k small. sym (whole c k small)) in (
      c.loop-i.invariant.six,
      omega (
        arith,
        c.self.invariant,
        total-mono_of c.loop-i.exps c.loop-i.invariant.six,
        total-mono_of c.self.inside.exps c.self.invariant.0,
        ap total product,
        total-· (mono_of c.loop-i.exps)
            (mono_of c.by.inside.exps),
      ),
    )
