use Rattle.ct_poly.proofs.Base.{◌∙◌, refl, arith, ap₂, min}
use Rattle.ct_poly.proofs.CommonMonomials.{meeting_more}
use Rattle.ct_poly.proofs.content.common_monomial_of.Goals as goal

pub loop-i-init : goal.loop-i-init
loop-i-init c = record { done = λ k small before. absurd (omega arith); left = λ k small after. refl }

pub loop-i-preserved : goal.loop-i-preserved
loop-i-preserved c =
    meeting_more c.loop-i-test.true (c.min.ensures ∙ ap₂ min c.exp.ensures c.exp-in-loop-i.ensures) c.with_exp-least.ensures c.loop-i.invariant

pub returns : goal.returns
returns c = λ i small. c.loop-i.invariant.done i small (omega (arith, small))
