use Rattle.ct_expr.proofs.Base.{◌≡◌, true, false, sym, ◌∙◌, subst, IfOk, unit, Polynomial, mono_eq}
use Rattle.ct_expr.proofs.CoefficientOfOne.{all_left, one_is_there, one_is_later, one_is_nowhere}
use Rattle.ct_expr.proofs.polynomial.coefficient_of_one.Goals as goal

pub loop-term-init : goal.loop-term-init
loop-term-init c = all_left c.args.value.now _ c.terms-term-items.ensures

pub returns-then-eq : goal.returns-then-eq
returns-then-eq c =
    let is_one : mono_eq c.term-item.result.mono unit ≡ true = rw c.one-one.ensures at (sym c.eq.ensures ∙ c.if-eq.true) in
    subst (λ (q : Polynomial). IfOk c.copy.result (λ p. p ≡ q))
    (one_is_there c.args.value.now _ _ c.term-item.result c.loop-term-test.true c.term-item.is is_one c.loop-term.invariant) c.copy.ensures.value

pub loop-term-preserved : goal.loop-term-preserved
loop-term-preserved c =
    let other : mono_eq c.term-item.result.mono unit ≡ false = rw c.one-one.ensures at (sym c.eq.ensures ∙ c.if-eq.false) in
    one_is_later c.args.value.now _ _ c.term-item.result c.loop-term-test.true c.term-item.is other c.loop-term.invariant

pub returns : goal.returns
returns c = c.zero.ensures ∙ one_is_nowhere c.args.value.now _ _ c.loop-term-test.false c.loop-term.invariant
