use Rattle.ct_ore.proofs.Base.{◌≡◌, ◌*◌, ◌∙◌, sym, ap, arith, eqb-true}
use Rattle.ct_ore.proofs.WayLaws.{told_positive}
use Rattle.ct_ore.proofs.ways.capped_product.Goals as goal

pub returns-then-is_zero : goal.returns-then-is_zero
returns-then-is_zero c = λ v w one other.
    let none : v ≡ 0 = eqb-true v 0 (sym (c.is_zero.ensures v one) ∙ c.if-is_zero.true) in
    (omega (arith, ap (λ x. x * w) none), omega arith)

pub returns-then-is_zero-2 : goal.returns-then-is_zero-2
returns-then-is_zero-2 c = λ v w one other.
    let none : w ≡ 0 = eqb-true w 0 (sym (c.is_zero-2.ensures w other) ∙ c.if-is_zero-2.true) in
    (omega (arith, ap (λ x. v * x) none), omega arith)

pub returns : goal.returns
returns c = λ v w one other.
    c.positive_product.ensures v w (told_positive v (sym (c.is_zero.ensures v one) ∙ c.if-is_zero.false))
    (told_positive w (sym (c.is_zero-2.ensures w other) ∙ c.if-is_zero-2.false)) one other
