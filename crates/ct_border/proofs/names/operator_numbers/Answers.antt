use Rattle.ct_border.proofs.Base.{◌∙◌, arith, sym, true, actions_of}
use Rattle.ct_border.proofs.NamesWithOperators.{numbers_more}
use Rattle.ct_border.proofs.names.operator_numbers.Goals as goal

pub loop-i-preserved : goal.loop-i-preserved
loop-i-preserved c =
    c.in_ok-push.ensures.items
    ∙ numbers_more (actions_of c.args.algebra.now) c.loop-i.i c.loop-i.found.items true (omega (arith, c.loop-i-test.true)) c.loop-i.invariant
    (sym c.if-not-has_operator.false ∙ c.has_operator.ensures)
