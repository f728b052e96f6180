use Rattle.ct_cert.proofs.Base.{subst}
use Rattle.ct_cert.specs.Certificates.{names_of}
use Rattle.ct_cert.specs.Testing.{AnswersTest}
use Rattle.ct_cert.proofs.Order.{zero_telescoper, free_telescoper}
use Rattle.ct_cert.proofs.tests_in_order.telescoper.Goals as goal

pub returns-then-is_zero : goal.returns-then-is_zero
returns-then-is_zero c =
    subst (λ t. AnswersTest t c.ending.result)
    (zero_telescoper (names_of c.args.parts.now) c.args.op.now c.is_zero.result c.is_zero.ensures c.if-is_zero.true) c.ending.ensures

pub returns : goal.returns
returns c =
    subst (λ t. AnswersTest t c.ending-2.result)
    (free_telescoper (names_of c.args.parts.now) c.args.op.now c.is_zero.result c.is_free.result c.is_zero.ensures c.if-is_zero.false
    c.is_free.ensures) c.ending-2.ensures
