use Rattle.ct_cert.proofs.Base.{subst, sym, ◌∙◌, Ok, not, All, map, All-head, All-rest, IfSome_then, err_from_is_err_and, summand_of}
use Rattle.ct_cert.specs.declared.place.Place.TheVariants.{Denominator}
use Rattle.ct_cert.specs.Certificates.{IsSmall}
use Rattle.ct_cert.specs.Testing.{ending_of}
use Rattle.ct_cert.specs.Tests.{denominator_test, for_each}
use Rattle.ct_cert.proofs.Order.{denominator_made}
use Rattle.ct_cert.proofs.Steps.{next_test, ending_test}
use Rattle.ct_cert.proofs.tests_in_order.denominators.Goals as goal

pub returns-in_err-ending : goal.returns-in_err-ending
returns-in_err-ending c =
    let p = c.in-Some.part.now in
    let ps = c.in-Some.more.now in
    let whole = c.in-Some.ensures.cases.0 in
    let small = All-head IsSmall p ps (subst (All IsSmall) whole c.loop-part.invariant.small) in
    let made = denominator_made p c.is_zero.result small c.is_zero.ensures in
    let exit = err_from_is_err_and c.from_residual.result c.from_residual.ensures.1 in
    rw (exit.1, exit.2)
    (IfSome_then (ending_of c.in_err-ending.field-0.0) c.in_err-ending.ensures
    (λ e ended. ending_test denominator_test p ps c.loop-part.rest.now e whole (sym made ∙ ended) c.loop-part.invariant.same))

pub loop-part-preserved : goal.loop-part-preserved
loop-part-preserved c =
    let p = c.in-Some.part.now in
    let ps = c.in-Some.more.now in
    let whole = c.in-Some.ensures.cases.0 in
    let small = All-head IsSmall p ps (subst (All IsSmall) whole c.loop-part.invariant.small) in
    let made = denominator_made p c.is_zero.result small c.is_zero.ensures in
    record {
      same =
          next_test denominator_test p ps c.loop-part.rest.now c.in_ok-ending.field-0 whole
          (sym made ∙ c.in_ok-ending.ensures) c.loop-part.invariant.same;
      small = All-rest IsSmall p ps c.loop-part.rest.now whole c.loop-part.invariant.small;
    }
