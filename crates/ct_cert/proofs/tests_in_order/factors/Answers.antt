use Rattle.ct_cert.proofs.Base.{subst, sym, ◌∙◌, arith, All, map, All-head, All-rest, IfSome_then, err_from_is_err_and, actions_of, summand_of}
use Rattle.ct_cert.specs.declared.place.Place.TheVariants.{Part}
use Rattle.ct_cert.specs.Certificates.{IsSmall, IsNamed}
use Rattle.ct_cert.specs.Arithmetic.{checked_part}
use Rattle.ct_cert.specs.Testing.{ending_of}
use Rattle.ct_cert.specs.Tests.{part_test, for_each}
use Rattle.ct_cert.proofs.Order.{part_made}
use Rattle.ct_cert.proofs.Steps.{next_test, ending_test}
use Rattle.ct_cert.proofs.tests_in_order.factors.Goals as goal

pub returns-in_err-checked_ending : goal.returns-in_err-checked_ending
returns-in_err-checked_ending c =
    let p = c.in-Some.part.now in
    let ps = c.in-Some.more.now in
    let whole = c.in-Some.ensures.cases.0 in
    let named = All-head (IsNamed c.args.algebra.now) p ps (subst (All (IsNamed c.args.algebra.now)) whole c.loop-part.invariant.named) in
    let small : IsSmall p = omega (arith, named.known, named.few) in
    let a = actions_of c.args.algebra.now in
    let scale = c.args.scale.now in
    let holds = checked_part a scale (summand_of p) in
    let made = part_made a scale p small in
    let exit = err_from_is_err_and c.from_residual.result c.from_residual.ensures.1 in
    rw (exit.1, exit.2)
    (IfSome_then (ending_of c.in_err-checked_ending.field-0.0) (c.in_err-checked_ending.ensures holds c.part_holds.ensures)
    (λ e ended. ending_test (part_test a scale) p ps c.loop-part.rest.now e whole (sym made ∙ ended) c.loop-part.invariant.same))

pub loop-part-preserved : goal.loop-part-preserved
loop-part-preserved c =
    let p = c.in-Some.part.now in
    let ps = c.in-Some.more.now in
    let whole = c.in-Some.ensures.cases.0 in
    let named = All-head (IsNamed c.args.algebra.now) p ps (subst (All (IsNamed c.args.algebra.now)) whole c.loop-part.invariant.named) in
    let small : IsSmall p = omega (arith, named.known, named.few) in
    let a = actions_of c.args.algebra.now in
    let scale = c.args.scale.now in
    let holds = checked_part a scale (summand_of p) in
    let made = part_made a scale p small in
    record {
      same =
          next_test (part_test a scale) p ps c.loop-part.rest.now c.in_ok-checked_ending.field-0 whole
          (sym made ∙ c.in_ok-checked_ending.ensures holds c.part_holds.ensures) c.loop-part.invariant.same;
      named = All-rest (IsNamed c.args.algebra.now) p ps c.loop-part.rest.now whole c.loop-part.invariant.named;
    }
