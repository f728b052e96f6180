use Rattle.ct_cert.proofs.Base.{Ok, not, ap, sym, ◌∙◌, subst, map, IfSome_then, err_from_is_err_and, actions_of, summand_of, certificate_of}
use Rattle.ct_cert.specs.declared.place.Place.TheVariants.{Found, Scale}
use Rattle.ct_cert.specs.Arithmetic.{checked_identity}
use Rattle.ct_cert.specs.Certificates.{names_of}
use Rattle.ct_cert.specs.Testing.{AnswersTest, ending_of, test_of}
use Rattle.ct_cert.specs.Tests.{telescoper_test, denominator_test, part_test, for_each}
use Rattle.ct_cert.proofs.Order.{scale_made, tests_at_found, tests_at_telescoper, tests_at_scale, tests_at_denominators, tests_at_factors}
use Rattle.ct_cert.proofs.Order.{tests_at_identity}
use Rattle.ct_cert.proofs.tests_in_order.all_tests.Goals as goal

pub returns-in_err-ending : goal.returns-in_err-ending
returns-in_err-ending c =
    let exit = err_from_is_err_and c.from_residual.result c.from_residual.ensures.1 in
    rw (exit.1, exit.2)
    (IfSome_then (ending_of c.in_err-ending.field-0.0) c.in_err-ending.ensures
    (λ e ended. tests_at_found _ _ _ _ _ _ e (sym (ap (λ b. test_of Found (Ok b)) c.eq.ensures) ∙ ended)))

pub returns-in_err-telescoper : goal.returns-in_err-telescoper
returns-in_err-telescoper c =
    let answer = c.args.answer.now in
    let named = ap names_of c.as_slice-parts.ensures.value ∙ c.requires.parts in
    let same = sym (ap (λ b. test_of Found (Ok b)) c.eq.ensures) ∙ c.in_ok-ending.ensures in
    let exit = err_from_is_err_and c.from_residual-in_err-telescoper.result c.from_residual-in_err-telescoper.ensures.1 in
    rw (exit.1, exit.2)
    (IfSome_then (ending_of c.in_err-telescoper.field-0.0) c.in_err-telescoper.ensures
    (λ e ended. tests_at_telescoper _ _ _ _ _ _ _ same e (sym (ap (λ js. telescoper_test js answer.telescoper) named) ∙ ended)))

pub returns-in_err-ending-2 : goal.returns-in_err-ending-2
returns-in_err-ending-2 c =
    let answer = c.args.answer.now in
    let named = ap names_of c.as_slice-parts.ensures.value ∙ c.requires.parts in
    let same = sym (ap (λ b. test_of Found (Ok b)) c.eq.ensures) ∙ c.in_ok-ending.ensures in
    let free = sym (ap (λ js. telescoper_test js answer.telescoper) named) ∙ c.in_ok-telescoper.ensures in
    let exit = err_from_is_err_and c.from_residual-in_err-ending-2.result c.from_residual-in_err-ending-2.ensures.1 in
    rw (exit.1, exit.2)
    (IfSome_then (ending_of c.in_err-ending-2.field-0.0) c.in_err-ending-2.ensures
    (λ e ended. tests_at_scale _ _ _ _ _ _ _ same _ free e (sym (scale_made answer.scale c.is_zero.result c.is_zero.ensures) ∙ ended)))

pub returns-in_err-denominators : goal.returns-in_err-denominators
returns-in_err-denominators c =
    let answer = c.args.answer.now in
    let parts = c.as_slice-parts.ensures.value in
    let named = ap names_of parts ∙ c.requires.parts in
    let same = sym (ap (λ b. test_of Found (Ok b)) c.eq.ensures) ∙ c.in_ok-ending.ensures in
    let free = sym (ap (λ js. telescoper_test js answer.telescoper) named) ∙ c.in_ok-telescoper.ensures in
    let nonzero = sym (scale_made answer.scale c.is_zero.result c.is_zero.ensures) ∙ c.in_ok-ending-2.ensures in
    let exit = err_from_is_err_and c.from_residual-in_err-denominators.result c.from_residual-in_err-denominators.ensures.1 in
    rw (exit.1, exit.2)
    (IfSome_then (ending_of c.in_err-denominators.field-0.0) c.in_err-denominators.ensures
    (λ e ended. tests_at_denominators _ _ _ _ _ _ _ same _ free _ nonzero
    e (sym (ap (λ ps. for_each denominator_test (map summand_of ps)) parts) ∙ ended)))

pub returns-in_err-factors : goal.returns-in_err-factors
returns-in_err-factors c =
    let answer = c.args.answer.now in
    let a = actions_of c.args.algebra.now in
    let parts = c.as_slice-parts.ensures.value in
    let named = ap names_of parts ∙ c.requires.parts in
    let same = sym (ap (λ b. test_of Found (Ok b)) c.eq.ensures) ∙ c.in_ok-ending.ensures in
    let free = sym (ap (λ js. telescoper_test js answer.telescoper) named) ∙ c.in_ok-telescoper.ensures in
    let nonzero = sym (scale_made answer.scale c.is_zero.result c.is_zero.ensures) ∙ c.in_ok-ending-2.ensures in
    let denominators = sym (ap (λ ps. for_each denominator_test (map summand_of ps)) parts) ∙ c.in_ok-denominators.ensures in
    let exit = err_from_is_err_and c.from_residual-in_err-factors.result c.from_residual-in_err-factors.ensures.1 in
    rw (exit.1, exit.2)
    (IfSome_then (ending_of c.in_err-factors.field-0.0) c.in_err-factors.ensures
    (λ e ended. tests_at_factors _ _ _ _ _ _ _ same _ free _ nonzero _ denominators
    e (sym (ap (λ ps. for_each (part_test a answer.scale) (map summand_of ps)) parts) ∙ ended)))

pub returns : goal.returns
returns c =
    let answer = c.args.answer.now in
    let a = actions_of c.args.algebra.now in
    let parts = c.as_slice-parts.ensures.value in
    let named = ap names_of parts ∙ c.requires.parts in
    let same = sym (ap (λ b. test_of Found (Ok b)) c.eq.ensures) ∙ c.in_ok-ending.ensures in
    let free = sym (ap (λ js. telescoper_test js answer.telescoper) named) ∙ c.in_ok-telescoper.ensures in
    let nonzero = sym (scale_made answer.scale c.is_zero.result c.is_zero.ensures) ∙ c.in_ok-ending-2.ensures in
    let denominators = sym (ap (λ ps. for_each denominator_test (map summand_of ps)) parts) ∙ c.in_ok-denominators.ensures in
    let factors = sym (ap (λ ps. for_each (part_test a answer.scale) (map summand_of ps)) parts) ∙ c.in_ok-factors.ensures in
    let ending = tests_at_identity _ _ _ _ _ _ _ same _ free _ nonzero _ denominators _ factors in
    subst (λ t. AnswersTest t c.checked_ending.result) (sym ending)
    (c.checked_ending.ensures (checked_identity a c.args.generators.now (certificate_of answer)) c.identity_holds.ensures)
