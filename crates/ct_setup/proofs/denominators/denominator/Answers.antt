use Rattle.ct_setup.proofs.Base.{actions_of, ap, ◌∙◌}
use Rattle.ct_setup.proofs.GivenPolynomials.{given_zero, given_other}
use Rattle.ct_setup.specs.Setup.{checked_den}
use Rattle.ct_setup.proofs.denominators.denominator.Goals as goal

pub returns-then-is_zero-clause-answers : goal.returns-then-is_zero-clause-answers
returns-then-is_zero-clause-answers c =
    let a = actions_of c.args.algebra.now in
    ap (checked_den a c.args.name) c.in-Some.is
    ∙ given_zero a c.args.name c.in-Some.expr c.in_ok-value.value c.in_ok-value.ensures (c.is_zero.ensures.0 c.if-is_zero.true)

pub returns-clause-answers : goal.returns-clause-answers
returns-clause-answers c =
    let a = actions_of c.args.algebra.now in
    ap (checked_den a c.args.name) c.in-Some.is
    ∙ given_other a c.args.name c.in-Some.expr c.in_ok-value.value c.in_ok-value.ensures
    (λ none. let told = c.is_zero.ensures.1 none in let other = c.if-is_zero.false in cc)
