-- What is printed is read back. Main lemmas `polynomials_are_read` and `operators_are_read`, which the laws cite.
use Rattle.ct_answer.proofs.Base.{◌≡◌, Ok, List, true, false, refl, ap, ◌∙◌, unit, Name, Polynomial, count, norm, Action, Operator, polynomial_at}
use Rattle.ct_answer.proofs.Base.{term_of, at-term_of, pick-same, Checked, ◌>>=◌, Naming, actions_of, Value, value_of, checked_polynomial}
use Rattle.ct_answer.specs.Text.{polynomial_text, operator_text}
use Rattle.ct_answer.specs.ReadBack.{PolynomialFits, PrintedPolynomialsAreRead, PrintedOperatorsAreRead}
use Rattle.ct_answer.proofs.PrintedExpressions.{polynomial_expression, operator_expression}
use Rattle.ct_answer.proofs.SpelledTexts.{polynomial_is_spelled, operator_is_spelled}
use Rattle.ct_answer.proofs.OneExpression.{one_expression, is_operator, is_polynomial}
use Rattle.ct_answer.proofs.PolynomialValues.{polynomial_written}
use Rattle.ct_answer.proofs.OperatorValues.{operator_value}
use Rattle.ct_answer.proofs.FittingValues.{small_entries, small_operator_entries}

coefficient_of_one : (p : Polynomial) → polynomial_at (term_of unit p) unit ≡ p
coefficient_of_one p = at-term_of unit unit p ∙ pick-same unit unit p refl

polynomial_value : (a : Name → Action) (names : List Naming) (p : Polynomial) → PolynomialFits names p →
    checked_polynomial a (polynomial_expression p) ≡ Ok p
unfolding count norm value_of
polynomial_value a names p fits =
    ap (λ (c : Checked Value). (c >>= (λ v. let r : Checked Operator = Ok v.operator in r)) >>= (λ x. Ok (polynomial_at x unit)))
    (polynomial_written a p (small_entries p fits.low fits.small) fits.few fits.small)
    ∙ ap Ok (coefficient_of_one p)

pub polynomials_are_read : PrintedPolynomialsAreRead
polynomials_are_read names p known fits = record {
  expression = polynomial_expression p;
  spelled = polynomial_is_spelled names p known fits;
  only = λ x spelled. one_expression names false (polynomial_text names p) x (polynomial_expression p) spelled
      (polynomial_is_spelled names p known fits);
  evaluable = is_polynomial names (polynomial_text names p) (polynomial_expression p) known (polynomial_is_spelled names p known fits);
  value = polynomial_value (actions_of names) names p fits;
}

pub operators_are_read : PrintedOperatorsAreRead
operators_are_read names p known fits = record {
  expression = operator_expression p;
  spelled = operator_is_spelled names p known fits;
  only = λ x spelled. one_expression names true (operator_text names p) x (operator_expression p) spelled (operator_is_spelled names p known fits);
  evaluable = is_operator names (operator_text names p) (operator_expression p) known (operator_is_spelled names p known fits);
  value = operator_value (actions_of names) p (small_operator_entries names p fits) fits.few fits.small;
}
