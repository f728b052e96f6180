-- What is printed is spelled by the grammar. Main lemmas `polynomial_is_spelled` and `operator_is_spelled`.
use Rattle.ct_answer.proofs.Base.{true, false, List, Polynomial, Operator, Naming, IsAlgebra, declared, IsNested, IsExpression}
use Rattle.ct_answer.specs.Text.{polynomial_text, operator_text}
use Rattle.ct_answer.specs.ReadBack.{PolynomialFits, OperatorFits, IsSpelled}
use Rattle.ct_answer.proofs.ReadTexts.{Writes-whole}
use Rattle.ct_answer.proofs.PrintedExpressions.{polynomial_expression, operator_expression}
use Rattle.ct_answer.proofs.SpelledSums.{Writes-polynomial}
use Rattle.ct_answer.proofs.SpelledOperators.{Writes-operator}
use Rattle.ct_answer.proofs.FittingTexts.{entries_fit, operator_entries_fit}

pub polynomial_is_spelled : (names : List Naming) (p : Polynomial) → IsAlgebra names → PolynomialFits names p →
    IsSpelled names false (polynomial_expression p) (polynomial_text names p)
polynomial_is_spelled names p known fits =
    let all = Writes-whole false true (polynomial_text names p) (IsExpression (declared names) false (polynomial_expression p))
    (Writes-polynomial names known false (IsNested (declared names) false 64) p (entries_fit names false p fits)) in
    record { whole = all.no_bad; stands = all.stands }

pub operator_is_spelled : (names : List Naming) (p : Operator) → IsAlgebra names → OperatorFits names p →
    IsSpelled names true (operator_expression p) (operator_text names p)
operator_is_spelled names p known fits =
    let all = Writes-whole false true (operator_text names p) (IsExpression (declared names) true (operator_expression p))
    (Writes-operator names known 63 p (operator_entries_fit names p fits)) in
    record { whole = all.no_bad; stands = all.stands }
