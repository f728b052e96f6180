-- What is printed is read back (this project's own).
--     PolynomialFits names p              the polynomial is within the limits, and contains only names of the list
--     OperatorFits names p                so is the operator, and its symbols are those of names that have one
--     IsSpelled names operators x text    each byte of the text stands in a token or a gap, and the tokens are an EXPR for x
--     PolynomialIsRead names p, OperatorIsRead names p    what is printed is spelled so for one x alone, of the value that was printed
--     PrintedPolynomialsAreRead, PrintedOperatorsAreRead  that is so of all that fit
-- The limits are those that polynomials and operators of the code keep to.
use Rattle.std.specs.Prelude.{◌≡◌, ◌≤◌, ℕ, Bool, true, false, List, length, None, Ok}
use Rattle.ct_token.specs.Lexical.{scan_of}
use Rattle.ct_algebra.specs.Terms.{EachTerm}
use Rattle.ct_algebra.specs.Names.{Name, place}
use Rattle.ct_algebra.specs.Polynomial.{Polynomial, count, norm, degree}
use Rattle.ct_algebra.specs.Operators.{Operator}
use Rattle.ct_algebra.specs.FreeOf.{IsFreeOf, IsOver}
use Rattle.ct_checked.specs.Limits.{largest_degree, most_terms, largest_norm}
use Rattle.ct_ore.specs.Naming.{Naming, IsAlgebra, actions_of}
use Rattle.ct_ore.specs.Measures.{term_count, term_norm, coefficient_degree, order_of}
use Rattle.ct_expr.specs.declared.expr.Expr.{Expr}
use Rattle.ct_problem.specs.Declarations.{declared}
use Rattle.ct_problem.specs.Lexemes.{lexemes}
use Rattle.ct_problem.specs.Grammar.{IsExpression}
use Rattle.ct_expr.specs.Value.{value_of, checked_polynomial}
use Rattle.ct_problem.specs.WellFormed.{IsOperator, IsPolynomial}
use Rattle.ct_answer.specs.Text.{polynomial_text, operator_text}

-- no name past the list stands in the polynomial
abbrev pub IsNamed : List Naming → Polynomial → Type 0
IsNamed names p = (j : Name) → length names ≤ place j → IsFreeOf j p

pub record PolynomialFits (names : List Naming) (p : Polynomial) : Type 0 where
  pub few : count p ≤ most_terms
  pub small : norm p ≤ largest_norm
  pub low : degree p ≤ largest_degree
  pub named : IsNamed names p

pub record OperatorFits (names : List Naming) (p : Operator) : Type 0 where
  pub few : term_count p ≤ most_terms
  pub small : term_norm p ≤ largest_norm
  pub low : coefficient_degree p ≤ largest_degree
  pub low_order : order_of p ≤ largest_degree
  pub named : EachTerm (λ m c. IsNamed names c) p.terms
  pub acting : IsOver (actions_of names) p

pub record IsSpelled (names : List Naming) (operators : Bool) (x : Expr) (text : List ℕ) : Type 0 where
  pub whole : (scan_of text 0).bad ≡ None
  pub stands : IsExpression (declared names) operators x (lexemes text (scan_of text 0).tokens)

-- what is printed of the polynomial stands for one expression, which can be evaluated and has its value
pub record PolynomialIsRead (names : List Naming) (p : Polynomial) : Type 0 where
  pub expression : Expr
  pub spelled : IsSpelled names false expression (polynomial_text names p)
  pub only : (x : Expr) → IsSpelled names false x (polynomial_text names p) → x ≡ expression
  pub evaluable : IsPolynomial names expression
  pub value : checked_polynomial (actions_of names) expression ≡ Ok p

pub record OperatorIsRead (names : List Naming) (p : Operator) : Type 0 where
  pub expression : Expr
  pub spelled : IsSpelled names true expression (operator_text names p)
  pub only : (x : Expr) → IsSpelled names true x (operator_text names p) → x ≡ expression
  pub evaluable : IsOperator names expression
  pub value : value_of (actions_of names) expression ≡ Ok p

abbrev pub PrintedPolynomialsAreRead : Type 0
PrintedPolynomialsAreRead = (names : List Naming) (p : Polynomial) → IsAlgebra names → PolynomialFits names p → PolynomialIsRead names p

abbrev pub PrintedOperatorsAreRead : Type 0
PrintedOperatorsAreRead = (names : List Naming) (p : Operator) → IsAlgebra names → OperatorFits names p → OperatorIsRead names p
