-- The steps that the lines of problems and reports are made of.
--     header kind                 the first line of a problem or report
--     value names operators       an expression and the end of its line
--     part names key text ops     a line of a name's expression in a report: `key NAME: EXPR`
--     value_lines names key       the lines `key EXPR`, at most 16
use Rattle.std.specs.Prelude.{ℕ, zero, suc, Bool, true, if◌then◌else◌, List, [], ◌∷◌, ◌++◌, codes}
use Rattle.ct_expr.specs.declared.expr.Expr.{Expr}
use Rattle.ct_problem.specs.declared.fault.BadKind.TheVariants.{TooMany}
use Rattle.ct_problem.specs.Input.{Parser, ◌>>=◌, ◌>>◌, pure, look, expect, eat_word, expect_word, sees_word, line_end}
use Rattle.ct_problem.specs.Number.{exactly, fault_if}
use Rattle.ct_problem.specs.Expressions.{expression}
use Rattle.ct_problem.specs.Limits.{most_listed}
use Rattle.ct_problem.specs.Names.{Names}
use Rattle.ct_problem.specs.Signs.{colon}

unfoldable pub header : List ℕ → Parser (Unit {0})
header kind = do
  expect_word (codes "mgfun")
  expect_word kind
  exactly 1
  line_end

-- no line that begins with this word comes
unfoldable pub no_more : List ℕ → Parser (Unit {0})
no_more key = do
  more ← look (sees_word key)
  fault_if more TooMany

module _ (names : Names) where
  unfoldable pub value : Bool → Parser Expr
  value operators = do
    expr ← expression names operators
    line_end
    pure expr

  unfoldable pub part : List ℕ → List ℕ → Bool → Parser Expr
  part key text operators = do
    expect_word key
    expect_word text
    expect colon
    value operators

  -- at most so many more lines
  unfoldable pub value_lines_from : List ℕ → ℕ → List Expr → Parser (List Expr)
  value_lines_from key zero found = no_more key >> pure found
  value_lines_from key (suc n) found = do
    more ← eat_word key
    if more then (do x ← value true; value_lines_from key n (found ++ x ∷ [])) else pure found

  unfoldable pub value_lines : List ℕ → Parser (List Expr)
  value_lines key = value_lines_from key most_listed []
