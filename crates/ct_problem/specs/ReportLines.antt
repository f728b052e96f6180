-- The rules that read a report that found a telescoper, under names and a number of generators:
--     mgfun report 1
--     found I order R degree T
--     telescoper OP
--     numerator NAME: OP       with the next line, for each summed name in order
--     denominator NAME: POLY
--     scale POLY
--     part NAME: POLY          for each summed name in order
--     cofactor NUMBER: OP      for each generator, from 1
--     end
-- The three numbers of the second line are at most 65535. Nothing comes after the last line.
--     report names count       the rule of these lines, where the names are the declared ones
use Rattle.std.specs.Prelude.{ℕ, zero, suc, ◌+◌, Bool, true, false, List, [], ◌∷◌, ◌++◌, codes}
use Rattle.ct_ore.specs.Naming.{Naming}
use Rattle.ct_expr.specs.declared.expr.Expr.{Expr}
use Rattle.ct_problem.specs.declared.fault.BadKind.TheVariants.{OutOfRange, TrailingText}
use Rattle.ct_problem.specs.declared.report.Quotient.{Quotient}
use Rattle.ct_problem.specs.declared.report.Report.{Report}
use Rattle.ct_problem.specs.Declarations.{declared}
use Rattle.ct_problem.specs.Input.{Parser, ◌>>=◌, ◌>>◌, pure, fault, syntax, expect, expect_word, line_end}
use Rattle.ct_problem.specs.Limits.{largest_index}
use Rattle.ct_problem.specs.Lines.{header, value, part}
use Rattle.ct_problem.specs.Names.{Names, summed_texts}
use Rattle.ct_problem.specs.Number.{number, exactly}
use Rattle.ct_problem.specs.Signs.{colon}

abbrev pub numbered : List ℕ → Parser ℕ
numbered key = expect_word key >> number largest_index OutOfRange

unfoldable pub found_line : Parser (ℕ × ℕ × ℕ)
found_line = do
  index ← numbered (codes "found")
  order ← numbered (codes "order")
  degree ← numbered (codes "degree")
  line_end
  pure (index, order, degree)

-- by this rule, for each of the texts
unfoldable pub each_of : {X : Type 0} → (List ℕ → Parser X) → List (List ℕ) → List X → Parser (List X)
each_of line [] found = pure found
each_of line (text ∷ texts) found = do
  x ← line text
  each_of line texts (found ++ x ∷ [])

module _ (names : Names) where
  unfoldable pub quotient : List ℕ → Parser Quotient
  quotient text = do
    numerator ← part names (codes "numerator") text true
    denominator ← part names (codes "denominator") text false
    pure (record { numerator = numerator; denominator = denominator })

  abbrev pub factor : List ℕ → Parser Expr
  factor text = part names (codes "part") text false

  unfoldable pub cofactor : ℕ → Parser Expr
  cofactor number = do
    expect_word (codes "cofactor")
    exactly number
    expect colon
    value names true

  -- so many more cofactors, the first of this number
  unfoldable pub cofactors_from : ℕ → ℕ → List Expr → Parser (List Expr)
  cofactors_from number zero found = pure found
  cofactors_from number (suc n) found = do
    x ← cofactor number
    cofactors_from (number + 1) n (found ++ x ∷ [])

  unfoldable pub keyed : List ℕ → Bool → Parser Expr
  keyed key operators = do
    expect_word key
    value names operators

abbrev pub at_end_by : {X : Type 0} → List X → Parser (Unit {0})
at_end_by [] = pure tt
at_end_by (x ∷ xs) = fault TrailingText

-- no token is left
unfoldable pub at_end : Parser (Unit {0})
at_end = λ i. at_end_by i.left i

abbrev pub full_end_by : {X : Type 0} → List X → Parser (Unit {0})
full_end_by [] = syntax
full_end_by (x ∷ xs) = line_end

-- the end of a line, which the end of the text doesn't stand for
unfoldable pub full_line_end : Parser (Unit {0})
full_line_end = λ i. full_end_by i.left i

unfoldable pub finish : Parser (Unit {0})
finish = do
  expect_word (codes "end")
  full_line_end
  at_end

-- the lines before the last one
unfoldable pub report_lines : List Naming → ℕ → Parser Report
report_lines variables count = do
  header (codes "report")
  place ← found_line
  telescoper ← keyed (declared variables) (codes "telescoper") true
  quotients ← each_of (quotient (declared variables)) (summed_texts variables) []
  scale ← keyed (declared variables) (codes "scale") false
  factors ← each_of (factor (declared variables)) (summed_texts variables) []
  cofactors ← cofactors_from (declared variables) 1 count []
  pure (record { index = place.0; order = place.1; degree = place.2; telescoper = telescoper; quotients = quotients; scale = scale; factors = factors; cofactors = cofactors })

unfoldable pub report : List Naming → ℕ → Parser Report
report variables count = do
  r ← report_lines variables count
  finish
  pure r
