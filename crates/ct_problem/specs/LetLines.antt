-- The rules that read `let` lines, at most 8:
--     let NAME = gens EXPR; EXPR; ...      1 to 16 expressions
--     let NAME = plus NAME NAME
--     let NAME = product NAME NAME
--     let NAME = apply NAME: EXPR
-- The NAME after `let` is declared by its line, as those of name lines are, and stands behind them. The others are of earlier
-- `let` lines.
--     list_name names            the rule of the name of an earlier `let` line, which gives its number
--     let_lines variables        the rule of these lines, behind these declared names
use Rattle.std.specs.Prelude.{ℕ, zero, suc, ◌==◌, Bool, true, false, ◌||◌, if◌then◌else◌, List, [], ◌∷◌, ◌++◌, map, Option, Some, None, codes}
use Rattle.ct_token.specs.declared.token.Symbol.{Symbol}
use Rattle.ct_token.specs.declared.token.Symbol.TheVariants.{Word, Number, Sign}
use Rattle.ct_ore.specs.Naming.{Naming}
use Rattle.ct_expr.specs.declared.expr.Expr.{Expr}
use Rattle.ct_problem.specs.declared.fault.BadKind.TheVariants.{TooMany, UnknownName, WrongKind}
use Rattle.ct_problem.specs.declared.reading.names.Known.{Known}
use Rattle.ct_problem.specs.declared.reading.names.Known.TheVariants.{Variable, Let, Unknown}
use Rattle.ct_problem.specs.declared.problem.LetForm.{LetForm}
use Rattle.ct_problem.specs.declared.problem.LetForm.TheVariants as form
use Rattle.ct_problem.specs.declared.reading.let_lines.LetWord.{LetWord}
use Rattle.ct_problem.specs.declared.reading.let_lines.LetWord.TheVariants.{Gens, Plus, Product, Apply}
use Rattle.ct_problem.specs.Input.{Input, Parser, ◌>>=◌, ◌>>◌, ◌<$>◌, pure, look, fault, syntax, peek, skip, sees_word, eat, eat_word, expect, line_end}
use Rattle.ct_problem.specs.Declarations.{new_name}
use Rattle.ct_problem.specs.Expressions.{coming, expression}
use Rattle.ct_problem.specs.Limits.{most_lets, most_listed}
use Rattle.ct_problem.specs.Lines.{no_more}
use Rattle.ct_problem.specs.Names.{Names}
use Rattle.ct_problem.specs.Number.{fault_if}
use Rattle.ct_problem.specs.Signs.{minus, open_parenthesis, colon, semicolon, equals}

-- the text of a `let` line's name, and what stands for it
pub record Definition : Type 0 where
  pub text : List ℕ
  pub form : LetForm

-- these names, and the names of these lines
abbrev pub with_definitions : List Naming → List Definition → Names
with_definitions variables found = record { variables = variables; lets = map (λ d. d.text) found }

-- a token that can begin an expression
abbrev pub begins_expression : Option Symbol → Bool
begins_expression (Some Number) = true
begins_expression (Some Word) = true
begins_expression (Some (Sign s)) = s == minus || s == open_parenthesis
begins_expression _ = false

-- one more expression than there may be
unfoldable pub one_too_many : Parser (List Expr)
one_too_many = do
  first ← peek
  fault_if (begins_expression first) TooMany
  syntax

-- which form begins here
unfoldable pub let_word : Input → Option LetWord
let_word i =
    if sees_word (codes "gens") i then Some Gens
    else (if sees_word (codes "plus") i then Some Plus
    else (if sees_word (codes "product") i then Some Product
    else (if sees_word (codes "apply") i then Some Apply else None)))

module _ (names : Names) where
  abbrev pub list_by : Known → Parser ℕ
  list_by (Let at) = skip >> pure at
  list_by (Variable at) = fault WrongKind
  list_by Unknown = fault UnknownName

  abbrev pub list_word : Option Symbol → Parser ℕ
  list_word (Some Word) = coming names >>= list_by
  list_word _ = syntax

  unfoldable pub list_name : Parser ℕ
  list_name = peek >>= list_word

  -- at most so many more expressions
  unfoldable pub listed_from : ℕ → List Expr → Parser (List Expr)
  listed_from zero found = one_too_many
  listed_from (suc n) found = do
    x ← expression names true
    more ← eat semicolon
    if more then listed_from n (found ++ x ∷ []) else pure (found ++ x ∷ [])

  unfoldable pub two_lists : Parser (ℕ × ℕ)
  two_lists = do
    first ← list_name
    second ← list_name
    pure (first, second)

  unfoldable pub applied : Parser LetForm
  applied = do
    at ← list_name
    expect colon
    x ← expression names true
    pure (form.Apply at x)

  -- what stands behind the word
  abbrev pub form_by : LetWord → Parser LetForm
  form_by Gens = form.Gens <$> listed_from most_listed []
  form_by Plus = (λ p. form.Plus p.0 p.1) <$> two_lists
  form_by Product = (λ p. form.Product p.0 p.1) <$> two_lists
  form_by Apply = applied

  abbrev pub form_of_word : Option LetWord → Parser LetForm
  form_of_word (Some word) = skip >> form_by word
  form_of_word None = syntax

  unfoldable pub let_form : Parser LetForm
  let_form = look let_word >>= form_of_word

  -- a `let` line behind its first word
  unfoldable pub definition : Parser Definition
  definition = do
    text ← new_name names
    expect equals
    form ← let_form
    line_end
    pure (record { text = text; form = form })

module _ (variables : List Naming) where
  -- at most so many more lines
  unfoldable pub let_lines_from : ℕ → List Definition → Parser (List Definition)
  let_lines_from zero found = no_more (codes "let") >> pure found
  let_lines_from (suc n) found = do
    more ← eat_word (codes "let")
    if more then (do d ← definition (with_definitions variables found); let_lines_from n (found ++ d ∷ [])) else pure found

  unfoldable pub let_lines : Parser (List Definition)
  let_lines = let_lines_from most_lets []
