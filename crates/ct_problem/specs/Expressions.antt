-- The rules that read expressions, token after token. `Grammar.antt` says which lexemes stand for which expression; these rules
-- find it, with one token ahead and a count of turns, or the first fault.
--     EXPR   = ["-"] TERM { ("+" | "-") TERM }
--     TERM   = FACTOR { "*" FACTOR }
--     FACTOR = ATOM [ "^" NUMBER ]
--     ATOM   = NUMBER [ "/" NUMBER ] | NAME | "S" "[" NAME "]" | "D" "[" NAME "]" | "(" EXPR ")"
-- An expression of one term with no `-` before it is that term, and a term of one factor is that factor. Numbers are at
-- most the greatest coefficient, exponents at most the greatest degree, and at most 64 parentheses are open at once. A name
-- is one that was declared; `S` stands before a shift, `D` before a derivation. A polynomial has neither.
--     expression names operators    the rule of an expression under these names, with or without operators
use Rattle.std.specs.Prelude.{ℕ, zero, suc, ◌==◌, Bool, true, false, if◌then◌else◌, List, [], ◌∷◌, ◌++◌, length, slice_get, Option, Some, None, pos, ◌||◌, is_none, codes}
use Rattle.ct_algebra.specs.Actions.{Action, Shift, Derive}
use Rattle.ct_checked.specs.Limits.{largest_degree}
use Rattle.ct_token.specs.declared.token.Symbol.{Symbol}
use Rattle.ct_token.specs.declared.token.Symbol.TheVariants.{Word, Number, Sign}
use Rattle.ct_expr.specs.declared.expr.Expr.{Expr}
use Rattle.ct_expr.specs.declared.expr.Expr.TheVariants as e
use Rattle.ct_expr.specs.declared.expr.Summand.{Summand}
use Rattle.ct_problem.specs.declared.fault.BadKind.TheVariants.{UnknownName, WrongKind, ZeroDenominator, ExponentTooLarge, TooDeep}
use Rattle.ct_problem.specs.declared.reading.names.Known.{Known}
use Rattle.ct_problem.specs.declared.reading.names.Known.TheVariants.{Variable, Let, Unknown}
unfoldable pub use Rattle.ct_problem.specs.Grammar.{product_of, summand}
use Rattle.ct_problem.specs.Input.{Input, Parser, ◌>>=◌, ◌>>◌, ◌<$>◌, pure, look, fault, syntax, peek, skip, spelling, eat, expect, sees, sees_word}
use Rattle.ct_problem.specs.Limits.{most_open}
use Rattle.ct_problem.specs.Names.{Names, known, acts_as}
use Rattle.ct_problem.specs.Number.{coming_number, number, fault_if}
use Rattle.ct_problem.specs.Signs.{plus, minus, star, caret, slash, open_parenthesis, close_parenthesis, open_bracket, close_bracket}

-- which symbols the letter that comes next stands for
unfoldable pub letter : Input → Option Action
letter i = if sees_word (codes "S") i then Some Shift else (if sees_word (codes "D") i then Some Derive else None)

-- ---- numbers

-- the number after `/`
unfoldable pub divisor : Parser ℕ
divisor = do
  n ← coming_number
  fault_if (n == 0) ZeroDenominator
  skip
  pure n

unfoldable pub whole : Parser ℕ
whole = do
  n ← coming_number
  skip
  pure n

unfoldable pub constant : Parser Expr
constant = do
  n ← whole
  is_ratio ← eat slash
  if is_ratio then (do d ← divisor; pure (e.Ratio (pos n) (pos d))) else pure (e.Whole (pos n))

-- `+` or `-`, which says whether the term after it is negative
unfoldable pub joint : Parser (Option Bool)
joint = do
  adds ← eat plus
  if adds then pure (Some false) else (do subtracts ← eat minus; pure (if subtracts then Some true else None))

abbrev pub is_minus : Option Bool → Bool
is_minus (Some negative) = negative
is_minus None = false

abbrev pub joins : Input → Bool
joins i = sees plus i || sees minus i

module _ (names : Names) where
  -- ---- names

  -- what the letters that come next name
  abbrev pub coming : Parser Known
  coming = look (λ i. known (spelling i) names)

  abbrev pub name_by : Known → Parser Expr
  name_by (Variable at) = skip >> pure (e.Name at)
  name_by (Let at) = fault WrongKind
  name_by Unknown = fault UnknownName

  -- a declared name
  unfoldable pub name : Parser Expr
  name = coming >>= name_by

  abbrev pub acting_by : Action → Known → Parser Expr
  acting_by action (Variable at) = if acts_as action (slice_get names.variables at) then skip >> pure (e.Symbol at) else fault WrongKind
  acting_by action (Let at) = fault WrongKind
  acting_by action Unknown = fault UnknownName

  abbrev pub acting_word : Action → Option Symbol → Parser Expr
  acting_word action (Some Word) = coming >>= acting_by action
  acting_word action _ = syntax

  -- a declared name of this action
  unfoldable pub acting : Action → Parser Expr
  acting action = peek >>= acting_word action

  -- the symbol of a name, from its letter on
  unfoldable pub symbol_by : Action → Parser Expr
  symbol_by action = do
    skip
    expect open_bracket
    found ← acting action
    expect close_bracket
    pure found

  module _ (operators : Bool) where
    abbrev pub word_by : Bool → Option Action → Parser Expr
    word_by allowed None = name
    word_by true (Some action) = symbol_by action
    word_by false (Some action) = fault WrongKind

    unfoldable pub word : Parser Expr
    word = look letter >>= word_by operators

    -- The expression in parentheses, from the opening one on, is a parameter.
    module _ (nested : Parser Expr) where
      abbrev pub atom_by : Option Symbol → Parser Expr
      atom_by (Some Number) = constant
      atom_by (Some Word) = word
      atom_by (Some (Sign s)) = if s == open_parenthesis then nested else syntax
      atom_by _ = syntax

      unfoldable pub atom : Parser Expr
      atom = peek >>= atom_by

      unfoldable pub factor : Parser Expr
      factor = do
        base ← atom
        is_power ← eat caret
        if is_power then (do n ← number largest_degree ExponentTooLarge; pure (e.Power base n)) else pure base

      -- The number bounds the turns, and each takes a token.
      unfoldable pub factors_from : ℕ → List Expr → Parser Expr
      factors_from zero found = syntax
      factors_from (suc n) found = do
        x ← factor
        more ← eat star
        if more then factors_from n (found ++ x ∷ []) else pure (product_of (found ++ x ∷ []))

      unfoldable pub term : Parser Expr
      term = λ i. factors_from (suc (length i.left)) [] i

      unfoldable pub summands_from : ℕ → List Summand → Parser (List Summand)
      summands_from zero found = pure found
      summands_from (suc n) found = do
        sign ← joint
        if is_none sign then pure found else (do x ← term; summands_from n (found ++ summand (is_minus sign) x ∷ []))

      unfoldable pub summands : Expr → Bool → Parser (List Summand)
      summands first negative = λ i. summands_from (length i.left) (summand negative first ∷ []) i

      unfoldable pub sum : Parser Expr
      sum = do
        negative ← eat minus
        first ← term
        more ← look joins
        if negative || more then e.Sum <$> summands first negative else pure first

    -- an expression in parentheses, so many of which may still be opened
    unfoldable pub nested : ℕ → Parser Expr
    nested zero = fault TooDeep
    nested (suc depth) = do
      skip
      inner ← sum (nested depth)
      expect close_parenthesis
      pure inner

    abbrev pub expression : Parser Expr
    expression = sum (nested most_open)
