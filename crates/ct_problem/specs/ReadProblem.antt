-- Reading a problem for a command. Which bytes stand for which problem is said in `GrammarProblem.antt`; `read_problem` has both,
-- as its clauses `reads`, `accepts` and `refuses`. The rules go through the lines in order and through the tokens from left to
-- right, and the first fault decides.
--     lacks command p              the command needs a line that the problem doesn't have
--     last_line command p          the rule of the `end` line, which gives the place behind it
--     problem command              the rule of a problem
--     problem_of command bytes     the problem that the bytes are read as and the place behind it, or their first fault
--     reading_of p                 what the code's problem says
--     Gives o r                    what a call may answer to that
-- What stands behind the `end` line is the report for `check`, and else one thing too many.
use Rattle.std.specs.Prelude.{◌≡◌, ℕ, Bool, true, false, ◌&&◌, ◌||◌, not, is_none, nat_lt, List, [], ◌∷◌, length, Option, Some, None, Result, Ok, Err, if◌then◌else◌, map, string_bytes, codes}
use Rattle.ct_io.specs.declared.command.Command.{Command}
use Rattle.ct_io.specs.declared.command.Command.TheVariants.{Telescope, Check, Reduce, Test, Close, Member, Gen, Demo}
use Rattle.ct_token.specs.Lexical.{Scanned, scan_of}
use Rattle.ct_token.specs.declared.token.Symbol.{Symbol}
use Rattle.ct_token.specs.declared.token.Symbol.TheVariants.{LineEnd}
use Rattle.ct_token.specs.declared.token.Token.{Token}
use Rattle.ct_checked.specs.Checked.{AnswersAs}
use Rattle.ct_ore.specs.Naming.{Naming}
use Rattle.ct_expr.specs.declared.expr.Expr.{Expr}
use Rattle.ct_problem.specs.declared.fault.BadInput.{BadInput}
use Rattle.ct_problem.specs.declared.fault.BadKind.TheVariants.{TooLong, Missing, TrailingText}
use Rattle.ct_problem.specs.declared.fault.ReadFault.{ReadFault}
use Rattle.ct_problem.specs.declared.problem.Gens.{Gens}
use Rattle.ct_problem.specs.declared.problem.Gens.TheVariants as gens
use Rattle.ct_problem.specs.declared.problem.LetForm.{LetForm}
use Rattle.ct_problem.specs.declared.problem.Problem.{Problem}
use Rattle.ct_problem.specs.declared.problem.Range.{Range}
use Rattle.ct_problem.specs.Input.{Input, Outcome, Parser, ◌>>=◌, ◌>>◌, pure, look, fault, syntax, skip, symbol, sees_word, fresh_line, bad_of}
use Rattle.ct_problem.specs.Declarations.{declarations}
use Rattle.ct_problem.specs.DenLines.{Dens, den_lines}
use Rattle.ct_problem.specs.LetLines.{Definition, with_definitions, let_lines}
use Rattle.ct_problem.specs.Limits.{most_bytes, highest_order, highest_degree}
use Rattle.ct_problem.specs.Lines.{header, value_lines}
use Rattle.ct_problem.specs.Names.{summed_texts}
use Rattle.ct_problem.specs.Number.{fault_if}
use Rattle.ct_problem.specs.ProblemLines.{generators, range_line}

-- what a text says of a problem
pub record Reading : Type 0 where
  pub variables : List Naming
  pub definitions : List Definition
  pub generators : Gens
  pub dens : Dens
  pub targets : List Expr
  pub orders : Option Range
  pub degrees : Option Range

-- ---- what a command needs

abbrev pub is_empty : {X : Type 0} → List X → Bool
is_empty [] = true
is_empty (x ∷ xs) = false

abbrev pub has_generators : Gens → Bool
has_generators (gens.Listed []) = false
has_generators (gens.Listed (x ∷ xs)) = true
has_generators (gens.Named at) = true

abbrev pub is_used : Gens → Bool
is_used (gens.Listed xs) = false
is_used (gens.Named at) = true

abbrev pub has_supports : Reading → Bool
has_supports p = not (is_none p.orders || is_none p.degrees)

-- something to sum over, generators, and supports to try
abbrev pub can_be_tried : Reading → Bool
can_be_tried p = not (is_empty (summed_texts p.variables)) && (has_generators p.generators && has_supports p)

abbrev pub has_targets : Reading → Bool
has_targets p = not (is_empty p.targets)

abbrev pub has_needs : Command → Reading → Bool
has_needs Telescope p = can_be_tried p
has_needs Check p = can_be_tried p
has_needs Reduce p = has_targets p
has_needs Test p = has_generators p.generators
has_needs Close p = is_used p.generators
has_needs Member p = has_generators p.generators && has_targets p
has_needs Gen p = true
has_needs Demo p = true

unfoldable pub lacks : Command → Reading → Bool
lacks command p = not (has_needs command p)

-- ---- the end

-- where the next token ends
abbrev pub end_in : List Token → ℕ
end_in [] = 0
end_in (t ∷ ts) = t.to

abbrev pub ending_by : Option Symbol → Parser ℕ
ending_by (Some LineEnd) = do at ← look (λ i. end_in i.left); skip; pure at
ending_by None = look (λ i. length i.text)
ending_by _ = syntax

-- the end of the last line
unfoldable pub ending : Parser ℕ
ending = look symbol >>= ending_by

abbrev pub trailing_by : List Token → Parser (Unit {0})
trailing_by [] = pure tt
trailing_by (t ∷ ts) = fault TrailingText

-- no line comes that isn't blank
unfoldable pub nothing_left : Parser (Unit {0})
nothing_left = fresh_line >> (λ i. trailing_by i.left i)

abbrev pub behind_end : Command → Parser (Unit {0})
behind_end Check = pure tt
behind_end _ = nothing_left

unfoldable pub last_line : Command → Reading → Parser ℕ
last_line command p = do
  is_end ← look (sees_word (codes "end"))
  if is_end then fault_if (lacks command p) Missing else syntax
  skip
  at ← ending
  behind_end command
  pure at

-- ---- the whole

-- behind the declared names and the `let` lines
unfoldable pub body : List Naming → List Definition → Parser Reading
body variables definitions = do
  generators ← generators (with_definitions variables definitions)
  dens ← den_lines (with_definitions variables definitions)
  targets ← value_lines (with_definitions variables definitions) (codes "target")
  orders ← range_line (codes "order") highest_order
  degrees ← range_line (codes "degree") highest_degree
  pure (record { variables = variables; definitions = definitions; generators = generators; dens = dens; targets = targets; orders = orders; degrees = degrees })

-- the first line, the names and the `let` lines
unfoldable pub head : Parser (List Naming × List Definition)
head = do
  fresh_line
  header (codes "problem")
  variables ← declarations
  definitions ← let_lines variables
  pure (variables, definitions)

-- with the place behind it
unfoldable pub problem : Command → Parser (Reading × ℕ)
problem command = do
  names ← head
  p ← body names.0 names.1
  end ← last_line command p
  pure (p, end)

abbrev pub value_of : {A : Type 0} → Outcome A → Result A BadInput
value_of (Ok p) = Ok p.0
value_of (Err e) = Err e

abbrev pub input_of_scan : List ℕ → Scanned → Input
input_of_scan bytes scan = record { text = bytes; left = scan.tokens; bad = scan.bad }

abbrev pub too_long : BadInput
too_long = record { kind = TooLong; offset = most_bytes }

unfoldable pub problem_of : Command → List ℕ → Result (Reading × ℕ) BadInput
problem_of command bytes =
    if nat_lt most_bytes (length bytes) then Err too_long else value_of (problem command (input_of_scan bytes (scan_of bytes 0)))

-- ---- what a call answers

-- text by text
abbrev pub definitions_of : List (List ℕ) → List LetForm → List Definition
definitions_of (text ∷ texts) (form ∷ forms) = record { text = text; form = form } ∷ definitions_of texts forms
definitions_of _ _ = []

abbrev pub reading_of : Problem → Reading
reading_of p = record {
  variables = p.algebra;
  definitions = definitions_of (map string_bytes p.let_names.items) p.lets;
  generators = p.gens;
  dens = p.dens;
  targets = p.targets;
  orders = p.orders;
  degrees = p.degrees;
}

abbrev pub Gives : Result (Reading × ℕ) BadInput → Result Problem ReadFault → Type 0
Gives outcome r = AnswersAs bad_of (λ p. (reading_of p, p.end)) outcome r
