-- The rules that read `den` lines, at most one for each summed name, in any order:
--     den NAME: EXPR      the EXPR has no operators
-- A second line for a name is too many from its first word on, which is decided when its NAME is read.
--     den_lines names     the rule of these lines, which gives what stands for each declared name
use Rattle.std.specs.Prelude.{ℕ, zero, suc, Bool, true, false, max, is_some, if◌then◌else◌, List, [], ◌∷◌, length, map, slice_get, Option, Some, None, codes}
use Rattle.ct_token.specs.declared.token.Symbol.{Symbol}
use Rattle.ct_token.specs.declared.token.Symbol.TheVariants.{Word}
use Rattle.ct_ore.specs.Naming.{Naming, is_summed}
use Rattle.ct_expr.specs.declared.expr.Expr.{Expr}
use Rattle.ct_problem.specs.declared.fault.BadKind.TheVariants.{TooMany, UnknownName, WrongKind}
use Rattle.ct_problem.specs.declared.reading.names.Known.{Known}
use Rattle.ct_problem.specs.declared.reading.names.Known.TheVariants.{Variable, Let, Unknown}
use Rattle.ct_problem.specs.Input.{Parser, ◌>>=◌, ◌>>◌, pure, look, fault, fault_at, syntax, peek, skip, place, sees_word, expect}
use Rattle.ct_problem.specs.Expressions.{coming}
use Rattle.ct_problem.specs.Lines.{no_more, value}
use Rattle.ct_problem.specs.Names.{Names, summed_texts}
use Rattle.ct_problem.specs.Signs.{colon}

-- what stands for each declared name
abbrev pub Dens : Type 0
Dens = List (Option Expr)

abbrev pub no_dens : List Naming → Dens
no_dens variables = map (λ n. None) variables

-- what stands for the name with this number, if anything does
abbrev pub is_given : ℕ → Dens → Bool
is_given at [] = false
is_given zero (d ∷ ds) = is_some d
is_given (suc at) (d ∷ ds) = is_given at ds

abbrev pub with_den : ℕ → Expr → Dens → Dens
with_den at x [] = []
with_den zero x (d ∷ ds) = Some x ∷ ds
with_den (suc at) x (d ∷ ds) = d ∷ with_den at x ds

abbrev pub is_summed_name : Option Naming → Bool
is_summed_name (Some n) = is_summed n.role
is_summed_name None = false

module _ (names : Names) where
  abbrev pub summed_by : Known → Parser ℕ
  summed_by (Variable at) = if is_summed_name (slice_get names.variables at) then skip >> pure at else fault WrongKind
  summed_by (Let at) = fault WrongKind
  summed_by Unknown = fault UnknownName

  abbrev pub summed_word : Option Symbol → Parser ℕ
  summed_word (Some Word) = coming names >>= summed_by
  summed_word _ = syntax

  -- a summed name
  unfoldable pub summed_name : Parser ℕ
  summed_name = peek >>= summed_word

  abbrev pub once : Bool → ℕ → Parser (Unit {0})
  once true start = fault_at TooMany start
  once false start = pure tt

  -- a `den` line
  unfoldable pub den_line : Dens → Parser Dens
  den_line found = do
    start ← look place
    skip
    at ← summed_name
    once (is_given at found) start
    expect colon
    x ← value names false
    pure (with_den at x found)

  -- at most so many more lines
  unfoldable pub den_lines_from : ℕ → Dens → Parser Dens
  den_lines_from zero found = no_more (codes "den") >> pure found
  den_lines_from (suc n) found = do
    more ← look (sees_word (codes "den"))
    if more then (do dens ← den_line found; den_lines_from n dens) else pure found

  -- Without a summed name the first line meets its fault at the NAME.
  unfoldable pub den_lines : Parser Dens
  den_lines = den_lines_from (max 1 (length (summed_texts names.variables))) (no_dens names.variables)
