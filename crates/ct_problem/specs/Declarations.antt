-- The rules that read the lines of names, one to six:
--     free NAME shift, free NAME diff, sum NAME, int NAME, param NAME
-- A name is a word of at most 32 bytes that was not declared before and isn't `S` or `D`. `sum` declares a shift and `int` a
-- derivation, both summed. At most four names have operators, and at most three are summed; the line of one more is too
-- many from its first word on.
--     new_name names     the rule of a name that is declared
--     declarations       the rule of these lines
use Rattle.std.specs.Prelude.{ℕ, zero, suc, Bool, true, false, not, ◌||◌, if◌then◌else◌, List, [], ◌∷◌, ◌++◌, length, count_by, nat_lt, Option, Some, None, codes}
use Rattle.ct_token.specs.declared.token.Symbol.{Symbol}
use Rattle.ct_token.specs.declared.token.Symbol.TheVariants.{Word}
use Rattle.ct_algebra.specs.Actions as actions
use Rattle.ct_ore.specs.Naming.{Naming, has_operator}
use Rattle.ct_ore.specs.declared.algebra.Role.{Role}
use Rattle.ct_ore.specs.declared.algebra.Role.TheVariants as role
use Rattle.ct_problem.specs.declared.fault.BadKind.TheVariants.{TooMany, NameTooLong, DuplicateName}
use Rattle.ct_problem.specs.declared.reading.declarations.NameLine.{NameLine}
use Rattle.ct_problem.specs.declared.reading.declarations.NameLine.TheVariants.{Free, Sum, Int, Param}
use Rattle.ct_problem.specs.Input.{Input, Parser, ◌>>=◌, ◌>>◌, pure, look, syntax, peek, skip, spelling, sees_word, eat_word, expect_word, line_end}
use Rattle.ct_problem.specs.Limits.{most_names, longest_name}
use Rattle.ct_problem.specs.Names.{Names, is_new, summed_texts}
use Rattle.ct_problem.specs.Number.{fault_if}

-- ---- a name that is declared

abbrev pub spelled_word : Option Symbol → Parser (List ℕ)
spelled_word (Some Word) = look spelling
spelled_word _ = syntax

unfoldable pub new_name : Names → Parser (List ℕ)
new_name names = do
  text ← peek >>= spelled_word
  fault_if (nat_lt longest_name (length text)) NameTooLong
  fault_if (not (is_new text names)) DuplicateName
  skip
  pure text

-- ---- the lines

-- which name line begins here
unfoldable pub name_line : Input → Option NameLine
name_line i =
    if sees_word (codes "free") i then Some Free
    else (if sees_word (codes "sum") i then Some Sum
    else (if sees_word (codes "int") i then Some Int
    else (if sees_word (codes "param") i then Some Param else None)))

-- `shift` or `diff`
unfoldable pub free_action : Parser actions.Action
free_action = do
  is_shift ← eat_word (codes "shift")
  if is_shift then pure actions.Shift else expect_word (codes "diff") >> pure actions.Derive

abbrev pub action_of_line : NameLine → Parser actions.Action
action_of_line Free = free_action
action_of_line Sum = pure actions.Shift
action_of_line Int = pure actions.Derive
action_of_line Param = pure actions.Still

abbrev pub role_of_line : NameLine → Role
role_of_line Free = role.Free
role_of_line Sum = role.Summed
role_of_line Int = role.Summed
role_of_line Param = role.Param

-- as many names as may have operators do
abbrev pub acts_fully : List Naming → Bool
acts_fully found = nat_lt 3 (count_by has_operator found)

-- as many names are summed as may be
abbrev pub sums_fully : List Naming → Bool
sums_fully found = nat_lt 2 (length (summed_texts found))

-- these names leave no room for a name of this line
unfoldable pub is_full : NameLine → List Naming → Bool
is_full Free found = acts_fully found
is_full Sum found = acts_fully found || sums_fully found
is_full Int found = acts_fully found || sums_fully found
is_full Param found = false

-- these names, and no `let` line
abbrev pub declared : List Naming → Names
declared found = record { variables = found; lets = [] }

-- a name line, after these names
unfoldable pub declaration : NameLine → List Naming → Parser Naming
declaration line found = do
  fault_if (is_full line found) TooMany
  skip
  text ← new_name (declared found)
  action ← action_of_line line
  line_end
  pure (record { text = text; action = action; role = role_of_line line })

abbrev pub full_by : List Naming → Option NameLine → Parser (List Naming)
full_by found None = pure found
full_by found (Some line) = fault_if true TooMany >> pure found

abbrev pub declarations_by : (NameLine → Parser (List Naming)) → List Naming → Option NameLine → Parser (List Naming)
declarations_by more found None = pure found
declarations_by more found (Some line) = more line

-- at most this many more lines
unfoldable pub declarations_from : ℕ → List Naming → Parser (List Naming)
declarations_from zero found = look name_line >>= full_by found
declarations_from (suc n) found =
    look name_line >>= declarations_by (λ line. do naming ← declaration line found; declarations_from n (found ++ naming ∷ [])) found

abbrev pub some_names : List Naming → Parser (List Naming)
some_names [] = syntax
some_names (n ∷ ns) = pure (n ∷ ns)

unfoldable pub declarations : Parser (List Naming)
declarations = declarations_from most_names [] >>= some_names
