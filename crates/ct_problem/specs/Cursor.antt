-- What contracts see of the cursor over tokens, and of the names that stand.
--     input_of, names_of         the values of the code's types
--     input_at text left bad     the cursor at these tokens
--     IsCursor text left         the tokens that are left are tokens of the text
--     with_variable, with_let    the names with one more
--     IsPlaceIn names k          k is no name, or the number of one that stands
use Rattle.std.specs.Prelude.{◌≡◌, ◌<◌, ◌≤◌, ◌-◌, ℕ, nat_lt, if◌then◌else◌, List, [], ◌∷◌, ◌++◌, length, map, Option, Some, None, string_bytes}
use Rattle.std.specs.Str.{IsAscii}
use Rattle.ct_token.specs.declared.token.Symbol.TheVariants.{Word}
use Rattle.ct_token.specs.declared.token.Token.{Token}
use Rattle.ct_token.specs.Lexing.{AreTokens}
use Rattle.ct_algebra.specs.Actions as actions
use Rattle.ct_ore.specs.Naming.{Naming, action_of, namings_of}
use Rattle.ct_ore.specs.declared.algebra.Action.{Action}
use Rattle.ct_problem.specs.declared.reading.names.Known.{Known}
use Rattle.ct_problem.specs.declared.reading.names.Known.TheVariants.{Variable, Let, Unknown}
use Rattle.ct_problem.specs.declared.reading.names.Names.TheInside as names
use Rattle.ct_problem.specs.declared.reading.tokens.Tokens.TheInside as tokens
use Rattle.ct_problem.specs.Input.{Input, symbol}
use Rattle.ct_problem.specs.Limits.{most_names, most_lets}
use Rattle.ct_problem.specs.Names.{Names, texts_of}

abbrev pub input_of : tokens.Inside → Input
input_of t = record { text = t.text.now; left = t.left.now; bad = t.bad }

abbrev pub input_at : List ℕ → List Token → Option ℕ → Input
input_at text left bad = record { text = text; left = left; bad = bad }

-- no token begins before the place 0
abbrev pub IsCursor : List ℕ → List Token → Type 0
IsCursor text left = AreTokens text 0 left

abbrev pub IsReadable : tokens.Inside → Type 0
IsReadable t = IsCursor t.text.now t.left.now

-- the bytes of a word are ASCII
abbrev pub IsSpelled : Input → List ℕ → Type 0
IsSpelled i bytes = symbol i ≡ Some Word → IsAscii bytes

-- ---- names

abbrev pub names_of : names.Inside → Names
names_of n = record { variables = namings_of n.variables.items; lets = map string_bytes n.lets.items }

abbrev pub no_names : Names
no_names = record { variables = []; lets = [] }

abbrev pub with_variable : Names → Naming → Names
with_variable names n = record names { variables = names.variables ++ n ∷ [] }

abbrev pub with_let : Names → List ℕ → Names
with_let names text = record names { lets = names.lets ++ text ∷ [] }

-- at most six declared names and eight `let` lines
pub record AreFew (names : Names) : Type 0 where
  pub variables : length names.variables ≤ most_names
  pub lets : length names.lets ≤ most_lets

-- the same, with the texts of a table
pub record AreNames (names : Names) (texts : List (List ℕ)) : Type 0 where
  pub few : AreFew names
  pub same_texts : texts ≡ texts_of names

-- the name at this place behind the declared names
abbrev pub known_at : ℕ → Option ℕ → Known
known_at declared (Some at) = if nat_lt at declared then Variable at else Let (at - declared)
known_at declared None = Unknown

abbrev pub IsPlaceIn : Names → Known → Type 0
IsPlaceIn names (Variable at) = (at < length names.variables) × (at < most_names)
IsPlaceIn names (Let at) = (at < length names.lets) × (at < most_lets)
IsPlaceIn names Unknown = Unit {0}

-- which symbols a letter stands for
abbrev pub letter_of : Option Action → Option actions.Action
letter_of None = None
letter_of (Some action) = Some (action_of action)
