-- The names that stand in a text, and how they are known by their letters.
--     Names                   the declared names, and the names of `let` lines
--     known text names        what these letters name: a declared name or a `let` line, by its number, or nothing
--     is_new text names       a text that may be declared after these names
--     summed_texts ns         the texts of the summed names, in order
--     texts_of names          all texts, those of declared names first
use Rattle.std.specs.Prelude.{ℕ, Bool, true, false, not, ◌&&◌, ◌||◌, List, [], ◌∷◌, ◌++◌, map, position, Option, Some, None, codes}
use Rattle.std.specs.Str.{bytes_eq}
use Rattle.ct_algebra.specs.Actions.{Action}
use Rattle.ct_algebra.specs.Actions as actions
use Rattle.ct_ore.specs.Naming.{Naming}
use Rattle.ct_ore.specs.declared.algebra.Role.{Role}
use Rattle.ct_ore.specs.declared.algebra.Role.TheVariants as role
use Rattle.ct_problem.specs.declared.reading.names.Known.{Known}
use Rattle.ct_problem.specs.declared.reading.names.Known.TheVariants.{Variable, Let, Unknown}

pub record Names : Type 0 where
  pub variables : List Naming
  pub lets : List (List ℕ)

abbrev pub texts_of : Names → List (List ℕ)
texts_of names = map (λ n. n.text) names.variables ++ names.lets

abbrev pub is_named : List ℕ → Naming → Bool
is_named text n = bytes_eq text n.text

abbrev pub known_by : Option ℕ → Option ℕ → Known
known_by (Some at) other = Variable at
known_by None (Some at) = Let at
known_by None None = Unknown

unfoldable pub known : List ℕ → Names → Known
known text names = known_by (position (is_named text) names.variables) (position (bytes_eq text) names.lets)

abbrev pub is_unknown : Known → Bool
is_unknown Unknown = true
is_unknown _ = false

-- the letters of a symbol
abbrev pub is_letter_of_symbol : List ℕ → Bool
is_letter_of_symbol text = bytes_eq text (codes "S") || bytes_eq text (codes "D")

unfoldable pub is_new : List ℕ → Names → Bool
is_new text names = not (is_letter_of_symbol text) && is_unknown (known text names)

-- ---- actions and roles

abbrev pub same_action : Action → Action → Bool
same_action actions.Shift actions.Shift = true
same_action actions.Derive actions.Derive = true
same_action actions.Still actions.Still = true
same_action _ _ = false

-- a name of this action, if it is one
abbrev pub acts_as : Action → Option Naming → Bool
acts_as action (Some n) = same_action n.action action
acts_as action None = false

abbrev pub with_text : Role → List ℕ → List (List ℕ) → List (List ℕ)
with_text role.Summed text texts = text ∷ texts
with_text role.Free text texts = texts
with_text role.Param text texts = texts

-- the texts of the summed names, in order
abbrev pub summed_texts : List Naming → List (List ℕ)
summed_texts [] = []
summed_texts (n ∷ ns) = with_text n.role n.text (summed_texts ns)
