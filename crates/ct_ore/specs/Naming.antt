-- What an algebra knows of its names, and which lists of names make one.
--     Naming              the text of a name, its action and its role
--     naming_of info      the same, of the code's record;  namings_of infos  of a list
--     actions_of ns       the action of each of the six names; a name past the list has none
--     summed_of ns        the summed names, in order
--     IsWord bs           a letter, followed by letters, digits and '_'
--     IsAlgebra ns        one to six names with different texts, at most four with an operator, at most three summed
-- A parameter is a name without operator, and no other name is one. S and D are words of operators, and name nothing.
use Rattle.std.specs.Prelude.{◌≡◌, ◌≢◌, ℕ, ◌+◌, ◌<◌, ◌≤◌, ◌↔◌, Bool, true, false, ◌&&◌, ◌||◌, leb, eqb, IsTrue, List, [], ◌∷◌, map, length, count_by, string_bytes, codes}
use Rattle.ct_algebra.specs.Names.{Name, name_with}
use Rattle.ct_algebra.specs.Actions as actions
use Rattle.ct_ore.specs.AllNames.{number_of_names}
use Rattle.ct_ore.specs.declared.algebra.Action.{Action}
use Rattle.ct_ore.specs.declared.algebra.Action.TheVariants.{Shift, Derive, Still}
use Rattle.ct_ore.specs.declared.algebra.NameInfo.{NameInfo}
use Rattle.ct_ore.specs.declared.algebra.Role.{Role}
use Rattle.ct_ore.specs.declared.algebra.Role.TheVariants.{Free, Summed, Param}

abbrev pub action_of : Action → actions.Action
action_of Shift = actions.Shift
action_of Derive = actions.Derive
action_of Still = actions.Still

pub record Naming : Type 0 where
  pub text : List ℕ
  pub action : actions.Action
  pub role : Role

abbrev pub naming_of : NameInfo → Naming
naming_of n = record { text = string_bytes n.text; action = action_of n.action; role = n.role }

abbrev pub namings_of : List NameInfo → List Naming
namings_of infos = map naming_of infos

unfoldable pub actions_of : List Naming → Name → actions.Action
actions_of ns = actions.action_at (map (λ n. n.action) ns)

-- ---- the summed names

abbrev pub with_summed : Role → Name → List Name → List Name
with_summed Summed i is = i ∷ is
with_summed Free i is = is
with_summed Param i is = is

-- the summed names from the number k on
abbrev pub summed_from : ℕ → List Naming → List Name
summed_from k [] = []
summed_from k (n ∷ ns) = with_summed n.role (name_with k) (summed_from (k + 1) ns)

unfoldable pub summed_of : List Naming → List Name
summed_of ns = summed_from 0 ns

-- ---- words

abbrev pub is_letter : ℕ → Bool
is_letter b = (leb 65 b && leb b 90) || (leb 97 b && leb b 122)

abbrev pub is_word_byte : ℕ → Bool
is_word_byte b = is_letter b || ((leb 48 b && leb b 57) || eqb b 95)

abbrev pub are_word_bytes : List ℕ → Bool
are_word_bytes [] = true
are_word_bytes (b ∷ bs) = is_word_byte b && are_word_bytes bs

abbrev pub IsWord : List ℕ → Type 0
IsWord [] = ⊥
IsWord (b ∷ bs) = IsTrue (is_letter b && are_word_bytes bs)

-- ---- which lists of names make an algebra

abbrev pub has_operator : Naming → Bool
has_operator n = actions.by_action n.action true true false

abbrev pub is_summed : Role → Bool
is_summed Summed = true
is_summed Free = false
is_summed Param = false

-- what holds of each name by itself
pub record IsNaming (n : Naming) : Type 0 where
  pub word : IsWord n.text
  pub no_shift : n.text ≢ codes "S"
  pub no_derivation : n.text ≢ codes "D"
  pub still_parameters : (n.action ≡ actions.Still) ↔ (n.role ≡ Param)

abbrev pub EachIsNaming : List Naming → Type 0
EachIsNaming [] = Unit {0}
EachIsNaming (n ∷ ns) = IsNaming n × EachIsNaming ns

-- no name of the list has the text
abbrev pub IsOtherText : List ℕ → List Naming → Type 0
IsOtherText t [] = Unit {0}
IsOtherText t (n ∷ ns) = (n.text ≢ t) × IsOtherText t ns

abbrev pub TextsDiffer : List Naming → Type 0
TextsDiffer [] = Unit {0}
TextsDiffer (n ∷ ns) = IsOtherText n.text ns × TextsDiffer ns

pub record IsAlgebra (ns : List Naming) : Type 0 where
  pub some : 0 < length ns
  pub few : length ns ≤ number_of_names
  pub each : EachIsNaming ns
  pub different : TextsDiffer ns
  pub few_operators : count_by has_operator ns ≤ 4
  pub few_summed : count_by (λ n. is_summed n.role) ns ≤ 3
