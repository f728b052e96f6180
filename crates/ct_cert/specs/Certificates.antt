-- Which answers of a report can be checked.
--     names_of ps                        the names of the parts;  IsSmall p   its number is below six
--     IsNamed names p                    the name of the part is one of the algebra's
--     IsAnswerFor                        a part for each summed name in order, and a cofactor for each generator
use Rattle.std.specs.Prelude.{◌≡◌, ◌≢◌, ◌<◌, ◌≤◌, List, map, length}
use Rattle.std.specs.List.{All}
use Rattle.ct_algebra.specs.Names.{Name}
use Rattle.ct_algebra.specs.Actions.{Still}
use Rattle.ct_algebra.specs.Operators.{Operator}
use Rattle.ct_algebra.specs.FreeOf.{EachName}
use Rattle.ct_ore.specs.Naming.{Naming, actions_of, summed_of}
use Rattle.ct_ore.specs.declared.answer.Part.{Part}
use Rattle.ct_ore.specs.declared.answer.Answer.{Answer}
use Rattle.ct_ore.specs.Answers.{summand_of}

abbrev pub names_of : List Part → List Name
names_of ps = map (λ s. s.name) (map summand_of ps)

abbrev pub IsSmall : Part → Type 0
IsSmall p = p.name < 6

pub record IsNamed (names : List Naming) (p : Part) : Type 0 where
  pub known : p.name < length names
  pub few : length names ≤ 6

pub record IsAnswerFor (names : List Naming) (generators : List Operator) (a : Answer) : Type 0 where
  pub named : All (IsNamed names) a.parts.items
  pub parts : names_of a.parts.items ≡ summed_of names
  pub acts : EachName (λ j. actions_of names j ≢ Still) (summed_of names)
  pub cofactors : length a.cofactors.items ≡ length generators
