-- Reductions as text (this project's own).
--     line_of text           the text, and the end of its line
--     target_lines n r       the lines of the reduction of the target with this number: its scale, its cofactors, counted from 1, and its rest
--     reduced_text names rs  the whole text, with the targets counted from 1
use Rattle.std.specs.Prelude.{ℕ, ◌+◌, List, [], ◌∷◌, ◌++◌, codes, decimal}
use Rattle.ct_algebra.specs.Operators.{Operator}
use Rattle.ct_algebra.specs.Membership.{Reduction}
use Rattle.ct_ore.specs.Naming.{Naming}
use Rattle.ct_answer.specs.Text.{polynomial_text, operator_text}

abbrev pub line_of : List ℕ → List ℕ
line_of text = text ++ 10 ∷ []

module _ (names : List Naming) where
  abbrev pub cofactor_lines : ℕ → List Operator → List ℕ
  cofactor_lines place [] = []
  cofactor_lines place (c ∷ cs) =
      line_of (codes "cofactor " ++ decimal place ++ codes ": " ++ operator_text names c) ++ cofactor_lines (place + 1) cs

  unfoldable pub target_lines : ℕ → Reduction → List ℕ
  target_lines place r =
      line_of (codes "target " ++ decimal place)
      ++ line_of (codes "scale " ++ polynomial_text names r.scale)
      ++ cofactor_lines 1 r.cofactors
      ++ line_of (codes "rest " ++ operator_text names r.rest)

  abbrev pub targets_lines : ℕ → List Reduction → List ℕ
  targets_lines place [] = []
  targets_lines place (r ∷ rs) = target_lines place r ++ targets_lines (place + 1) rs

  unfoldable pub reduced_text : List Reduction → List ℕ
  reduced_text rs = line_of (codes "mgfun reduce 1") ++ targets_lines 1 rs ++ line_of (codes "end")
