-- Lists of generators as text (this project's own).
--     element_text names ms b      the element with this number, from 0, of the staircase ms, as a monomial
--     fractions_text names ws      fractions, with `; ` between them
--     refusal_text names ms r      why the list with the staircase ms is refused, such as `NotClosed n k 1 S[n]: n; n + 1`;
--                                  nothing of an overflow, which refuses no list
--     tested_text names ms         the whole text of a tested list: the dimension, and the staircase, rising
use Rattle.std.specs.Prelude.{ℕ, List, [], ◌∷◌, ◌++◌, length, get_or, flat_map, codes, decimal}
use Rattle.ct_algebra.specs.Monomial.{Mono, unit}
use Rattle.ct_frac.specs.Written.{Written}
use Rattle.ct_ore.specs.Naming.{Naming}
use Rattle.ct_border.specs.Build.{BuildRefusal, NoStaircase, NotClosed, NotKilled, Overflow}
use Rattle.ct_border.specs.Staircase as staircase
use Rattle.ct_answer.specs.Reductions.{line_of}
use Rattle.ct_answer.specs.Text.{naming_at, name_text, monomial_text, fraction_text}

module _ (names : List Naming) where
  -- fractions with `; ` before each
  abbrev pub later_fractions : List Written → List ℕ
  later_fractions ws = flat_map (λ w. codes "; " ++ fraction_text names w) ws

  unfoldable pub fractions_text : List Written → List ℕ
  fractions_text [] = []
  fractions_text (w ∷ ws) = fraction_text names w ++ later_fractions ws

  abbrev pub name_at : ℕ → List ℕ
  name_at i = name_text (naming_at names i)

  abbrev pub element_text : List Mono → ℕ → List ℕ
  element_text ms b = monomial_text names (get_or ms b unit)

  -- the names, the element and the place, and the two entries
  unfoldable pub not_closed_text : List Mono → (first second element place : ℕ) → (one other : Written) → List ℕ
  not_closed_text ms first second element place one other =
      codes "NotClosed " ++ name_at first ++ codes " " ++ name_at second ++ codes " " ++ element_text ms element ++ codes " "
      ++ element_text ms place ++ codes ": " ++ fraction_text names one ++ codes "; " ++ fraction_text names other

  unfoldable pub not_killed_text : ℕ → List Written → List ℕ
  not_killed_text n image = codes "NotKilled " ++ decimal n ++ codes ": " ++ fractions_text image

  abbrev pub no_staircase_text : staircase.Refusal → List ℕ
  no_staircase_text (staircase.ZeroGenerator n) = codes "ZeroGenerator " ++ decimal n
  no_staircase_text (staircase.Trivial n) = codes "Trivial " ++ decimal n
  no_staircase_text (staircase.NotFinite i) = codes "NotFinite " ++ name_at i
  no_staircase_text (staircase.Overflow kind) = []

  abbrev pub refusal_text : List Mono → BuildRefusal → List ℕ
  refusal_text ms (NoStaircase r) = no_staircase_text r
  refusal_text ms (NotClosed first second element place one other) = not_closed_text ms first second element place one other
  refusal_text ms (NotKilled n image) = not_killed_text n image
  refusal_text ms (Overflow kind) = []

  abbrev pub basis_lines : List Mono → List ℕ
  basis_lines ms = flat_map (λ m. line_of (codes "basis " ++ monomial_text names m)) ms

  unfoldable pub tested_text : List Mono → List ℕ
  tested_text ms =
      line_of (codes "mgfun test 1") ++ line_of (codes "dimension " ++ decimal (length ms)) ++ basis_lines ms ++ line_of (codes "end")
