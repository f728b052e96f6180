-- Modules of generators with a staircase, whether or not the symbols commute.
--     AreMovedElements a gs ms i n rows    a row for each of the first n elements: the form of the symbol of i times the element
--     AreRowsOf a gs ms i rows             the same for all elements, and no row where the name has no operator
--     IsFormModule ns gs ms m              the elements are these, the lengths fit, the rows by value are those of the generators, and
--                                          the start is the unit vector of the first element
--     AreInOrder a i j                     the names i < j have operators
--     CommuteAt a d M i j b c              at the entry c of the row of b their symbols commute;  CommuteOnRows a d M i j   at all entries
--     IsUnclosed a d M r                   the refusal is an overflow, or symbols that do not commute on the rows
--     IsUnkilled a gs d M r                it is an overflow, or an image that is not zero
use Rattle.std.specs.Prelude.{◌≡◌, ◌≢◌, ℕ, ◌<◌, List, length, get_or, []}
use Rattle.std.specs.List.{All}
use Rattle.ct_algebra.specs.Actions.{Action, Still, by_action}
use Rattle.ct_algebra.specs.Field.{field, coefficients}
use Rattle.ct_algebra.specs.Monomial.{Mono, ◌·◌}
use Rattle.ct_algebra.specs.Names.{Name, name_with, symbol}
use Rattle.ct_algebra.specs.Operators.{Operator}
use Rattle.ct_frac.specs.Written.{Written}
use Rattle.ct_module.specs.Fitting.{HasLengths}
use Rattle.ct_module.specs.Modules.{WrittenModule, dimension}
use Rattle.ct_module.specs.Tested.{element_of}
use Rattle.ct_module.specs.Values.{vector_of, rows_by_value}
use Rattle.ct_ore.specs.Naming.{Naming, actions_of}
use Rattle.ct_telescoping.specs.RowAction.{action}
use Rattle.ct_telescoping.specs.StaircaseModule.{Rows}
use Rattle.ct_telescoping.specs.Vector.{unit_vector}
use Rattle.ct_border.specs.Build.{BuildRefusal, NoStaircase, NotClosed, NotKilled, Overflow}
use Rattle.ct_border.specs.BuildMeans.{AreItsRows, IsFormOf, element_at, DoNotCommute, IsNotZeroImage}

pub record AreMovedElements (a : Name → Action) (generators : List Operator) (ms : List Mono) (i : Name) (n : ℕ) (rows : List (List Written)) :
    Type 0 where
  pub count : length rows ≡ n
  pub filled : All (λ row. length row ≡ length ms) rows
  pub forms : (b : ℕ) → b < n → IsFormOf a generators ms (symbol i · element_at ms b) (get_or rows b [])

abbrev pub AreRowsOf : (Name → Action) → List Operator → List Mono → Name → List (List Written) → Type 0
AreRowsOf a generators ms i rows = AreMovedElements a generators ms i (by_action (a i) (length ms) (length ms) 0) rows

pub record IsFormModule (ns : List Naming) (generators : List Operator) (ms : List Mono) (m : WrittenModule) : Type 0 where
  pub basis : m.basis ≡ ms
  pub lengths : HasLengths ns m
  pub its : AreItsRows (actions_of ns) generators (dimension m) (element_of m) (rows_by_value m)
  pub start : vector_of (dimension m) m.start ≡ unit_vector field (dimension m) 0

pub record AreInOrder (a : Name → Action) (i j : ℕ) : Type 0 where
  pub in_order : i < j
  pub known : j < 6
  pub first_acts : a (name_with i) ≢ Still
  pub second_acts : a (name_with j) ≢ Still

module _ (a : Name → Action) (d : ℕ) (M : Rows) (i j : ℕ) where
  abbrev pub CommuteAt : (b c : ℕ) → Type 0
  CommuteAt b c =
      action field (coefficients a) d M (name_with j) (M (name_with i) b) c ≡ action field (coefficients a) d M (name_with i) (M (name_with j) b) c

  abbrev pub CommuteOnRows : Type 0
  CommuteOnRows = (b : ℕ) → b < d → (c : ℕ) → c < d → CommuteAt b c

abbrev pub IsUnclosed : (Name → Action) → ℕ → Rows → BuildRefusal → Type 0
IsUnclosed a d M (NoStaircase r) = ⊥
IsUnclosed a d M (NotClosed i j b c one other) = DoNotCommute a d M i j b c one other
IsUnclosed a d M (NotKilled n v) = ⊥
IsUnclosed a d M (Overflow k) = Unit {0}

abbrev pub IsUnkilled : (Name → Action) → List Operator → ℕ → Rows → BuildRefusal → Type 0
IsUnkilled a generators d M (NoStaircase r) = ⊥
IsUnkilled a generators d M (NotClosed i j b c one other) = ⊥
IsUnkilled a generators d M (NotKilled n v) = IsNotZeroImage a generators d M n v
IsUnkilled a generators d M (Overflow k) = Unit {0}
