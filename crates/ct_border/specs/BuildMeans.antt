-- What the answers and the refusals of `build` mean: by value, whatever way the fractions are written.
--     element_at ms b            the elements, by number
--     IsFormOf a gs ms m w       the vector is that of the monomial under any normal forms
--     IsTestedList a gs          the list is tested, with some staircase and rows
--     AreItsRows a gs d e M      the elements are the staircase of the generators and the rows are theirs
--     DoNotCommute a d M i j b c x y     the names i < j have operators, and at the entry c of row b the second symbol of the row of the
--                                first has x, the first of the row of the second has y, which differ
--     IsNotZeroImage a gs d M n v        the symbols commute, and v is the image of generator n, the first that is not zero
--     IsNotClosed, IsNotKilled   the same under the staircase and the rows of the generators
--     IsUnbuilt a gs r           what the refusal says holds
--     IsJudged r                 it is no overflow
--     IsRefusedRightly a gs r    it holds, and the list is not tested unless it is an overflow
-- Generators have one staircase and one list of rows: `RowsAreDetermined` of ct_telescoping.
use Rattle.std.specs.Prelude.{◌≡◌, ◌≢◌, ℕ, ◌-◌, ◌<◌, ◌≤◌, List, length, get_or, take}
use Rattle.std.specs.List.{All}
use Rattle.ct_algebra.specs.Actions.{Action, Still}
use Rattle.ct_algebra.specs.Field.{K, field, coefficients}
use Rattle.ct_algebra.specs.Monomial.{Mono, unit}
use Rattle.ct_algebra.specs.Names.{Name, name_with}
use Rattle.ct_algebra.specs.Operators.{Operator, no_operator}
use Rattle.ct_frac.specs.Written.{Written, value}
use Rattle.ct_module.specs.Values.{vector_of}
use Rattle.ct_telescoping.specs.RowAction.{action}
use Rattle.ct_telescoping.specs.Staircase.{IsStaircaseOf}
use Rattle.ct_telescoping.specs.StaircaseModule.{Rows}
use Rattle.ct_telescoping.specs.Tested.{AreNormalForms, HasRows, PassesTests, IsTested, image}
use Rattle.ct_telescoping.specs.Vector.{Vector, vector_group}
use Rattle.ct_border.specs.Build.{BuildRefusal, NoStaircase, NotClosed, NotKilled, Overflow}
use Rattle.ct_border.specs.StaircaseMeans.{IsRefused}

abbrev pub element_at : List Mono → ℕ → Mono
element_at ms b = get_or ms b unit

abbrev pub IsFormOf : (Name → Action) → List Operator → List Mono → Mono → List Written → Type 0
IsFormOf a generators ms m w =
    (forms : Mono → Vector K (length ms)) → AreNormalForms a generators (length ms) (element_at ms) forms →
    vector_of (length ms) w ≡ forms m

module _ (a : Name → Action) where
  pub record DoNotCommute (d : ℕ) (M : Rows) (i j b c : ℕ) (x y : Written) : Type 0 where
    pub in_order : i < j
    pub known : j < 6
    pub first_acts : a (name_with i) ≢ Still
    pub second_acts : a (name_with j) ≢ Still
    pub of_element : b < d
    pub at_place : c < d
    pub one : value x ≡ action field (coefficients a) d M (name_with j) (M (name_with i) b) c
    pub other : value y ≡ action field (coefficients a) d M (name_with i) (M (name_with j) b) c
    pub differ : value x ≢ value y

  abbrev pub IsKilled : (d : ℕ) → Rows → Operator → Type 0
  IsKilled d M g = image a d M g ≡ (vector_group field.group d).zero

module _ (a : Name → Action) (generators : List Operator) where
  pub record IsTestedList : Type 0 where
    pub dimension : ℕ
    pub element : ℕ → Mono
    pub rows : Rows
    pub tested : IsTested a generators dimension element rows

  pub record AreItsRows (d : ℕ) (element : ℕ → Mono) (M : Rows) : Type 0 where
    pub staircase : IsStaircaseOf d element a generators
    pub rows : HasRows a generators d element M

  pub record IsNotZeroImage (d : ℕ) (M : Rows) (n : ℕ) (v : List Written) : Type 0 where
    pub some : 0 < n
    pub within : n ≤ length generators
    pub before : All (IsKilled a d M) (take (n - 1) generators)
    pub size : length v ≡ d
    pub image_is : vector_of d v ≡ image a d M (get_or generators (n - 1) no_operator)
    pub nonzero : ¬ IsKilled a d M (get_or generators (n - 1) no_operator)

  pub record IsNotClosed (i j b c : ℕ) (x y : Written) : Type 0 where
    pub dimension : ℕ
    pub element : ℕ → Mono
    pub rows : Rows
    pub its : AreItsRows dimension element rows
    pub fails : DoNotCommute a dimension rows i j b c x y

  pub record IsNotKilled (n : ℕ) (v : List Written) : Type 0 where
    pub dimension : ℕ
    pub element : ℕ → Mono
    pub rows : Rows
    pub its : AreItsRows dimension element rows
    pub closed : PassesTests a dimension rows
    pub fails : IsNotZeroImage dimension rows n v

  abbrev pub IsUnbuilt : BuildRefusal → Type 0
  IsUnbuilt (NoStaircase r) = IsRefused a generators r
  IsUnbuilt (NotClosed i j b c one other) = IsNotClosed i j b c one other
  IsUnbuilt (NotKilled n v) = IsNotKilled n v
  IsUnbuilt (Overflow k) = Unit {0}

  abbrev pub IsJudged : BuildRefusal → Type 0
  IsJudged (NoStaircase r) = Unit {0}
  IsJudged (NotClosed i j b c one other) = Unit {0}
  IsJudged (NotKilled n v) = Unit {0}
  IsJudged (Overflow k) = ⊥

  pub record IsRefusedRightly (r : BuildRefusal) : Type 0 where
    pub holds : IsUnbuilt r
    pub untested : IsJudged r → ¬ IsTestedList
