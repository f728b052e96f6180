-- A task: generators with a staircase and rows, and the names that are summed; and what is said of its supports.
--     Task                          the actions, the generators, the staircase of a dimension, the rows, the summed names
--     IsTestedTask t                its generators are tested, the summed names have operators, and none is listed twice
--     columns_for, count_for        the columns of an order and a degree, and how many they are
--     certificates_for              how many of these are of certificates
--     vector_for                    the vector of a column, over the denominators of the summed names
--     IsSystemFor                   the matrix is the system of the columns
--     RefutesFor                    a row for each telescoper's column refutes the matrix
--     IsNullFor                     weights without summed names, of which the matrix makes zero, not zero at some telescoper's
--                                   column
--     IsEmpty                       no relation of the support over the denominators has a telescoper but zero
-- The denominators are those of the order, multiplied out; here any nonzero polynomials.
use Rattle.std.specs.Prelude.{◌≡◌, ◌≢◌, ℕ, ◌<◌, List, length}
use Rattle.ct_algebra.specs.Monomial.{Mono}
use Rattle.ct_algebra.specs.Names.{Name}
use Rattle.ct_algebra.specs.Polynomial.{Polynomial, polys}
use Rattle.ct_algebra.specs.Actions.{Action, Still}
use Rattle.ct_algebra.specs.Operators.{Operator}
use Rattle.ct_algebra.specs.FreeOf.{EachName, IsFreeOfAll}
use Rattle.ct_algebra.specs.Field.{K}
use Rattle.ct_telescoping.specs.Vector.{Vector, listed}
use Rattle.ct_telescoping.specs.StaircaseModule.{Rows, RowsCommute, over_field, start}
use Rattle.ct_telescoping.specs.Tested.{IsTested}
use Rattle.ct_telescoping.specs.Rising.{IsOnce}
use Rattle.ct_telescoping.specs.NoTelescoper.{HasNoTelescoper}
use Rattle.ct_telescoping.specs.Columns.{Column, column_at, columns_of_support, certificate_count, IsOfTelescoper}
use Rattle.ct_telescoping.specs.ColumnVectors.{column_vector}
use Rattle.ct_telescoping.specs.Elimination.{matrix_times}
use Rattle.ct_telescoping.specs.Refutation.{Refutes}
use Rattle.ct_telescoping.specs.System.{IsSystemOf}

pub record Task : Type 0 where
  pub actions : Name → Action
  pub generators : List Operator
  pub dimension : ℕ
  pub element : ℕ → Mono
  pub rows : Rows
  pub summed : List Name

pub record IsTestedTask (t : Task) : Type 0 where
  pub tested : IsTested t.actions t.generators t.dimension t.element t.rows
  pub acts : EachName (λ j. t.actions j ≢ Still) t.summed
  pub names_differ : IsOnce t.summed

abbrev pub TaskCommutes : Task → Type 0
TaskCommutes t = RowsCommute t.actions t.dimension t.rows

module _ (t : Task) (order degree : ℕ) where
  abbrev pub columns_for : List Column
  columns_for = columns_of_support t.actions t.summed (listed t.element 0 t.dimension) order degree

  abbrev pub count_for : ℕ
  count_for = length columns_for

  abbrev pub certificates_for : ℕ
  certificates_for = certificate_count t.summed (listed t.element 0 t.dimension) degree

  abbrev pub column_for : ℕ → Column
  column_for i = column_at columns_for i

  abbrev pub RefutesFor : (n : ℕ) → (matrix rows : ℕ → ℕ → Polynomial) → Type 0
  RefutesFor n matrix rows = Refutes polys n count_for matrix (λ i. IsOfTelescoper (column_for i)) rows

  pub record IsNullFor (n : ℕ) (matrix : ℕ → ℕ → Polynomial) (weight : ℕ → Polynomial) : Type 0 where
    pub free : (i : ℕ) → i < count_for → IsFreeOfAll t.summed (weight i)
    pub null : (k : ℕ) → k < n → matrix_times polys n count_for matrix weight k ≡ polys.zero
    pub place : ℕ
    pub in_range : place < count_for
    pub of_telescoper : IsOfTelescoper (column_for place)
    pub nonzero : weight place ≢ polys.zero

module _ (t : Task) (denominators : Name → Polynomial) where
  abbrev pub AreNonzero : Type 0
  AreNonzero = EachName (λ j. denominators j ≢ polys.zero) t.summed

  module _ (order degree : ℕ) where
    abbrev pub IsEmpty : Type 0
    IsEmpty = HasNoTelescoper t.actions t.summed t.dimension t.element order degree t.generators denominators

    module _ (commutes : TaskCommutes t) where
      abbrev pub vector_for : ℕ → Vector K t.dimension
      vector_for i =
          column_vector t.actions (over_field t.actions t.dimension t.rows commutes) denominators
          (start t.actions t.dimension t.rows commutes) (column_for t order degree i)

      abbrev pub IsSystemFor : (n : ℕ) → (matrix : ℕ → ℕ → Polynomial) → Type 0
      IsSystemFor n matrix = IsSystemOf t.summed t.dimension (count_for t order degree) vector_for n matrix
