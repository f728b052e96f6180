-- The module of a staircase: vectors over the field of fractions, one entry for each staircase element.
--     Rows               for each name, a matrix: row b is what the name's symbol makes of element b
--     RowsCommute a d M  the symbols commute on the rows
--     over_field         the module of vectors over the field, for rows that commute
--     staircase_module   the same as a module over the polynomials, on which operators act
--     start              the unit vector of the first element
--     made p v           what the operator p makes of the vector v
use Rattle.std.specs.Prelude.{ℕ}
use Rattle.ct_algebra.specs.Ore.{Module}
use Rattle.ct_algebra.specs.Names.{Name}
use Rattle.ct_algebra.specs.Polynomial.{polys}
use Rattle.ct_algebra.specs.Actions.{Action, polynomials}
use Rattle.ct_algebra.specs.Operators.{Operator, apply}
use Rattle.ct_algebra.specs.Field.{K, field, coefficients}
use Rattle.ct_algebra.specs.Telescoping.{over_polynomials}
use Rattle.ct_telescoping.specs.Vector.{Vector, unit_vector}
use Rattle.ct_telescoping.specs.VectorModule.{vectors}
use Rattle.ct_telescoping.specs.RowAction.{Commutes}

-- for each name, element and entry
abbrev pub Rows : Type 0
Rows = Name → ℕ → ℕ → K

abbrev pub RowsCommute : (Name → Action) → ℕ → Rows → Type 0
RowsCommute a d M = Commutes field (coefficients a) d M

module _ (a : Name → Action) (d : ℕ) (M : Rows) (commutes : RowsCommute a d M) where
  abbrev pub over_field : Module field (coefficients a) (Vector K d)
  over_field = vectors field d (coefficients a) M commutes

  abbrev pub staircase_module : Module polys (polynomials a) (Vector K d)
  staircase_module = over_polynomials a over_field

  abbrev pub start : Vector K d
  start = unit_vector field d 0

  abbrev pub made : Operator → Vector K d → Vector K d
  made p v = apply a staircase_module p v
