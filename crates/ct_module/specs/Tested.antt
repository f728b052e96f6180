-- Modules of written fractions that are those of tested generators.
--     element_of m                  the elements, by number
--     IsTestedModule ns gs m        the generators gs are tested, with the staircase and the rows of m by value, and the start is the
--                                   unit vector of the first element
-- `IsTested` of ct_telescoping says that a list of generators is tested: no generator is zero and none has leading monomial 1; each name
-- with an operator has a leading monomial that is its pure power; the staircase has at most 16 elements; the symbols of each two names
-- with operators commute on each row; and the image of each generator is zero. It also says that the elements and rows are those
-- of the generators. How the fractions are written plays no part.
use Rattle.std.specs.Prelude.{◌≡◌, ℕ, List, get_or}
use Rattle.ct_algebra.specs.Field.{field}
use Rattle.ct_algebra.specs.Monomial.{Mono, unit}
use Rattle.ct_algebra.specs.Operators.{Operator}
use Rattle.ct_ore.specs.Naming.{Naming, actions_of}
use Rattle.ct_telescoping.specs.Tested.{IsTested}
use Rattle.ct_telescoping.specs.Vector.{unit_vector}
use Rattle.ct_module.specs.Modules.{WrittenModule, dimension}
use Rattle.ct_module.specs.Values.{vector_of, rows_by_value}

abbrev pub element_of : WrittenModule → ℕ → Mono
element_of m b = get_or m.basis b unit

pub record IsTestedModule (ns : List Naming) (generators : List Operator) (m : WrittenModule) : Type 0 where
  pub tested : IsTested (actions_of ns) generators (dimension m) (element_of m) (rows_by_value m)
  pub start : vector_of (dimension m) m.start ≡ unit_vector field (dimension m) 0
