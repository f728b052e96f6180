-- What the code's lists stand for.
use Rattle.std.specs.Prelude.{ℕ, Option, List, map}
use Rattle.std.specs.Global.{Vec}
use Rattle.ct_algebra.specs.Polynomial.{Polynomial}
use Rattle.ct_telescoping.specs.Echelon.{Pivot}
use Rattle.ct_linsolve.specs.Elimination.{Eliminated}
use Rattle.ct_linsolve.specs.Rows.{Row}
use Rattle.ct_linsolve.specs.declared.pivot.Pivot.{Pivot as PivotCode}

abbrev pub rows_of : List (Vec Polynomial) → List Row
rows_of rows = map (λ row. row.items) rows

abbrev pub pivot_view : PivotCode → Pivot
pivot_view p = record { row = p.row; column = p.column }

abbrev pub pivots_of : List PivotCode → List Pivot
pivots_of ps = map pivot_view ps

abbrev pub eliminated : List (Vec Polynomial) → List (Vec Polynomial) → List PivotCode → Option ℕ → Eliminated
eliminated left right pivots free =
    record { left = rows_of left; right = rows_of right; pivots = pivots_of pivots; free = free }
