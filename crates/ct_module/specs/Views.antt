-- What the code's lists stand for.
use Rattle.std.specs.Prelude.{List, map}
use Rattle.std.specs.Global.{Vec}
use Rattle.ct_frac.specs.Written.{Written}

-- rows of entries
abbrev pub rows_in : List (Vec Written) → List (List Written)
rows_in rows = map (λ row. row.items) rows

-- a list of rows for each name
abbrev pub lists_in : List (Vec (Vec Written)) → List (List (List Written))
lists_in lists = map (λ rows. rows_in rows.items) lists
