-- What the laws of columns say; the functions of src/laws.rt prove them.
--     ColumnsGoBySymbols        the column of 1 is the start; that of a symbol times a monomial without later names is what the symbol
--                               makes of the column of the monomial
--     TestedColumnsAreVectors   for a tested module the vector of a key is that of its column in ct_telescoping, over the denominators
--                               of the key's order, where none is zero
use Rattle.std.specs.Prelude.{◌≡◌, ◌≢◌, ℕ, ◌<◌, Ok, List}
use Rattle.ct_algebra.specs.FreeOf.{IsWithout}
use Rattle.ct_algebra.specs.Monomial.{Mono, unit, ◌·◌}
use Rattle.ct_algebra.specs.Names.{Name, place, name_with, symbol}
use Rattle.ct_algebra.specs.Operators.{Operator}
use Rattle.ct_algebra.specs.Polynomial.{polys}
use Rattle.ct_checked.specs.Checked.{◌>>=◌}
use Rattle.ct_frac.specs.Written.{Written}
use Rattle.ct_ore.specs.Naming.{Naming, actions_of}
use Rattle.ct_telescoping.specs.Columns.{Column, OfMonomial, OfSummand}
use Rattle.ct_telescoping.specs.ColumnVectors.{column_vector}
use Rattle.ct_telescoping.specs.StaircaseModule.{RowsCommute, over_field, start}
use Rattle.ct_module.specs.declared.key.Key.{Key}
use Rattle.ct_module.specs.declared.key.Key.TheVariants.{Free, Cert}
use Rattle.ct_module.specs.Action.{checked_act}
use Rattle.ct_module.specs.Columns.{checked_free_column, IsKeyOf}
use Rattle.ct_module.specs.Modules.{WrittenModule, WrittenSetting, dimension}
use Rattle.ct_module.specs.Tested.{element_of, IsTestedModule}
use Rattle.ct_module.specs.Values.{rows_by_value, denominator_at, key_vector}

pub record ColumnsGoBySymbols : Type 0 where
  pub one : (ns : List Naming) (m : WrittenModule) (v : List Written) → checked_free_column ns m v unit ≡ Ok v
  pub symbols :
      (ns : List Naming) (m : WrittenModule) (v : List Written) (i : Name) (γ : Mono) →
      ((k : Name) → place i < place k → IsWithout k γ) →
      checked_free_column ns m v (symbol i · γ) ≡ (checked_free_column ns m v γ >>= (λ w. checked_act ns m i w))

-- the column of a key, by its monomials
abbrev pub column_of : WrittenModule → Key → Column
column_of m (Free γ) = OfMonomial γ
column_of m (Cert order name element mono) = OfSummand (name_with name) (element_of m element) mono

-- a key of a certificate is of this order
abbrev pub IsOfOrder : ℕ → Key → Type 0
IsOfOrder r (Free γ) = Unit {0}
IsOfOrder r (Cert order name element mono) = order ≡ r

abbrev pub TestedColumnsAreVectors : Type 0
TestedColumnsAreVectors =
    (s : WrittenSetting) (generators : List Operator) → IsTestedModule s.names generators s.space →
    (commutes : RowsCommute (actions_of s.names) (dimension s.space) (rows_by_value s.space)) →
    (r : ℕ) → ((j : Name) → denominator_at s r j ≢ polys.zero) → (key : Key) → IsKeyOf s key → IsOfOrder r key →
    key_vector s key ≡
    column_vector (actions_of s.names) (over_field (actions_of s.names) (dimension s.space) (rows_by_value s.space) commutes)
    (denominator_at s r) (start (actions_of s.names) (dimension s.space) (rows_by_value s.space) commutes) (column_of s.space key)
