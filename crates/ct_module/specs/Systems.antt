-- The linear system of an order and a degree, in checked arithmetic with the phase of an overflow (this project's own rules).
--     WrittenSystem                    the columns' keys, how many of them are of certificates, the keys of the rows, the rows of
--                                      the matrix, and the factors of the common denominator that have no summed name
--     certificate_keys, free_keys, keys_of_support     the keys of the columns: for each summed name, each element and each monomial in
--                                      the summed names of total at most the degree, rising; then the free monomials of total at
--                                      most the order, rising
--     checked_columns                  the free columns, then the denominators, then the certificates' columns
--     checked_cleared_columns          all entries over their common denominator, columns in order
--     checked_system s order degree    phase Support: at most 200 columns; phase NormalForm: the columns; phase System: the common
--                                      denominator, the cleared entries, at most 600 rows. An entry of the matrix is the coefficient of
--                                      the row's monomial in the cleared entry at the row's element
-- The rows are those at which some column has a nonzero coefficient: `row_keys` of ct_telescoping. `IsSystemFor` there says what the
-- matrix means.
use Rattle.std.specs.Prelude.{ℕ, Ok, Err, None, Some, List, [], ◌++◌, length, map, get_or, cond, ltb, not}
use Rattle.std.specs.List.{filter, flat_map, range_with_len}
use Rattle.std.proofs.Common.{Option, Result}
use Rattle.ct_algebra.specs.Names.{Name, place}
use Rattle.ct_algebra.specs.Polynomial.{Polynomial, polys}
use Rattle.ct_checked.specs.Checked.{Checked, ◌>>=◌, refused_as, verdict}
use Rattle.ct_checked.specs.Traversal.{checked_each}
use Rattle.ct_checked.specs.declared.fault.Kind.{Kind}
use Rattle.ct_checked.specs.declared.fault.Kind.TheVariants.{Size}
use Rattle.ct_frac.specs.Arithmetic.{checked_common, checked_cleared}
use Rattle.ct_frac.specs.Written.{Denominator, Written, one_den}
use Rattle.ct_ore.specs.Naming.{summed_of}
use Rattle.ct_telescoping.specs.Columns.{monomials_in}
use Rattle.ct_telescoping.specs.System.{RowKey, row_keys, matrix_at}
use Rattle.ct_module.specs.declared.key.Key.{Key}
use Rattle.ct_module.specs.declared.key.Key.TheVariants.{Free, Cert}
use Rattle.ct_module.specs.declared.phase.Phase.{Phase}
use Rattle.ct_module.specs.declared.phase.Phase.TheVariants as phase
use Rattle.ct_module.specs.Columns.{free_monomials, has_summed, checked_denominator, checked_column}
use Rattle.ct_module.specs.Modules.{WrittenSetting, dimension}

pub record WrittenSystem : Type 0 where
  pub columns : List Key
  pub certificates : ℕ
  pub rows : List RowKey
  pub matrix : List (List Polynomial)
  pub factors : List Polynomial

abbrev pub InPhases : Type 0 → Type 0
InPhases A = Result A (Phase × Kind)

-- an overflow in a phase
abbrev pub in_phase : {A : Type 0} → Phase → Checked A → InPhases A
in_phase p c = refused_as (λ kind. (p, kind)) c

-- a value, unless a number of things passes its limit
abbrev pub unless_more : {A : Type 0} → ℕ → ℕ → A → Checked A
unless_more limit n x = verdict (cond (ltb limit n) (Some Size) None) x

-- ---- columns

abbrev pub certificate_keys_of : WrittenSetting → ℕ → ℕ → Name → List Key
certificate_keys_of s order degree j =
    flat_map (λ b. map (λ e. Cert order (place j) b e) (monomials_in (summed_of s.names) degree)) (range_with_len 0 (dimension s.space))

abbrev pub certificate_keys : WrittenSetting → ℕ → ℕ → List Key
certificate_keys s order degree = flat_map (certificate_keys_of s order degree) (summed_of s.names)

abbrev pub free_keys : WrittenSetting → ℕ → List Key
free_keys s order = map (λ m. Free m) (free_monomials s.names order)

abbrev pub keys_of_support : WrittenSetting → ℕ → ℕ → List Key
keys_of_support s order degree = certificate_keys s order degree ++ free_keys s order

unfoldable pub checked_columns : WrittenSetting → ℕ → ℕ → Checked (List (List Written))
checked_columns s order degree = do
  free ← checked_each (checked_column s) (free_keys s order)
  denominators ← checked_each (checked_denominator s order) (summed_of s.names)
  certificates ← checked_each (checked_column s) (certificate_keys s order degree)
  Ok (certificates ++ free)

-- ---- rows

abbrev pub checked_cleared_columns : Denominator → List (List Written) → Checked (List (List Polynomial))
checked_cleared_columns d columns = checked_each (λ column. checked_each (λ w. checked_cleared w d) column) columns

abbrev pub numerator_at : List (List Polynomial) → ℕ → ℕ → Polynomial
numerator_at columns i b = get_or (get_or columns i []) b polys.zero

abbrev pub matrix_rows : List Name → List (List Polynomial) → List RowKey → List (List Polynomial)
matrix_rows js columns keys =
    map (λ r. map (matrix_at js (length columns) (numerator_at columns) keys r) (range_with_len 0 (length columns)))
    (range_with_len 0 (length keys))

abbrev pub factors_without_summed : WrittenSetting → Denominator → List Polynomial
factors_without_summed s d = filter (λ p. not (has_summed s.names p)) (map (λ f. f.poly) d.factors)

abbrev pub system_of : WrittenSetting → ℕ → ℕ → Denominator → List (List Polynomial) → WrittenSystem
system_of s order degree d columns =
    let keys = row_keys (summed_of s.names) (length columns) (numerator_at columns) (dimension s.space) in
    record {
      columns = keys_of_support s order degree;
      certificates = length (certificate_keys s order degree);
      rows = keys;
      matrix = matrix_rows (summed_of s.names) columns keys;
      factors = factors_without_summed s d;
    }

abbrev pub most_columns : ℕ
most_columns = 200

abbrev pub most_rows : ℕ
most_rows = 600

unfoldable pub checked_rows : WrittenSetting → ℕ → ℕ → List (List Written) → Checked WrittenSystem
checked_rows s order degree columns = do
  d ← checked_common one_den (flat_map (λ column. column) columns)
  cleared ← checked_cleared_columns d columns
  unless_more most_rows (length (system_of s order degree d cleared).rows) (system_of s order degree d cleared)

unfoldable pub checked_system : WrittenSetting → ℕ → ℕ → InPhases WrittenSystem
checked_system s order degree = do
  keys ← in_phase phase.Support (unless_more most_columns (length (keys_of_support s order degree)) (keys_of_support s order degree))
  columns ← in_phase phase.NormalForm (checked_columns s order degree)
  in_phase phase.System (checked_rows s order degree columns)
