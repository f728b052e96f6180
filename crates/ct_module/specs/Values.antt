-- What modules and columns of written fractions stand for: vectors over the field of fractions.
--     values v b            the value of an entry;  row_values rows b c   of an entry of a row
--     vector_of d v         the vector with the values of the entries
--     rows_by_value m       the values of the rows, for each name
--     moved_product a i x y        σ(x)·y, of the name i under the actions a
--     moved_sum a i v rows c       the sum over the elements b of σ(v_b)·M[b, c]
--     acted_entry a i v rows c     the same plus δ(v_c)
--     differences_of v w    the differences of the values of the entries;  negatives_of w   their negatives
--     made_by .. is x       what the symbols of the names make of x, one after the other
--     summand_vector        a monomial over a denominator, times the unit vector of an element
--     negative_difference   x less what a symbol makes of it for a shift, and the negative of that for a derivation
--     key_vector s key      the vector of the column of a key
-- A module may have any start: that of a closure isn't a unit vector. For a tested module these are the vectors of the columns that
-- ct_telescoping speaks of: law `tested_columns_are_vectors`.
use Rattle.std.specs.Prelude.{ℕ, pos, Ok, Err, List, [], ◌∷◌, length, get_or, map}
use Rattle.std.specs.List.{zip}
use Rattle.ct_algebra.specs.Actions.{Action, by_action}
use Rattle.ct_algebra.specs.Field.{K, field, coefficients}
use Rattle.ct_algebra.specs.Monomial.{Mono}
use Rattle.ct_algebra.specs.Names.{Name, name_with}
use Rattle.ct_algebra.specs.Polynomial.{Polynomial, polys}
use Rattle.ct_algebra.specs.RangeSum.{sum_below}
use Rattle.ct_algebra.specs.Substitution.{term}
use Rattle.ct_checked.specs.Checked.{Checked}
use Rattle.ct_frac.specs.Written.{Denominator, Written, multiplied_out, value, value_over}
use Rattle.ct_ore.specs.Naming.{actions_of}
use Rattle.ct_telescoping.specs.StaircaseModule.{Rows}
use Rattle.ct_telescoping.specs.Tested.{acted}
use Rattle.ct_telescoping.specs.Vector.{Vector, vector, unit_vector, plus_vector, neg_vector}
use Rattle.ct_telescoping.specs.VectorModule.{scale_vector}
use Rattle.ct_module.specs.declared.key.Key.{Key}
use Rattle.ct_module.specs.declared.key.Key.TheVariants.{Free, Cert}
use Rattle.ct_module.specs.Columns.{symbols_of, checked_denominator}
use Rattle.ct_module.specs.Modules.{WrittenModule, WrittenSetting, dimension, row_of, entry}

abbrev pub values : List Written → ℕ → K
values v b = value (entry v b)

abbrev pub row_values : List (List Written) → ℕ → ℕ → K
row_values rows b c = values (get_or rows b []) c

abbrev pub vector_of : (d : ℕ) → List Written → Vector K d
vector_of d v = vector field.group d (values v)

abbrev pub rows_by_value : WrittenModule → Rows
rows_by_value m i b c = values (row_of m i b) c

abbrev pub moved_product : (Name → Action) → Name → Written → Written → K
moved_product a i x y = field.◌*◌ ((coefficients a).σ i (value x)) (value y)

abbrev pub moved_sum : (Name → Action) → Name → List Written → List (List Written) → ℕ → K
moved_sum a i v rows c = sum_below field.group (length v) (λ b. field.◌*◌ ((coefficients a).σ i (values v b)) (row_values rows b c))

abbrev pub acted_entry : (Name → Action) → Name → List Written → List (List Written) → ℕ → K
acted_entry a i v rows c = field.◌+◌ (moved_sum a i v rows c) ((coefficients a).δ i (values v c))

abbrev pub differences_of : List Written → List Written → List K
differences_of v w = map (λ p. field.◌+◌ (value p.0) (field.neg (value p.1))) (zip v w)

abbrev pub negatives_of : List Written → List K
negatives_of w = map (λ y. field.neg (value y)) w

module _ (a : Name → Action) (d : ℕ) (M : Rows) where
  abbrev pub made_by : List Name → Vector K d → Vector K d
  made_by [] x = x
  made_by (i ∷ is) x = made_by is (acted a d M i x)

  abbrev pub negative_difference : Name → Vector K d → Vector K d
  negative_difference j x =
      by_action (a j) (plus_vector field.group d x (neg_vector field.group d (acted a d M j x)))
      (neg_vector field.group d (acted a d M j x)) (neg_vector field.group d (acted a d M j x))

abbrev pub summand_vector : (d b : ℕ) → Mono → Polynomial → Vector K d
summand_vector d b κ denominator = scale_vector field d (value_over (term κ (pos 1)) denominator) (unit_vector field d b)

-- the denominator of an order multiplied out, where it does not overflow
abbrev pub product_or_one : Checked Denominator → Polynomial
product_or_one (Ok d) = multiplied_out d
product_or_one (Err kind) = polys.one

abbrev pub denominator_at : WrittenSetting → ℕ → Name → Polynomial
denominator_at s r j = product_or_one (checked_denominator s r j)

abbrev pub key_vector : (s : WrittenSetting) → Key → Vector K (dimension s.space)
key_vector s (Free m) =
    made_by (actions_of s.names) (dimension s.space) (rows_by_value s.space) (symbols_of m)
    (vector_of (dimension s.space) s.space.start)
key_vector s (Cert order name element mono) =
    negative_difference (actions_of s.names) (dimension s.space) (rows_by_value s.space) (name_with name)
    (summand_vector (dimension s.space) element mono (denominator_at s order (name_with name)))
