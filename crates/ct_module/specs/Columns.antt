-- The columns of an attempt as written fractions, in checked arithmetic (this project's own rules; Koutschan 2010).
--     symbols_of m                   the symbols of a monomial, those of the first name first
--     checked_free_column ns m v γ   what the symbols of γ make of v, one after the other
--     free_monomials ns r            the monomials in free names with operators of total at most r, rising
--     summed_denominator ns ws       whole number 1, and each factor of the fractions ws that has a summed name, with its greatest
--                                    exponent
--     checked_denominator s r j      the denominator of order r at the summed name j: where a polynomial is given, that of 1 over it; else
--                                    that of the entries of all free monomials' columns
--     checked_certificate_column s r j b κ     with v the fraction of κ over the denominator at the element b and zero elsewhere:
--                                    v less what the symbol of j makes of v for a shift, and the negative of that for a derivation
--     checked_column s key           the column of a key
--     IsKeyOf s key                  the key has a column in the setting
-- In a column of one key the denominator's steps come first. The column of a symbol times γ, where γ has no later name, is what the
-- symbol makes of the column of γ: law `columns_go_by_symbols`.
use Rattle.std.specs.Prelude.{◌≡◌, ℕ, ◌<◌, ◌≤◌, pos, Bool, Ok, None, Some, List, [], length, map, cond, eqb, replicate}
use Rattle.std.specs.List.{Contains, filter, flat_map, list_any, zip, range_with_len}
use Rattle.std.proofs.Common.{Option}
use Rattle.ct_algebra.specs.Actions.{Action, by_action}
use Rattle.ct_algebra.specs.CoefficientLaws.{IsIn}
use Rattle.ct_algebra.specs.Monomial.{Mono, exp}
use Rattle.ct_algebra.specs.Names.{Name, place, name_with}
use Rattle.ct_algebra.specs.Polynomial.{Polynomial, polys}
use Rattle.ct_algebra.specs.Substitution.{term}
use Rattle.ct_checked.specs.Checked.{Checked, ◌>>=◌}
use Rattle.ct_checked.specs.Traversal.{checked_fold, checked_each}
use Rattle.ct_frac.specs.declared.factor.Factor.{Factor}
use Rattle.ct_frac.specs.Arithmetic.{all_greatest, negative, checked_fraction_difference}
use Rattle.ct_frac.specs.Normal.{normal, quotient_of}
use Rattle.ct_frac.specs.Symbols.{has_name}
use Rattle.ct_frac.specs.Written.{Denominator, Written}
use Rattle.ct_ore.specs.Naming.{Naming, actions_of, summed_of}
use Rattle.ct_telescoping.specs.Columns.{free_names, monomials_in}
use Rattle.ct_telescoping.specs.Rising.{all_names}
use Rattle.ct_telescoping.specs.Staircase.{HasOperators}
use Rattle.ct_module.specs.declared.key.Key.{Key}
use Rattle.ct_module.specs.declared.key.Key.TheVariants.{Free, Cert}
use Rattle.ct_module.specs.Action.{checked_act}
use Rattle.ct_module.specs.Modules.{WrittenModule, WrittenSetting, dimension, den_of, written_zero}

-- ---- free columns

abbrev pub symbols_of : Mono → List Name
symbols_of m = flat_map (λ i. replicate (exp m (place i)) i) all_names

unfoldable pub checked_free_column : List Naming → WrittenModule → List Written → Mono → Checked (List Written)
checked_free_column ns m v γ = checked_fold (λ w i. checked_act ns m i w) v (symbols_of γ)

-- ---- denominators

abbrev pub free_monomials : List Naming → ℕ → List Mono
free_monomials ns r = monomials_in (free_names (actions_of ns) (summed_of ns)) r

abbrev pub has_summed : List Naming → Polynomial → Bool
has_summed ns p = list_any (λ j. has_name j p) (summed_of ns)

abbrev pub summed_factors : List Naming → Written → List Factor
summed_factors ns w = filter (λ f. has_summed ns f.poly) w.den.factors

unfoldable pub summed_denominator : List Naming → List Written → Denominator
summed_denominator ns ws = record { whole = 1; factors = all_greatest [] (flat_map (summed_factors ns) ws) }

abbrev pub checked_free_columns : WrittenSetting → ℕ → Checked (List (List Written))
checked_free_columns s r = checked_each (checked_free_column s.names s.space s.space.start) (free_monomials s.names r)

unfoldable pub checked_common_denominator : WrittenSetting → ℕ → Checked Denominator
checked_common_denominator s r = do
  columns ← checked_free_columns s r
  Ok (summed_denominator s.names (flat_map (λ column. column) columns))

abbrev pub by_den : Option Polynomial → Checked Denominator → Checked Denominator
by_den None d = d
by_den (Some p) d = Ok (quotient_of polys.one p).den

abbrev pub checked_denominator : WrittenSetting → ℕ → Name → Checked Denominator
checked_denominator s r j = by_den (den_of s.dens j) (checked_common_denominator s r)

-- ---- certificates' columns

-- a fraction at one element, and zero elsewhere
abbrev pub only_at : ℕ → ℕ → Written → List Written
only_at d b w = map (λ k. cond (eqb k b) w written_zero) (range_with_len 0 d)

abbrev pub checked_differences : List Written → List Written → Checked (List Written)
checked_differences v w = checked_each (λ p. checked_fraction_difference p.0 p.1) (zip v w)

-- v − w for a shift, −w for a derivation
abbrev pub checked_negative_difference : Action → List Written → List Written → Checked (List Written)
checked_negative_difference t v w = by_action t (checked_differences v w) (Ok (map negative w)) (Ok (map negative w))

unfoldable pub checked_certificate_column : WrittenSetting → ℕ → Name → ℕ → Mono → Checked (List Written)
checked_certificate_column s r j b κ = do
  d ← checked_denominator s r j
  acted ← checked_act s.names s.space j (only_at (dimension s.space) b (normal (term κ (pos 1)) d))
  checked_negative_difference (actions_of s.names j) (only_at (dimension s.space) b (normal (term κ (pos 1)) d)) acted

-- ---- columns by key

abbrev pub checked_column : WrittenSetting → Key → Checked (List Written)
checked_column s (Free m) = checked_free_column s.names s.space s.space.start m
checked_column s (Cert order name element mono) = checked_certificate_column s order (name_with name) element mono

abbrev pub largest_order : ℕ
largest_order = 12

pub record IsSummedName (ns : List Naming) (name : ℕ) : Type 0 where
  pub declared : name < length ns
  pub summed : Contains (summed_of ns) (name_with name)

pub record IsCertificateOf (s : WrittenSetting) (order name element : ℕ) (mono : Mono) : Type 0 where
  pub small : order ≤ largest_order
  pub summed : IsSummedName s.names name
  pub in_range : element < dimension s.space
  pub powers : IsIn (summed_of s.names) mono

abbrev pub IsKeyOf : WrittenSetting → Key → Type 0
IsKeyOf s (Free m) = HasOperators (actions_of s.names) m
IsKeyOf s (Cert order name element mono) = IsCertificateOf s order name element mono
