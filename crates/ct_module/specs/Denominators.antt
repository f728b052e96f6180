-- What the denominators of an order divide and are divided by.
--     IsSignedProduct d p          multiplied out, d is p or the negative of p
--     CollectsFactors ns ws d      whole number 1; each factor of the fractions ws that has a summed name stands in d with at least its
--                                  exponent; and each factor of d is one of these, with its exponent
--     part_of ns w                 1 over the factors of w that have a summed name;  parts_of ns ws   for each fraction
--     checked_parts s γs           those of the entries of the columns of free monomials
--     DenominatorMeans s r j d     the first where a polynomial is given for the name, the second for the entries of the columns of the
--                                  free monomials of total at most r where none is
use Rattle.std.specs.Prelude.{◌≡◌, ℕ, Ok, None, Some, List, map, ◌⊎◌}
use Rattle.std.specs.List.{All, Contains, flat_map}
use Rattle.std.proofs.Common.{Option}
use Rattle.ct_algebra.specs.Monomial.{Mono}
use Rattle.ct_algebra.specs.Names.{Name}
use Rattle.ct_algebra.specs.Polynomial.{Polynomial, polys}
use Rattle.ct_checked.specs.Checked.{Checked, ◌>>=◌}
use Rattle.ct_checked.specs.Traversal.{checked_each}
use Rattle.ct_frac.specs.declared.factor.Factor.{Factor}
use Rattle.ct_frac.specs.Arithmetic.{EachIsIn}
use Rattle.ct_frac.specs.Written.{Denominator, Written, multiplied_out}
use Rattle.ct_ore.specs.Naming.{Naming}
use Rattle.ct_module.specs.Columns.{summed_factors, checked_free_column, checked_free_columns}
use Rattle.ct_module.specs.Modules.{WrittenSetting, den_of}

abbrev pub IsSignedProduct : Denominator → Polynomial → Type 0
IsSignedProduct d p = (multiplied_out d ≡ p) ⊎ (multiplied_out d ≡ polys.neg p)

-- some fraction of the list has the factor
pub record IsFactorOfOne (ns : List Naming) (ws : List Written) (f : Factor) : Type 0 where
  pub fraction : Written
  pub stands : Contains ws fraction
  pub factor : Contains (summed_factors ns fraction) f

pub record CollectsFactors (ns : List Naming) (ws : List Written) (d : Denominator) : Type 0 where
  pub whole : d.whole ≡ 1
  pub enough : All (λ w. EachIsIn (summed_factors ns w) d.factors) ws
  pub no_more : All (IsFactorOfOne ns ws) d.factors

abbrev pub part_of : List Naming → Written → Written
part_of ns w = record { numerator = polys.one; den = record { whole = 1; factors = summed_factors ns w } }

abbrev pub parts_of : List Naming → List Written → List Written
parts_of ns ws = map (part_of ns) ws

abbrev pub checked_parts : WrittenSetting → List Mono → Checked (List Written)
checked_parts s γs =
    checked_each (checked_free_column s.names s.space s.space.start) γs >>= (λ columns. Ok (parts_of s.names (flat_map (λ column. column) columns)))

abbrev pub MeansBy : WrittenSetting → ℕ → Denominator → Option Polynomial → Type 0
MeansBy s r d (Some p) = IsSignedProduct d p
MeansBy s r d None =
    (columns : List (List Written)) → checked_free_columns s r ≡ Ok columns →
    CollectsFactors s.names (flat_map (λ column. column) columns) d

abbrev pub DenominatorMeans : WrittenSetting → ℕ → Name → Denominator → Type 0
DenominatorMeans s r j d = MeansBy s r d (den_of s.dens j)
