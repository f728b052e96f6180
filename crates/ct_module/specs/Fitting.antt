-- Which modules, vectors and settings fit an algebra.
--     PolynomialFits n p     p uses only the first n names;  FractionFits n w   so do the numerator and the factors of w
--     HasLengths ns m        one to 16 elements; a list of rows for each name, with a row for each element where the name has an
--                            operator, and empty where it has none; each row and the start have an entry for each element
--     ModuleFits ns m        these are its lengths, and its fractions fit
--     SettingFits ns m dens  the module fits; an entry of `dens` stands there for each name, and where it has a polynomial, this is
--                            not zero, the name is summed, and the polynomial fits
use Rattle.std.specs.Prelude.{◌≡◌, ◌≢◌, ℕ, ◌<◌, ◌≤◌, None, Some, List, length}
use Rattle.std.specs.List.{All, Contains}
use Rattle.std.proofs.Common.{Option}
use Rattle.ct_algebra.specs.Actions.{by_action}
use Rattle.ct_algebra.specs.FreeOf.{IsFreeOf}
use Rattle.ct_algebra.specs.Names.{Name, place}
use Rattle.ct_algebra.specs.Polynomial.{Polynomial, polys}
use Rattle.ct_telescoping.specs.Tested.{largest_staircase}
use Rattle.ct_frac.specs.Written.{Written}
use Rattle.ct_ore.specs.Naming.{Naming, actions_of, summed_of}
use Rattle.ct_module.specs.Modules.{WrittenModule, dimension, rows_of, den_of}

abbrev pub PolynomialFits : ℕ → Polynomial → Type 0
PolynomialFits n p = (i : Name) → n ≤ place i → IsFreeOf i p

abbrev pub FractionFits : ℕ → Written → Type 0
FractionFits n w = PolynomialFits n w.numerator × All (λ f. PolynomialFits n f.poly) w.den.factors

pub record HasLengths (ns : List Naming) (m : WrittenModule) : Type 0 where
  pub some : 0 < dimension m
  pub few : dimension m ≤ largest_staircase
  pub names : length m.rows ≡ length ns
  pub rows : (i : Name) → length (rows_of m i) ≡ by_action (actions_of ns i) (dimension m) (dimension m) 0
  pub filled : (i : Name) → All (λ row. length row ≡ dimension m) (rows_of m i)
  pub start : length m.start ≡ dimension m

pub record ModuleFits (ns : List Naming) (m : WrittenModule) : Type 0 where
  pub lengths : HasLengths ns m
  pub rows : All (λ rows. All (λ row. All (FractionFits (length ns)) row) rows) m.rows
  pub start : All (FractionFits (length ns)) m.start

pub record IsDenOf (ns : List Naming) (i : Name) (p : Polynomial) : Type 0 where
  pub nonzero : p ≢ polys.zero
  pub summed : Contains (summed_of ns) i
  pub fits : PolynomialFits (length ns) p

abbrev pub DenFits : List Naming → Name → Option Polynomial → Type 0
DenFits ns i None = Unit {0}
DenFits ns i (Some p) = IsDenOf ns i p

pub record SettingFits (ns : List Naming) (m : WrittenModule) (dens : List (Option Polynomial)) : Type 0 where
  pub space : ModuleFits ns m
  pub names : length dens ≡ length ns
  pub each : (i : Name) → DenFits ns i (den_of dens i)
