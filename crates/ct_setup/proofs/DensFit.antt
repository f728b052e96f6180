-- What `den` lines come to fits a setting: main lemma `setting_fits`, cited where one is made. A polynomial that is given isn't zero, its name
-- is summed, and it has declared names alone.
use Rattle.ct_setup.proofs.Base.{◌≡◌, ◌≢◌, ap, ◌∙◌, subst, refl, arith, ℕ, zero, suc, ◌+◌, ◌≤◌, Bool, true, false, List, [], ◌∷◌, length, get_or}
use Rattle.ct_setup.proofs.Base.{Option, None, Some, Ok, Err, Name, name_with, place, unit, Operator, polynomial_at, Polynomial, polys, Naming}
use Rattle.ct_setup.proofs.Base.{actions_of, Expr, Contains, Checked, both_fit, read_as, checked_polynomial, value_of, each_length, each_means}
use Rattle.ct_setup.proofs.Base.{if◌then◌else◌, false≢true, IsPolynomial}
use Rattle.ct_border.proofs.NamesWithOperators.{name_with-place}
use Rattle.ct_border.proofs.OperatorNames.{coefficient_fits}
use Rattle.ct_module.specs.Fitting.{DenFits, ModuleFits, PolynomialFits, SettingFits}
use Rattle.ct_module.specs.Modules.{WrittenModule, den_of}
use Rattle.ct_ore.specs.Naming.{is_summed, summed_from, with_summed}
unfoldable use Rattle.ct_ore.specs.Naming.{summed_of}
use Rattle.ct_ore.specs.declared.algebra.Role.{Role}
use Rattle.ct_ore.specs.declared.algebra.Role.TheVariants.{Free, Summed, Param}
use Rattle.ct_problem.specs.DenLines.{Dens}
use Rattle.ct_problem.specs.WellFormed.{AreDens, AreDensOf}
use Rattle.ct_telescoping.proofs.ListParts.{contains_first, contains_later}
use Rattle.ct_setup.specs.Setup.{SetUp, ZeroDen, checked_den, checked_dens}
use Rattle.ct_setup.proofs.GivenPolynomials.{dens_length}
use Rattle.ct_setup.proofs.ValuesKnown.{value_known}

-- ---- summed names

first_summed : (r : Role) (i : Name) (is : List Name) → is_summed r ≡ true → Contains (with_summed r i is) i
first_summed Summed i is right = contains_first i is
first_summed Free i is wrong = absurd (false≢true wrong)
first_summed Param i is wrong = absurd (false≢true wrong)

more_summed : (r : Role) (i j : Name) (is : List Name) → Contains is j → Contains (with_summed r i is) j
more_summed Summed i j is found = contains_later i j is found
more_summed Free i j is found = found
more_summed Param i j is found = found

-- ---- polynomials

value_read : {A : Type 0} (c : Checked A) (x : A) → read_as c ≡ Ok x → c ≡ Ok x
value_read (Ok y) x read = let same : y ≡ x = cc in ap Ok same
value_read (Err k) x read = cc

module _ (ns : List Naming) (few : length ns ≤ 6) where
  -- of a name with these among the summed names
  abbrev FitsAt : List Name → Name → Option Polynomial → Type 0
  FitsAt summed i None = Unit {0}
  FitsAt summed i (Some p) = (p ≢ polys.zero) × Contains summed i × PolynomialFits (length ns) p

  fits_more : (r : Role) (i j : Name) (summed : List Name) (o : Option Polynomial) → FitsAt summed j o → FitsAt (with_summed r i summed) j o
  fits_more r i j summed None fits = tt
  fits_more r i j summed (Some p) fits = (fits.0, more_summed r i j summed fits.1, fits.2)

  polynomial_fits : (x : Expr) (p : Polynomial) → IsPolynomial ns x → checked_polynomial (actions_of ns) x ≡ Ok p → PolynomialFits (length ns) p
  polynomial_fits x p is valued =
      let step = both_fit (value_of (actions_of ns) x) (λ (v : Operator). let r : Checked Polynomial = Ok (polynomial_at v unit) in r) p valued in
      let same : polynomial_at step.value unit ≡ p = let e = step.rest in cc in
      let known = value_known ns few x step.value (record { evaluable = is.evaluable; over = is.over }) step.first in
      subst (PolynomialFits (length ns)) same (coefficient_fits (length ns) step.value unit known.1)

  entry_fits :
      (n : ℕ) (x : Expr) (o : Option Polynomial) (summed : List Name) (i : Name) → IsPolynomial ns x → Contains summed i →
      checked_den (actions_of ns) n (Some x) ≡ Ok o → FitsAt summed i o
  entry_fits n x o summed i is found valued =
      let step = both_fit (read_as (checked_polynomial (actions_of ns) x)) _ o valued in
      by step.value (polys.is_zero step.value) refl (value_read (checked_polynomial (actions_of ns) x) step.value step.first) step.rest
    where
      by :
          (p : Polynomial) (b : Bool) → polys.is_zero p ≡ b → checked_polynomial (actions_of ns) x ≡ Ok p →
          ◌≡◌ {A = SetUp (Option Polynomial)} (if b then Err (ZeroDen n) else Ok (Some p)) (Ok o) → FitsAt summed i o
      by p true told first rest = cc
      by p false told first rest =
          let same : Some p ≡ o = cc in
          subst (FitsAt summed i) same
          ((λ none. let yes : polys.is_zero p ≡ true = ap polys.is_zero none ∙ polys.zero_true in cc), found, polynomial_fits x p is first)

  -- the entries for the names from a number on
  AreFitting : Dens → List (Option Polynomial) → Type 0
  AreFitting ds ps = (k : ℕ) (more : List Naming) → AreDensOf ns more ds → (i : ℕ) → FitsAt (summed_from k more) (name_with (k + i)) (get_or ps i None)

  one_more :
      (n : ℕ) (d : Option Expr) (o : Option Polynomial) (ds : Dens) (ps : List (Option Polynomial)) → checked_den (actions_of ns) n d ≡ Ok o →
      AreFitting ds ps → AreFitting (d ∷ ds) (o ∷ ps)
  unfolding AreFitting
  one_more n d o ds ps valued rest k [] are i = absurd are
  one_more n None o ds ps valued rest k (m ∷ more) are zero = let none : None ≡ o = cc in subst (FitsAt _ _) none tt
  one_more n (Some x) o ds ps valued rest k (m ∷ more) are zero =
      let here : k ≡ k + 0 = omega arith in
      subst (λ j. FitsAt (summed_from k (m ∷ more)) (name_with j) o) here
      (entry_fits n x o _ (name_with k) are.0.1 (first_summed m.role (name_with k) _ are.0.0) valued)
  one_more n None o ds ps valued rest k (m ∷ more) are (suc i) =
      let there : k + 1 + i ≡ k + suc i = omega arith in
      subst (λ j. FitsAt (summed_from k (m ∷ more)) (name_with j) (get_or ps i None)) there
      (fits_more m.role (name_with k) _ _ (get_or ps i None) (rest (k + 1) more are i))
  one_more n (Some x) o ds ps valued rest k (m ∷ more) are (suc i) =
      let there : k + 1 + i ≡ k + suc i = omega arith in
      subst (λ j. FitsAt (summed_from k (m ∷ more)) (name_with j) (get_or ps i None)) there
      (fits_more m.role (name_with k) _ _ (get_or ps i None) (rest (k + 1) more are.1 i))

  none_more : AreFitting [] []
  unfolding AreFitting
  none_more k more are i = tt

  den_fits : (i : Name) (o : Option Polynomial) → FitsAt (summed_from 0 ns) (name_with (0 + place i)) o → DenFits ns i o
  unfolding summed_of
  den_fits i None fits = tt
  den_fits i (Some p) fits =
      let here : name_with (0 + place i) ≡ i = let e : 0 + place i ≡ place i = omega arith in ap name_with e ∙ name_with-place i in
      record { nonzero = fits.0; summed = subst (Contains (summed_from 0 ns)) here fits.1; fits = fits.2 }

  pub setting_fits :
      (m : WrittenModule) (ds : Dens) (ps : List (Option Polynomial)) → ModuleFits ns m → AreDens ns ds → checked_dens (actions_of ns) ds ≡ Ok ps →
      SettingFits ns m ps
  unfolding AreFitting
  setting_fits m ds ps fits are valued = record {
    space = fits;
    names = each_length (checked_den (actions_of ns)) 0 ds ps valued ∙ dens_length ns ns ds are;
    each = λ i. den_fits i (den_of ps i)
        (each_means (checked_den (actions_of ns)) AreFitting none_more one_more 0 ds ps valued 0 ns are (place i));
  }
