-- What is known of `den` lines: main lemmas `dens_given`, that each expression is a polynomial's, `dens_length`, that there is an entry
-- for each name, and `given_zero`, `given_other`, for the test of the code.
use Rattle.ct_setup.proofs.Base.{◌≡◌, ◌≢◌, ap, refl, suc, ◌∙◌, ℕ, Bool, true, false, List, [], ◌∷◌, length, Naming, Option, None, Some, Ok, Err, Expr, Each}
use Rattle.ct_setup.proofs.Base.{Action, Name, Polynomial, polys, IsPolynomial, checked_polynomial, if◌then◌else◌, read_as, ◌>>=◌}
use Rattle.ct_setup.specs.Setup.{SetUp, ZeroDen, checked_den}
use Rattle.std.specs.Prelude.{IfSome}
use Rattle.ct_problem.specs.DenLines.{Dens}
use Rattle.ct_problem.specs.WellFormed.{AreDensOf}

module _ (ns : List Naming) where
  abbrev pub AreGiven : Dens → Type 0
  AreGiven ds = Each (λ d. IfSome d (IsPolynomial ns)) ds

  pub dens_given : (more : List Naming) (ds : Dens) → AreDensOf ns more ds → AreGiven ds
  dens_given [] [] are = tt
  dens_given [] (d ∷ ds) are = absurd are
  dens_given (n ∷ more) [] are = absurd are
  dens_given (n ∷ more) (None ∷ ds) are = (tt, dens_given more ds are)
  dens_given (n ∷ more) (Some x ∷ ds) are = (are.0.1, dens_given more ds are.1)

  pub dens_length : (more : List Naming) (ds : Dens) → AreDensOf ns more ds → length ds ≡ length more
  dens_length [] [] are = refl
  dens_length [] (d ∷ ds) are = absurd are
  dens_length (n ∷ more) [] are = absurd are
  dens_length (n ∷ more) (None ∷ ds) are = ap suc (dens_length more ds are)
  dens_length (n ∷ more) (Some x ∷ ds) are = ap suc (dens_length more ds are.1)

module _ (a : Name → Action) (i : ℕ) (x : Expr) (p : Polynomial) (valued : checked_polynomial a x ≡ Ok p) where
  abbrev tested : Bool → SetUp (Option Polynomial)
  tested zero = if zero then Err (ZeroDen i) else Ok (Some p)

  by_test : checked_den a i (Some x) ≡ tested (polys.is_zero p)
  by_test = ap (λ c. read_as c >>= (λ q. if polys.is_zero q then Err (ZeroDen i) else Ok (Some q))) valued

  pub given_zero : p ≡ polys.zero → checked_den a i (Some x) ≡ Err (ZeroDen i)
  given_zero none = by_test ∙ ap tested (ap polys.is_zero none ∙ polys.zero_true)

  pub given_other : p ≢ polys.zero → checked_den a i (Some x) ≡ Ok (Some p)
  given_other other = by_test ∙ by (polys.is_zero p) refl
    where
      by : (b : Bool) → polys.is_zero p ≡ b → tested b ≡ Ok (Some p)
      by true none = absurd (other (polys.true_zero p none))
      by false told = refl
