-- What stands for each declared name, as a list with places.
use Rattle.ct_problem.proofs.Base.{◌≡◌, ℕ, zero, suc, Bool, false, [], ◌∷◌, length, Option, Some, None, is_some, slice_get, refl, ap, set, Expr, Dens}
use Rattle.ct_problem.proofs.Base.{is_given, with_den}

abbrev is_there : Option (Option Expr) → Bool
is_there (Some d) = is_some d
is_there None = false

pub is_given-slice_get : (at : ℕ) (ds : Dens) → is_given at ds ≡ is_there (slice_get ds at)
is_given-slice_get zero [] = refl
is_given-slice_get (suc at) [] = refl
is_given-slice_get zero (d ∷ ds) = refl
is_given-slice_get (suc at) (d ∷ ds) = is_given-slice_get at ds

pub with_den-slice_set : (at : ℕ) (x : Expr) (ds : Dens) → set ds at (Some x) ≡ with_den at x ds
with_den-slice_set zero x [] = refl
with_den-slice_set (suc at) x [] = refl
with_den-slice_set zero x (d ∷ ds) = refl
with_den-slice_set (suc at) x (d ∷ ds) = ap (λ (es : Dens). d ∷ es) (with_den-slice_set at x ds)

pub length-with_den : (at : ℕ) (x : Expr) (ds : Dens) → length (with_den at x ds) ≡ length ds
length-with_den zero x [] = refl
length-with_den (suc at) x [] = refl
length-with_den zero x (d ∷ ds) = refl
length-with_den (suc at) x (d ∷ ds) = ap suc (length-with_den at x ds)
