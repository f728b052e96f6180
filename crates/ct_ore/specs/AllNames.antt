-- What is said of all names, one after the other.
--     number_of_names    how many names there are
--     over_names f       the product of f over the names;  over_below n f  over those below n
--     total_below n m    the exponents of the names below n, added up
use Rattle.std.specs.Prelude.{ℕ, zero, suc, ◌+◌, ◌*◌}
use Rattle.ct_algebra.specs.Monomial.{Mono, exp}
use Rattle.ct_algebra.specs.Names.{Name, name_with}

abbrev pub number_of_names : ℕ
number_of_names = 6

abbrev pub over_below : ℕ → (Name → ℕ) → ℕ
over_below zero f = 1
over_below (suc n) f = over_below n f * f (name_with n)

abbrev pub over_names : (Name → ℕ) → ℕ
over_names f = over_below number_of_names f

abbrev pub total_below : ℕ → Mono → ℕ
total_below zero m = 0
total_below (suc n) m = total_below n m + exp m n
