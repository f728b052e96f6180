-- Powers of polynomials in checked arithmetic, as the timed polynomials are made.
--     checked_power p n      1 times p, n times
--     checked_form a b c     a·x + b·y + c·z + 1 of the first three names, added up from the left
use Rattle.std.specs.Prelude.{ℕ, zero, suc, pos, Ok}
use Rattle.ct_algebra.specs.Names.{x0, x1, x2}
use Rattle.ct_algebra.specs.Polynomial.{Polynomial}
use Rattle.ct_algebra.specs.Substitution.{number, name}
use Rattle.ct_checked.specs.Checked.{Checked, ◌>>=◌}
use Rattle.ct_poly.specs.Measures.{checked_plus, checked_times}

-- n more factors
abbrev pub checked_power_from : Polynomial → ℕ → Polynomial → Checked Polynomial
checked_power_from so_far zero p = Ok so_far
checked_power_from so_far (suc n) p = checked_times so_far p >>= (λ more. checked_power_from more n p)

abbrev pub checked_power : Polynomial → ℕ → Checked Polynomial
checked_power p n = checked_power_from (number (pos 1)) n p

unfoldable pub checked_form : ℕ → ℕ → ℕ → Checked Polynomial
checked_form a b c = do
  x ← checked_times (number (pos a)) (name x0)
  y ← checked_times (number (pos b)) (name x1)
  z ← checked_times (number (pos c)) (name x2)
  two ← checked_plus x y
  three ← checked_plus two z
  checked_plus three (number (pos 1))
