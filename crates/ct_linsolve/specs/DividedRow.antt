-- Rows of p·x − a·y over f that are found in any way. Such a row is that of the steps: `checked_divided` of `Elimination`.
--     IsDividedEntry    an entry has a value, and f divides it: the quotient
--     IsDividedRow      the whole row has values, and f divides every entry: the quotients
use Rattle.std.specs.Prelude.{◌≡◌, ℕ, Ok, Some, Bool, cond}
use Rattle.ct_algebra.specs.Polynomial.{Polynomial, polys}
use Rattle.ct_poly.specs.Crossing.{checked_cross}
use Rattle.ct_poly.specs.Division.{quotient}
use Rattle.ct_linsolve.specs.Elimination.{checked_crossed}
use Rattle.ct_linsolve.specs.Rows.{Row, quotients}

pub record IsDividedEntry (at_pivot : Bool) (p a f x y q : Polynomial) : Type 0 where
  pub value : Polynomial
  pub is_value : cond at_pivot (Ok polys.zero) (checked_cross p a x y) ≡ Ok value
  pub divides : quotient value f ≡ Some q

pub record IsDividedRow (c : ℕ) (p a f : Polynomial) (pivot r q : Row) : Type 0 where
  pub crossed : Row
  pub crosses : checked_crossed c p a pivot r ≡ Ok crossed
  pub divides : quotients f crossed ≡ Ok q
