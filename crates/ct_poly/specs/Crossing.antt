-- The cross difference p·x − a·y and its exact quotients, of which a step of elimination consists.
--     cross p a x y           the value
--     checked_cross p a x y   the first product, the second, the difference
--     CrossHasRoom            the measures of the operands leave room for both products and the difference
--     DivisionHasRoom         and, with those of a divisor and a quotient, for each step of the division by leading terms
--     IsRoomForCross          the same of lists of terms, with both measures
--     IsCrossQuotient p a x y f q    the checked cross difference has a value, and q is its quotient by f
--     CrossQuotientsFit       the law: where there is room, an exact quotient is the one that the checked steps find
-- So a quotient may be found in any way. Where there is no room the steps themselves decide.
use Rattle.std.specs.Prelude.{◌≡◌, ◌≢◌, ◌+◌, ◌*◌, ◌≤◌, ℕ, Ok, Some, List, length}
use Rattle.ct_algebra.specs.Polynomial.{Polynomial, polys, times, count, norm, degree, degree_of as list_degree}
use Rattle.ct_checked.specs.Checked.{Checked, ◌>>=◌}
use Rattle.ct_checked.specs.Limits.{largest_degree, most_terms, largest_norm}
use Rattle.ct_poly.specs.Cells.{HasRoom}
use Rattle.ct_poly.specs.Division.{quotient}
use Rattle.ct_poly.specs.declared.division.Measure.{Measure}
use Rattle.ct_poly.specs.declared.term.Term.{Term}
use Rattle.ct_poly.specs.Terms.{entries, size_of}
use Rattle.ct_poly.specs.Measures.{minus, checked_times, checked_minus}

unfoldable pub cross : Polynomial → Polynomial → Polynomial → Polynomial → Polynomial
cross p a x y = minus (times p x) (times a y)

unfoldable pub checked_cross : Polynomial → Polynomial → Polynomial → Polynomial → Checked Polynomial
checked_cross p a x y = do
  first ← checked_times p x
  second ← checked_times a y
  checked_minus first second

-- how many terms both products have together before they are gathered, and the norm of these
abbrev pub cross_count : Polynomial → Polynomial → Polynomial → Polynomial → ℕ
cross_count p a x y = count p * count x + count a * count y

abbrev pub cross_norm : Polynomial → Polynomial → Polynomial → Polynomial → ℕ
cross_norm p a x y = norm p * norm x + norm a * norm y

pub record CrossHasRoom (p a x y : Polynomial) : Type 0 where
  pub first_low : degree p + degree x ≤ largest_degree
  pub second_low : degree a + degree y ≤ largest_degree
  pub few : cross_count p a x y ≤ most_terms
  pub small : cross_norm p a x y ≤ largest_norm

abbrev pub DivisionHasRoom : Polynomial → Polynomial → Polynomial → Polynomial → Polynomial → Polynomial → Type 0
DivisionHasRoom p a x y f q = HasRoom (cross_count p a x y) (cross_norm p a x y) (count f) (norm f) (count q) (norm q)

pub record IsCrossQuotient (p a x y f q : Polynomial) : Type 0 where
  pub crosses : checked_cross p a x y ≡ Ok (cross p a x y)
  pub divides : quotient (cross p a x y) f ≡ Some q

-- the same of lists in falling order, with both measures
pub record IsRoomForCross (ps bs xs ys : List Term) (m : Measure) : Type 0 where
  pub first_low : list_degree (entries ps) + list_degree (entries xs) ≤ largest_degree
  pub second_low : list_degree (entries bs) + list_degree (entries ys) ≤ largest_degree
  pub count_is : m.count ≡ length ps * length xs + length bs * length ys
  pub norm_is : m.norm ≡ size_of ps * size_of xs + size_of bs * size_of ys
  pub few : m.count ≤ most_terms
  pub small : m.norm ≤ largest_norm

abbrev pub CrossQuotientsFit : Type 0
CrossQuotientsFit =
    (p a x y f q : Polynomial) → f ≢ polys.zero → CrossHasRoom p a x y → DivisionHasRoom p a x y f q →
    times q f ≡ cross p a x y → IsCrossQuotient p a x y f q
