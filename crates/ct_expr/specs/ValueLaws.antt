-- What the values of expressions are besides.
--     ValuesAreLowest           a value is in lowest terms, over a whole number from 1 to the greatest coefficient
--     PolynomialsLoseNothing    the value of an expression without symbols is its coefficient of 1
--     SumsAreExact, DifferencesAreExact    over the product of the whole numbers, a sum is that of the crosswise multiples
--     ProductsAreExact          over the product of the whole numbers, a product is that of the operators
--     QuotientsAreExact         d times the value of the quotient n/d is n
--     NegativesAreExact         a negated value is the negative operator over the same whole number
--     PowersAreExact            over the power of the whole number, a power is that of the operator
-- With v = x/m and w = y/n and their sum r = z/k, the law says m·n·z = k·(n·x + m·y): the sum of the fractions without a quotient.
use Rattle.std.specs.Prelude.{◌≡◌, ℕ, ℤ, pos, zero, suc, ◌*◌, ◌^◌, ◌<◌, Ok, IsTrue}
use Rattle.ct_algebra.specs.Names.{Name}
use Rattle.ct_algebra.specs.Monomial.{unit}
use Rattle.ct_algebra.specs.Actions.{Action}
use Rattle.ct_algebra.specs.Operators.{Operator, polynomial_at, sum_of_operators, negative, product_of}
use Rattle.ct_algebra.specs.Substitution.{number}
use Rattle.ct_ore.specs.Measures.{difference_of_operators}
use Rattle.ct_ore.specs.Wholes.{whole_operator}
use Rattle.ct_expr.specs.declared.expr.Expr.{Expr}
use Rattle.ct_expr.specs.declared.expr.Expr.TheVariants.{Ratio}
use Rattle.ct_expr.specs.Value.{fraction_of, is_evaluable, value_of, has_no_symbol, operator_of_polynomial, one_operator, one_value, power_from}
use Rattle.ct_expr.specs.ValueArithmetic.{Value, IsLowest, IsValue, negated, checked_plus, checked_minus, checked_times}

abbrev pub ValuesAreLowest : Type 0
ValuesAreLowest = (a : Name → Action) (x : Expr) (v : Value) → fraction_of a x ≡ Ok v → IsTrue (is_evaluable x) → IsValue v × IsLowest v

abbrev pub PolynomialsLoseNothing : Type 0
PolynomialsLoseNothing =
    (a : Name → Action) (x : Expr) (v : Operator) → value_of a x ≡ Ok v → IsTrue (has_no_symbol x) →
    v ≡ operator_of_polynomial (polynomial_at v unit)

module _ (a : Name → Action) where
  -- n times an operator
  abbrev pub scaled : ℕ → Operator → Operator
  scaled n x = product_of a (whole_operator n) x

  -- the product of n times an operator
  abbrev pub power_of_operator : ℕ → Operator → Operator
  power_of_operator zero x = one_operator
  power_of_operator (suc n) x = product_of a x (power_of_operator n x)

  -- r has the value that an operation makes of v and w, once both stand over the product of their whole numbers
  abbrev pub IsJoined : (Operator → Operator → Operator) → Value → Value → Value → Type 0
  IsJoined operation v w r =
      scaled (v.whole * w.whole) r.operator ≡ scaled r.whole (operation (scaled w.whole v.operator) (scaled v.whole w.operator))

abbrev pub SumsAreExact : Type 0
SumsAreExact =
    (a : Name → Action) (v w r : Value) → IsValue v → IsValue w → checked_plus a v w ≡ Ok r → IsJoined a sum_of_operators v w r

abbrev pub DifferencesAreExact : Type 0
DifferencesAreExact =
    (a : Name → Action) (v w r : Value) → IsValue v → IsValue w → checked_minus a v w ≡ Ok r → IsJoined a difference_of_operators v w r

abbrev pub ProductsAreExact : Type 0
ProductsAreExact =
    (a : Name → Action) (v w r : Value) → IsValue v → IsValue w → checked_times a v w ≡ Ok r →
    scaled a (v.whole * w.whole) r.operator ≡ scaled a r.whole (product_of a v.operator w.operator)

abbrev pub QuotientsAreExact : Type 0
QuotientsAreExact =
    (a : Name → Action) (n : ℤ) (d : ℕ) (v : Value) → fraction_of a (Ratio n (pos d)) ≡ Ok v → 0 < d →
    scaled a d v.operator ≡ scaled a v.whole (operator_of_polynomial (number n))

abbrev pub NegativesAreExact : Type 0
NegativesAreExact = (v r : Value) → negated v ≡ Ok r → (r.operator ≡ negative v.operator) × (r.whole ≡ v.whole)

abbrev pub PowersAreExact : Type 0
PowersAreExact =
    (a : Name → Action) (n : ℕ) (v r : Value) → IsValue v → power_from a one_value n v ≡ Ok r →
    scaled a (v.whole ^ n) r.operator ≡ scaled a r.whole (power_of_operator a n v.operator)
