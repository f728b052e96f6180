-- The values of expressions: operators over whole numbers, computed from left to right with exact overflow.
--     fraction_of a e      the value of e under the actions a, an operator over a whole number
--     value_of a e         the operator of that value, which e stands for
--     checked_polynomial a e   the same, as a polynomial: the coefficient of 1
--     has_no_symbol e      names and numbers alone
--     is_evaluable e       numbers are from 0 to the greatest coefficient, and a divisor from 1; names and symbols are below six
-- A sum is folded from its first term, which is negated where a `-` stands before it, and a product from its first factor.
-- A power is folded from 1: its base is evaluated once, also where the exponent is 0. All products are left products.
use Rattle.std.specs.Prelude.{ℕ, zero, suc, ℤ, pos, negsuc, unsigned_abs, Bool, true, false, ◌&&◌, nat_le, nat_lt, List, [], ◌∷◌, map, Option, Some, None, Ok}
use Rattle.ct_algebra.specs.Names.{Name, name_with, symbol}
use Rattle.ct_algebra.specs.Monomial.{unit}
use Rattle.ct_algebra.specs.Polynomial.{Polynomial, polys}
use Rattle.ct_algebra.specs.Substitution.{number, name}
use Rattle.ct_algebra.specs.Actions.{Action}
use Rattle.ct_algebra.specs.Operators.{Operator, no_operator, polynomial_at, term_of}
use Rattle.ct_checked.specs.Limits.{largest_norm}
use Rattle.ct_checked.specs.Checked.{Checked, ◌>>=◌}
use Rattle.ct_expr.specs.ValueArithmetic.{Value, over_one, lowest, negated, checked_plus, checked_minus, checked_times}
use Rattle.ct_expr.specs.declared.expr.Expr.{Expr}
use Rattle.ct_expr.specs.declared.expr.Summand.{Summand}
use Rattle.ct_expr.specs.declared.expr.Expr.TheFolds.{fold-Expr, fold-Summand}
use Rattle.ct_expr.specs.declared.expr.Expr.TheOpen.{Expr-F, Summand-F}

abbrev pub operator_of_polynomial : Polynomial → Operator
operator_of_polynomial p = term_of unit p

-- one as an operator, and as a value
abbrev pub one_operator : Operator
one_operator = operator_of_polynomial (number (pos 1))

abbrev pub one_value : Value
one_value = over_one one_operator

-- a quotient of whole numbers
abbrev pub ratio : ℤ → ℤ → Value
ratio n d = lowest (operator_of_polynomial (number n)) (unsigned_abs d)

-- a term of a sum: whether a `-` stands before it, and its value
abbrev pub Signed : Type 0
Signed = Bool × Checked Value

abbrev pub or_else : Value → Option Value → Value
or_else other None = other
or_else other (Some x) = x

module _ (a : Name → Action) where
  -- one more term, after the sum of those before it
  abbrev pub joined : Option Value → Bool → Value → Checked Value
  joined None true x = negated x
  joined None false x = Ok x
  joined (Some so_far) true x = checked_minus a so_far x
  joined (Some so_far) false x = checked_plus a so_far x

  unfoldable pub sum_from : Option Value → List Signed → Checked Value
  sum_from so_far [] = Ok (or_else (over_one no_operator) so_far)
  sum_from so_far (t ∷ ts) = do
    x ← t.1
    more ← joined so_far t.0 x
    sum_from (Some more) ts

  abbrev pub sum_of_values : List Signed → Checked Value
  sum_of_values ts = sum_from None ts

  -- one more factor, after the product of those before it
  abbrev pub multiplied : Option Value → Value → Checked Value
  multiplied None x = Ok x
  multiplied (Some so_far) x = checked_times a so_far x

  unfoldable pub product_from : Option Value → List (Checked Value) → Checked Value
  product_from so_far [] = Ok (or_else one_value so_far)
  product_from so_far (f ∷ fs) = do
    x ← f
    more ← multiplied so_far x
    product_from (Some more) fs

  abbrev pub product_of_values : List (Checked Value) → Checked Value
  product_of_values fs = product_from None fs

  -- n more factors of a power
  unfoldable pub power_from : Value → ℕ → Value → Checked Value
  power_from so_far zero base = Ok so_far
  power_from so_far (suc n) base = do
    more ← checked_times a so_far base
    power_from more n base

  unfoldable pub value_step : Expr-F (Checked Value) Signed → Checked Value
  value_step (Expr-F.Whole n) = Ok (over_one (operator_of_polynomial (number n)))
  value_step (Expr-F.Ratio n d) = Ok (ratio n d)
  value_step (Expr-F.Name i) = Ok (over_one (operator_of_polynomial (name (name_with i))))
  value_step (Expr-F.Symbol i) = Ok (over_one (term_of (symbol (name_with i)) polys.one))
  value_step (Expr-F.Sum terms) = sum_of_values terms
  value_step (Expr-F.Product factors) = product_of_values factors
  value_step (Expr-F.Power base n) = do
    x ← base
    power_from one_value n x

  abbrev pub signed_step : Summand-F (Checked Value) Signed → Signed
  signed_step s = (s.negative, s.expr)

  unfoldable pub fraction_of : Expr → Checked Value
  fraction_of = fold-Expr (Checked Value) Signed value_step signed_step

  -- a term's sign and value
  unfoldable pub fraction_of_term : Summand → Signed
  fraction_of_term = fold-Summand (Checked Value) Signed value_step signed_step

  abbrev pub fractions : List Expr → List (Checked Value)
  fractions factors = map fraction_of factors

  abbrev pub signed : List Summand → List Signed
  signed terms = map fraction_of_term terms

  unfoldable pub value_of : Expr → Checked Operator
  value_of e = do
    v ← fraction_of e
    Ok v.operator

  abbrev pub checked_polynomial : Expr → Checked Polynomial
  checked_polynomial e = do
    x ← value_of e
    Ok (polynomial_at x unit)

-- ---- which expressions have values

-- from 0 to the greatest coefficient
abbrev pub is_coefficient : ℤ → Bool
is_coefficient (pos n) = nat_le n largest_norm
is_coefficient (negsuc n) = false

-- from 1 to the greatest coefficient
abbrev pub is_divisor : ℤ → Bool
is_divisor (pos n) = nat_lt 0 n && nat_le n largest_norm
is_divisor (negsuc n) = false

abbrev pub is_ratio : ℤ → ℤ → Bool
is_ratio n d = is_coefficient n && is_divisor d

abbrev pub all_true : List Bool → Bool
all_true [] = true
all_true (b ∷ bs) = b && all_true bs

unfoldable pub evaluable_step : Expr-F Bool Bool → Bool
evaluable_step (Expr-F.Whole n) = is_coefficient n
evaluable_step (Expr-F.Ratio n d) = is_ratio n d
evaluable_step (Expr-F.Name i) = nat_lt i 6
evaluable_step (Expr-F.Symbol i) = nat_lt i 6
evaluable_step (Expr-F.Sum terms) = all_true terms
evaluable_step (Expr-F.Product factors) = all_true factors
evaluable_step (Expr-F.Power base n) = base

abbrev pub term_step : Summand-F Bool Bool → Bool
term_step s = s.expr

unfoldable pub is_evaluable : Expr → Bool
is_evaluable = fold-Expr Bool Bool evaluable_step term_step

unfoldable pub is_evaluable_term : Summand → Bool
is_evaluable_term = fold-Summand Bool Bool evaluable_step term_step

unfoldable pub no_symbol_step : Expr-F Bool Bool → Bool
no_symbol_step (Expr-F.Whole n) = true
no_symbol_step (Expr-F.Ratio n d) = true
no_symbol_step (Expr-F.Name i) = true
no_symbol_step (Expr-F.Symbol i) = false
no_symbol_step (Expr-F.Sum terms) = all_true terms
no_symbol_step (Expr-F.Product factors) = all_true factors
no_symbol_step (Expr-F.Power base n) = base

unfoldable pub has_no_symbol : Expr → Bool
has_no_symbol = fold-Expr Bool Bool no_symbol_step term_step

unfoldable pub has_no_symbol_term : Summand → Bool
has_no_symbol_term = fold-Summand Bool Bool no_symbol_step term_step

abbrev pub all_evaluable : List Expr → Bool
all_evaluable factors = all_true (map is_evaluable factors)

abbrev pub all_evaluable_terms : List Summand → Bool
all_evaluable_terms terms = all_true (map is_evaluable_term terms)
