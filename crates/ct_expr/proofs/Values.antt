-- The values of the kinds of expressions, one level at a time, and what it says of the parts that the whole can be
-- evaluated. `sum_step` and `product_step` are a turn of the loops; `evaluate` cites all of them.
use Rattle.ct_expr.proofs.Base.{◌≡◌, ℕ, ℤ, ◌<◌, ◌≤◌, Bool, List, nat_lt, nat_le, ◌∙◌, ap, sym, subst, refl, Ok, IsTrue, pos, negsuc, to_z, of_z}
use Rattle.ct_expr.proofs.Base.{FitsSigned, ◌∷◌, true, false, ◌&&◌, Option, Some, rules, arith, tests, false≢true, Name, name_with, symbol, polys}
use Rattle.ct_expr.proofs.Base.{number, name, Action, term_of, largest_norm, ◌>>=◌}
use Rattle.std.specs.Int.{w128}
use Rattle.std.proofs.lemmas.Int.{to_z-of_z, fits_signed_from_abs}
use Rattle.ct_expr.specs.declared.expr.Expr.{Expr}
use Rattle.ct_expr.specs.declared.expr.Expr.TheFolds.{fold-roll-Expr, fold_out-Summand}
use Rattle.ct_expr.specs.declared.expr.Summand.{Summand, out-Summand}
use Rattle.ct_expr.specs.ValueArithmetic.{Value, over_one}
use Rattle.ct_expr.specs.Value.{joined, multiplied, sum_from, product_from, fraction_of, value_step, sum_of_values, product_of_values, power_from}
use Rattle.ct_expr.specs.Value.{one_value, operator_of_polynomial, ratio, signed, fractions, is_evaluable, evaluable_step, is_evaluable_term}
use Rattle.ct_expr.specs.Value.{is_coefficient, is_divisor, is_ratio, fraction_of_term, all_evaluable, all_evaluable_terms}
use Rattle.ct_expr.specs.declared.expr.Expr.TheVariants as e

module _ (a : Name → Action) where
  pub fraction_of-Whole : (n : ℤ) → fraction_of a (e.Whole n) ≡ Ok (over_one (operator_of_polynomial (number n)))
  unfolding fraction_of value_step
  fraction_of-Whole n = ap (fraction_of a) (sym (e.rolls-Whole n)) ∙ fold-roll-Expr _ _ _ _ _

  pub fraction_of-Ratio : (n d : ℤ) → fraction_of a (e.Ratio n d) ≡ Ok (ratio n d)
  unfolding fraction_of value_step
  fraction_of-Ratio n d = ap (fraction_of a) (sym (e.rolls-Ratio n d)) ∙ fold-roll-Expr _ _ _ _ _

  pub fraction_of-Name : (i : ℕ) → fraction_of a (e.Name i) ≡ Ok (over_one (operator_of_polynomial (name (name_with i))))
  unfolding fraction_of value_step
  fraction_of-Name i = ap (fraction_of a) (sym (e.rolls-Name i)) ∙ fold-roll-Expr _ _ _ _ _

  pub fraction_of-Symbol : (i : ℕ) → fraction_of a (e.Symbol i) ≡ Ok (over_one (term_of (symbol (name_with i)) polys.one))
  unfolding fraction_of value_step
  fraction_of-Symbol i = ap (fraction_of a) (sym (e.rolls-Symbol i)) ∙ fold-roll-Expr _ _ _ _ _

  pub fraction_of-Sum : (terms : List Summand) → fraction_of a (e.Sum terms) ≡ sum_of_values a (signed a terms)
  unfolding fraction_of fraction_of_term value_step
  fraction_of-Sum terms = ap (fraction_of a) (sym (e.rolls-Sum terms)) ∙ fold-roll-Expr _ _ _ _ _

  pub fraction_of-Product : (factors : List Expr) → fraction_of a (e.Product factors) ≡ product_of_values a (fractions a factors)
  unfolding fraction_of value_step
  fraction_of-Product factors = ap (fraction_of a) (sym (e.rolls-Product factors)) ∙ fold-roll-Expr _ _ _ _ _

  pub fraction_of-Power : (base : Expr) (n : ℕ) → fraction_of a (e.Power base n) ≡ (fraction_of a base >>= (λ x. power_from a one_value n x))
  unfolding fraction_of value_step
  fraction_of-Power base n = ap (fraction_of a) (sym (e.rolls-Power base n)) ∙ fold-roll-Expr _ _ _ _ _

pub evaluable-Sum : (terms : List Summand) → is_evaluable (e.Sum terms) ≡ all_evaluable_terms terms
unfolding is_evaluable is_evaluable_term evaluable_step
evaluable-Sum terms = ap is_evaluable (sym (e.rolls-Sum terms)) ∙ fold-roll-Expr _ _ _ _ _

pub evaluable-Whole : (n : ℤ) → is_evaluable (e.Whole n) ≡ is_coefficient n
unfolding is_evaluable evaluable_step
evaluable-Whole n = ap is_evaluable (sym (e.rolls-Whole n)) ∙ fold-roll-Expr _ _ _ _ _

pub evaluable-Ratio : (n d : ℤ) → is_evaluable (e.Ratio n d) ≡ is_ratio n d
unfolding is_evaluable evaluable_step
evaluable-Ratio n d = ap is_evaluable (sym (e.rolls-Ratio n d)) ∙ fold-roll-Expr _ _ _ _ _

pub evaluable-Name : (i : ℕ) → is_evaluable (e.Name i) ≡ nat_lt i 6
unfolding is_evaluable evaluable_step
evaluable-Name i = ap is_evaluable (sym (e.rolls-Name i)) ∙ fold-roll-Expr _ _ _ _ _

pub evaluable-Symbol : (i : ℕ) → is_evaluable (e.Symbol i) ≡ nat_lt i 6
unfolding is_evaluable evaluable_step
evaluable-Symbol i = ap is_evaluable (sym (e.rolls-Symbol i)) ∙ fold-roll-Expr _ _ _ _ _

pub evaluable-Product : (factors : List Expr) → is_evaluable (e.Product factors) ≡ all_evaluable factors
unfolding is_evaluable evaluable_step
evaluable-Product factors = ap is_evaluable (sym (e.rolls-Product factors)) ∙ fold-roll-Expr _ _ _ _ _

pub evaluable-Power : (base : Expr) (n : ℕ) → is_evaluable (e.Power base n) ≡ is_evaluable base
unfolding is_evaluable evaluable_step
evaluable-Power base n = ap is_evaluable (sym (e.rolls-Power base n)) ∙ fold-roll-Expr _ _ _ _ _

module _ (a : Name → Action) where
  pub fraction_of_term-out : (t : Summand) → fraction_of_term a t ≡ ((out-Summand t).negative, fraction_of a (out-Summand t).expr)
  unfolding fraction_of fraction_of_term
  fraction_of_term-out t = fold_out-Summand _ _ _ _ t

pub evaluable_term-out : (t : Summand) → is_evaluable_term t ≡ is_evaluable (out-Summand t).expr
unfolding is_evaluable is_evaluable_term
evaluable_term-out t = fold_out-Summand _ _ _ _ t

pub below-Name : (i : ℕ) → IsTrue (is_evaluable (e.Name i)) → i < 6
below-Name i h = let below = subst IsTrue (evaluable-Name i) h in first_of (search (rules, tests), grind (arith, tests))

pub below-Symbol : (i : ℕ) → IsTrue (is_evaluable (e.Symbol i)) → i < 6
below-Symbol i h = let below = subst IsTrue (evaluable-Symbol i) h in first_of (search (rules, tests), grind (arith, tests))

pub both : (b c : Bool) → IsTrue (b && c) → IsTrue b × IsTrue c
both true true h = (h, h)
both true false h = absurd (false≢true h)
both false c h = absurd (false≢true h)

small_whole : (n : ℤ) → IsTrue (is_coefficient n) → FitsSigned w128 n
small_whole (pos n) h = let within : n ≤ largest_norm = search (rules, tests) in fits_signed_from_abs w128 (pos n) (omega (arith, within))
small_whole (negsuc n) h = absurd (false≢true h)

pub same_whole : (n : ℤ) → IsTrue (is_coefficient n) → to_z w128 (of_z w128 n) ≡ n
same_whole n h = to_z-of_z w128 n (small_whole n h)

pub whole_fits : (n : ℤ) → IsTrue (is_evaluable (e.Whole n)) → IsTrue (is_coefficient (to_z w128 (of_z w128 n)))
whole_fits n h = let fits = subst IsTrue (evaluable-Whole n) h in rw (same_whole n fits) fits

module _ (a : Name → Action) (so_far : Option Value) where
  pub sum_step : (t : Summand) (rest : List Summand) →
      sum_from a so_far (signed a (t ∷ rest)) ≡
      (fraction_of a (out-Summand t).expr >>= (λ x. joined a so_far (out-Summand t).negative x >>= (λ more. sum_from a (Some more) (signed a rest))))
  unfolding sum_from
  sum_step t rest = ap (λ p. p.1 >>= (λ x. joined a so_far p.0 x >>= (λ more. sum_from a (Some more) (signed a rest)))) (fraction_of_term-out a t)

  pub product_step : (f : Expr) (rest : List Expr) →
      product_from a so_far (fractions a (f ∷ rest)) ≡
      (fraction_of a f >>= (λ x. multiplied a so_far x >>= (λ more. product_from a (Some more) (fractions a rest))))
  unfolding product_from
  product_step f rest = refl

small_divisor : (d : ℤ) → IsTrue (is_divisor d) → IsTrue (is_coefficient d)
small_divisor (pos d) h = (both (nat_lt 0 d) (nat_le d largest_norm) h).1
small_divisor (negsuc d) h = absurd (false≢true h)

pub same_ratio : (n d : ℤ) → IsTrue (is_ratio n d) → (to_z w128 (of_z w128 n) ≡ n) × (to_z w128 (of_z w128 d) ≡ d)
same_ratio n d h = let parts = both (is_coefficient n) (is_divisor d) h in (same_whole n parts.0, same_whole d (small_divisor d parts.1))

pub ratio_fits : (n d : ℤ) → IsTrue (is_evaluable (e.Ratio n d)) → IsTrue (is_ratio (to_z w128 (of_z w128 n)) (to_z w128 (of_z w128 d)))
ratio_fits n d h = let fits = subst IsTrue (evaluable-Ratio n d) h in let same = same_ratio n d fits in rw (same.0, same.1) fits

pub first_evaluable : (f : Expr) (rest : List Expr) → IsTrue (all_evaluable (f ∷ rest)) → IsTrue (is_evaluable f) × IsTrue (all_evaluable rest)
first_evaluable f rest h = both (is_evaluable f) (all_evaluable rest) h

pub first_evaluable_term : (t : Summand) (rest : List Summand) → IsTrue (all_evaluable_terms (t ∷ rest)) →
    IsTrue (is_evaluable (out-Summand t).expr) × IsTrue (all_evaluable_terms rest)
first_evaluable_term t rest h = let parts = both (is_evaluable_term t) (all_evaluable_terms rest) h in
    (subst IsTrue (evaluable_term-out t) parts.0, parts.1)
