-- The words that proof files here take from std, from the crates below and from the definitions of this one, so that each file has one
-- list of them. What has another meaning elsewhere is named where it is used.
pub use Rattle.std.proofs.Common.{Bool, Err, FitsSigned, IfOk, IsTrue, List, None, Ok, Option, Result, Some, [], ap, ap₂, arith, drop, drop-cons}
pub use Rattle.std.proofs.Common.{false, get_or, length, map, mul-pos, nat_le, nat_lt, negsuc, of_z, pos, refl, rules, subst, suc, sym, tests, to_z}
pub use Rattle.std.proofs.Common.{true, unsigned_abs, zero, ℕ, ℤ, ◌&&◌, ◌*◌, ◌+◌, ◌-◌, ◌/◌, ◌<◌, ◌^◌, ◌∙◌, ◌∷◌, ◌≡◌, ◌≤◌}
pub use Rattle.std.proofs.Math.Nat.{div-mul_cancel, eq-one_of_dvd-one, eq_of_mul-eq-mul_right, le-mul_of_pos_right, pos_of_ne-zero, pow-succ'}
pub use Rattle.std.proofs.Math.Nat.{pow-zero}
pub use Rattle.std.proofs.lemmas.Bool.{false≢true}
pub use Rattle.std.proofs.lemmas.List.{drop_all}
pub use Rattle.ct_algebra.proofs.OperatorTerms.{at-term_of, negatives_are, none_is, pick-other, pick-same, sums_are, term_of-sum, term_of-zero}
pub use Rattle.ct_algebra.proofs.OperatorTerms.{term_of_hom}
pub use Rattle.ct_algebra.proofs.ProductRule.{multiple-term_of, one-product_of, product_of-polynomial}
pub use Rattle.ct_algebra.specs.Actions.{Action}
pub use Rattle.ct_algebra.specs.Group.{hom_neg, zero_add}
pub use Rattle.ct_algebra.specs.Monomial.{Mono, monomials, unit}
pub use Rattle.ct_algebra.specs.Names.{Name, name_with, symbol}
pub use Rattle.ct_algebra.specs.Operators.{Operator, negative, no_operator, operator_group, operator_of, polynomial_at, product_of, product_of_assoc}
pub use Rattle.ct_algebra.specs.Operators.{sum_of_operators, term_of}
pub use Rattle.ct_algebra.specs.Polynomial.{Polynomial, coefficient, polys, polys_domain, times, times_is}
pub use Rattle.ct_algebra.specs.Substitution.{name, number, number_is, one_is}
pub use Rattle.ct_checked.specs.Checked.{Answers, Checked, both_fit, verdict_ok, ◌>>=◌}
pub use Rattle.ct_checked.specs.Limits.{largest_norm}
unfoldable pub use Rattle.ct_int.specs.Divisors.{greatest_common, least_common}
pub use Rattle.ct_mono.specs.Equal.{mono_eq, mono_eq_decides}
pub use Rattle.ct_ore.proofs.WholeLaws.{scaled, scaled-sum, scaled_quotient, scaled_twice}
pub use Rattle.ct_ore.specs.Measures.{term_norm}
unfoldable pub use Rattle.ct_ore.specs.Measures.{checked_difference, checked_product, checked_sum, difference_of_operators}
pub use Rattle.ct_ore.specs.Naming.{actions_of}
pub use Rattle.ct_ore.specs.Wholes.{DividesOperator, common_divisor, entry_over, whole_operator}
unfoldable pub use Rattle.ct_ore.specs.Wholes.{checked_multiple, over_whole}
pub use Rattle.ct_poly.proofs.WholeLimits.{whole_fits, whole_ok}
pub use Rattle.ct_poly.specs.Wholes.{checked_whole}
