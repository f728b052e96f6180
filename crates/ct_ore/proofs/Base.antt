-- The words that proof files here take from std, from the crates below and from the definitions of this one, so that each file has one
-- list of them. What has another meaning elsewhere is named where it is used.
pub use Rattle.std.proofs.Common.{Bool, Equal, Err, FitsSigned, Greater, IsTrue, Less, List, MatchOption, None, Ok, Option, Ordering, Some, T, []}
pub use Rattle.std.proofs.Common.{add-one, ap, append-nil, append_assoc, ap₂, arith, cond, drop, eq-eqb, eq-or-lt_of_le, eqb, eqb-true, false}
pub use Rattle.std.proofs.Common.{flat_map, get_or, inl, inr, le-ltb, length, length-append, lit<, lit≤, lt-ltb, ltb, ltb-false, ltb-true, map, max}
pub use Rattle.std.proofs.Common.{min, mul-le-mul_left, mul-one, mul-pos, mul-zero, nat_abs, ne_eqb, neg_ℤ, negsuc, option_to_list, pos, pow-suc}
pub use Rattle.std.proofs.Common.{refl, rules, slice_get, subst, subst₂, suc, sum_by, sym, take, to_z, true, zero, zero-mul, ℕ, ℤ, ◌%◌, ◌*ℤ◌, ◌*◌}
pub use Rattle.std.proofs.Common.{◌++◌, ◌+ℤ◌, ◌+◌, ◌-◌, ◌/◌, ◌<◌, ◌^◌, ◌↔◌, ◌∙◌, ◌∷◌, ◌≡◌, ◌≢◌, ◌≤◌, ◌⊎◌}
pub use Rattle.std.proofs.Math.Nat.{div-mul_cancel, dvd_of_mul-dvd-mul_right, eq-one_of_dvd-one, eq-zero_of_zero-dvd, mul-dvd-mul_right, one-dvd}
pub use Rattle.std.proofs.Math.Nat.{one-mul, pos_of_ne-zero, pow-zero}
pub use Rattle.std.proofs.lemmas.Grind.{common_steps}
pub use Rattle.std.proofs.lemmas.Int.{to_z-of_z, to_z_pos, unsigned_abs-mul}
pub use Rattle.std.proofs.lemmas.List.Concat.{flat_map-append, length-flat_map}
pub use Rattle.std.proofs.lemmas.List.Sums.{get_or-le-sum_by, sum_by-append, sum_by-cons, sum_by-le-sum_by, sum_by_push}
pub use Rattle.std.proofs.lemmas.Nat.Gcd.{dvd_refl, dvd_trans, le_of_dvd}
pub use Rattle.std.specs.Int.{IsGcd, w128, ◌∣◌}
pub use Rattle.std.specs.Ordering.{ordering_then}
pub use Rattle.std.specs.Vec.Iter.{into_iter_items, into_iter_len}
pub use Rattle.ct_algebra.proofs.Merging.{back_canonical, behind, front_canonical, sum_over-append}
pub use Rattle.ct_algebra.proofs.OperatorTerms.{at-term_of, negatives_are, none_is, sums_are, term_of-single, term_of-zero, term_of_hom}
pub use Rattle.ct_algebra.proofs.ProductRule.{multiple-term_of, one-product_of, operator_module, product_of-polynomial, product_of-term_of}
pub use Rattle.ct_algebra.proofs.ProductRule.{symbol_before-term_of, symbols_commute}
pub use Rattle.ct_algebra.specs.Actions.{Action, Derive, Shift, Still, by_action, delta_by, one_step, sigma_by}
pub use Rattle.ct_algebra.specs.Group.{Group, IsHom, hom_zero, neg_neg, neg_zero, none_added, swap_sum, zero_add}
pub use Rattle.ct_algebra.specs.Laws.RangeSums.{hom-sum_below, mul-sum_below, sum_below-same}
pub use Rattle.ct_algebra.specs.Laws.Terms.{IsAdditive, IsCanonical-merged, less_is, pick-IsAdditive, same_list, sum_over-merged}
pub use Rattle.ct_algebra.specs.Monomial.{Mono, exp-mono, exp-unit, exp-·, mono_cmp, mono_ordered, mono_same, mono_tied, mono_turned_back, monomials}
pub use Rattle.ct_algebra.specs.Monomial.{same_mono, sum_six, total-·, ·-unit, ·_comm, ◌·◌}
unfoldable pub use Rattle.ct_algebra.specs.Monomial.{exp, mono, total, unit}
pub use Rattle.ct_algebra.specs.Names.{Name, exp-symbol, name_with, place, place_small, power, power_symbol, power_unit, symbol, times_over}
pub use Rattle.ct_algebra.specs.Operators.{Operator, combination, operator_group, operator_set, product_of, product_of-sum, product_of-sum_left}
pub use Rattle.ct_algebra.specs.Operators.{product_of_assoc}
unfoldable pub use Rattle.ct_algebra.specs.Operators.{multiple, negative, no_operator, operator_of, sum_of_operators, symbol_before, term_of}
pub use Rattle.ct_algebra.specs.Polynomial.{Polynomial, degree_greatest, degree_of, norm_of, plus_is, poly_set, polys, terms-poly_of, times, times_is}
unfoldable pub use Rattle.ct_algebra.specs.Polynomial.{count, degree, norm, plus}
pub use Rattle.ct_algebra.specs.RangeSum.{sum_below}
pub use Rattle.ct_algebra.specs.Substitution.{IsRingHom, P, name, name_is, number, number-*, number-sum, number_is, one_is, shift, shift-name}
pub use Rattle.ct_algebra.specs.Substitution.{shift_ring_hom, term, term-*, term-sum, term_is, times_one}
pub use Rattle.ct_algebra.specs.Sums.{EachTerm-single, EachTerm-⊕, at, at-none, at-single, at-⊕, has_none, lift-single, lift-⊕, none_of, same_hom}
pub use Rattle.ct_algebra.specs.Sums.{same_terms}
unfoldable pub use Rattle.ct_algebra.specs.Sums.{lift, negated, none, single, sum_of, ◌⊕◌}
pub use Rattle.ct_algebra.specs.Terms.{AllBelow, EachTerm, EachTerm-weaker, IsCanonical, by_order, insert, is_less, keep, merged, pick, sum_over}
pub use Rattle.ct_algebra.specs.Terms.{value_at}
pub use Rattle.ct_algebra.specs.WholeNumbers.{int_group, int_is_zero, times_plus}
pub use Rattle.ct_checked.specs.Checked.{Answers, both_fit, verdict_fits, verdict_ok, verdict_refuses, ◌>>=◌}
unfoldable pub use Rattle.ct_checked.specs.Checked.{verdict}
pub use Rattle.ct_checked.specs.Limits.{largest_degree, largest_norm, most_terms}
pub use Rattle.ct_checked.specs.declared.fault.Kind.{Kind}
pub use Rattle.ct_checked.specs.declared.fault.Kind.TheVariants.{Degree, Number, Terms}
pub use Rattle.ct_mono.proofs.ExponentLaws.{exp-with_exponent, exp-with_exponent_other, exp-with_exponent_same, total-unit, total-with_exponent}
pub use Rattle.ct_mono.specs.Exponents.{with_exponent}
pub use Rattle.ct_poly.proofs.Merging.{IsSumList, both_met, first_ended, first_taken, has_room, merging_start, no_longer, second_ended, second_taken}
pub use Rattle.ct_poly.proofs.Merging.{sum_gone, sum_kept}
pub use Rattle.ct_poly.proofs.TermLists.{abs_sum, entries-append, no_length, place-name_with, poly_of-single}
pub use Rattle.ct_poly.proofs.WholeDivisors.{divided_by_one, divides_negative, each_divides}
pub use Rattle.ct_poly.proofs.Within.{sums_within}
pub use Rattle.ct_poly.specs.Content.{DividesAll, DividesEach, IsContentOf, content, divided}
pub use Rattle.ct_poly.specs.Measures.{broken}
unfoldable pub use Rattle.ct_poly.specs.Measures.{sum_overflow}
pub use Rattle.ct_poly.specs.Terms.{IsFalling, entries}
pub use Rattle.ct_poly.specs.declared.term.Term.{Term}
