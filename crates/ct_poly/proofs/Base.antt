-- The words that proof files here take from std, from the crates below and from the definitions of this one, so that each file has one
-- list of them. What has another meaning elsewhere is named where it is used.
pub use Rattle.std.proofs.Common.{All, Bool, Equal, Err, FitsSigned, Greater, IfOk, IfSome, IsTrue, Less, List, MatchOption, None, Ok, Option}
pub use Rattle.std.proofs.Common.{Ordering, Result, Some, T, [], ap, append-nil, append_assoc, ap₂, arith, below_more, cond, drop, eq-eqb, eqb}
pub use Rattle.std.proofs.Common.{eqb-true, eqb→eq, false, get_or, get_or-set_other, get_or-set_same, inl, inr, int_div, int_rem, is_eq, is_gt, leb}
pub use Rattle.std.proofs.Common.{leb-false, leb-true, length, length-append, ltb, ltb-false, map, max, min, mul-le-mul_left, mul-le-mul_right}
pub use Rattle.std.proofs.Common.{mul-pos, nat_abs, nat_cmp, ne_eqb, neg_ℤ, negsuc, of_z, pos, refl, replicate, rules, slice_index_or, slice_set}
pub use Rattle.std.proofs.Common.{subst, subst₂, suc, sum_by, sym, take, to_z, true, unsigned_abs, zero, ℕ, ℤ, ⊎_elim, ◌%◌, ◌&&◌, ◌*ℤ◌, ◌*◌, ◌++◌}
pub use Rattle.std.proofs.Common.{◌+ℤ◌, ◌+◌, ◌-◌, ◌/◌, ◌<◌, ◌^◌, ◌↔◌, ◌∙◌, ◌∷◌, ◌≡◌, ◌≢◌, ◌≤◌, ◌⊎◌}
pub use Rattle.std.proofs.Math.Nat.{div-mul-le_self, div-mul_cancel, dvd_of_mul-dvd-mul_right, eq-one_of_dvd-one, eq-zero_of_zero-dvd, le-min}
pub use Rattle.std.proofs.Math.Nat.{min-le_left, min-le_right, mul-dvd-mul_right, one-dvd, one-mul, pow-le-pow_right, pow-succ', pow-zero}
pub use Rattle.std.proofs.lemmas.Bool.{eqb-false, le-ltb, lt-ltb}
pub use Rattle.std.proofs.lemmas.Int.{ints, quot-rem, rem_below, to_z-of_z, to_z_pos, unsigned_abs-mul}
pub use Rattle.std.proofs.lemmas.List.Sums.{get_or-le-sum_by, sum_by-append, sum_by-cons, sum_by-set, sum_by_push}
pub use Rattle.std.proofs.lemmas.Nat.Gcd.{dvd-zero, dvd_of_mod-eq-zero, dvd_refl, dvd_trans, le_of_dvd, mod-eq-zero_of_dvd}
pub use Rattle.std.proofs.lemmas.Option.{IfSome_then}
pub use Rattle.std.proofs.lemmas.Result.{IfOk-weaker}
pub use Rattle.std.specs.Cmp.Lexicographic.{slice_cmp}
pub use Rattle.std.specs.Int.{IsGcd, w128, ◌∣◌}
pub use Rattle.ct_algebra.proofs.Merging.{back_canonical, front_canonical}
pub use Rattle.ct_algebra.proofs.TermLists.{poly_of-merged, poly_of-none, poly_of-row, row_canonical, row_of, times-append}
pub use Rattle.ct_algebra.proofs.TermProducts.{sum_of-append, sum_of-none, sum_of-one}
pub use Rattle.ct_algebra.specs.Coefficients.{inside, is_chosen, term_in}
unfoldable pub use Rattle.ct_algebra.specs.Coefficients.{coefficient_in, outside}
pub use Rattle.ct_algebra.specs.Derivative.{derived, derived-sum, derived-term, exp-lower, lower, plus_nat_is, power_at_is, zero_term}
pub use Rattle.ct_algebra.specs.Group.{Group, IsHom, hom_neg, neg_sum, none_added, zero_add}
pub use Rattle.ct_algebra.specs.Laws.Terms.{AllBelow_trans, IsCanonical-merged, at_below, at_head, less_is, not_zero}
pub use Rattle.ct_algebra.specs.Leading.{Leads, leading}
pub use Rattle.ct_algebra.specs.Monomial.{Mono, exp, exp-mono, exp-unit, exp-·, less_of_total, mono, mono_cmp, mono_ordered, mono_same, mono_tied}
pub use Rattle.ct_algebra.specs.Monomial.{mono_turned, mono_turned_back, monomials, same_mono, total, total-·, total_of_less, ·-unit, ·_assoc, ·_comm}
pub use Rattle.ct_algebra.specs.Monomial.{◌·◌}
unfoldable pub use Rattle.ct_algebra.specs.Monomial.{unit}
pub use Rattle.ct_algebra.specs.Names.{Name, by_symbols, exp-symbol, name_with, place, place_small, same_place, symbol}
pub use Rattle.ct_algebra.specs.Polynomial.{Polynomial, coefficient, degree_greatest, degree_of, norm_of, plus_is, polys, terms-poly_of, times_is}
unfoldable pub use Rattle.ct_algebra.specs.Polynomial.{count, degree, norm, plus, poly_of, times}
pub use Rattle.ct_algebra.specs.Ring.{add_mul, mul_left_comm, mul_neg, mul_zero, neg_mul, one_mul, zero_mul}
pub use Rattle.ct_algebra.specs.RingTactic.{reify, ring2, ring3, ring4}
pub use Rattle.ct_algebra.specs.Substitution.{IsRingHom, name, name_is, number, number-*, number_is, one_is, same_ring_hom, shift, shift-name}
pub use Rattle.ct_algebra.specs.Substitution.{shift_ring_hom, symbol_term, term, term-*, term-sum, term_is, times_one}
pub use Rattle.ct_algebra.specs.Sums.{EachTerm-single, EachTerm-⊕, at-negated, at-sum_of, at-⊕, has_none, none_of, same_sum, same_terms}
unfoldable pub use Rattle.ct_algebra.specs.Sums.{at, lift, negated, none, single, ◌⊕◌}
pub use Rattle.ct_algebra.specs.Terms.{AllBelow, EachTerm, EachTerm-weaker, IsCanonical, Keys, by_order, insert, is_less, keep, merged, pick}
pub use Rattle.ct_algebra.specs.Terms.{sum_over, value_at}
pub use Rattle.ct_algebra.specs.WholeNumbers.{int_domain, int_group, int_is_zero, int_ring, plus_zero, zero_is}
pub use Rattle.ct_checked.specs.Checked.{Answers, Checked, both_fit, verdict_fits, verdict_ok, verdict_refuses, ◌>>=◌}
unfoldable pub use Rattle.ct_checked.specs.Checked.{verdict}
pub use Rattle.ct_checked.specs.Limits.{largest_degree, largest_norm, most_terms}
pub use Rattle.ct_checked.specs.Loop.{Falls, run, run_done, run_is, run_keeps, run_more, run_step}
pub use Rattle.ct_checked.specs.declared.fault.Kind.{Kind}
pub use Rattle.ct_checked.specs.declared.fault.Kind.TheVariants.{Degree, Number, Terms}
pub use Rattle.ct_int.proofs.OperationLaws.{abs-neg}
pub use Rattle.ct_mono.proofs.ExponentLaws.{exp-with_exponent, exp-with_exponent_other, exp-with_exponent_same, one_exponent, total-unit}
pub use Rattle.ct_mono.proofs.ExponentLaws.{total-with_exponent}
pub use Rattle.ct_mono.specs.Division.{Divides, over, over-meaning, over-·, over_is}
pub use Rattle.ct_mono.specs.Exponents.{with_exponent}
