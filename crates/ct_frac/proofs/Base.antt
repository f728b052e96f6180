-- The words that proof files here take from std, from the crates below and from the definitions of this one, so that each file has one
-- list of them. What has another meaning elsewhere is named where it is used.
pub use Rattle.std.proofs.Common.{Bool, Equal, Err, Greater, IfOk, IsTrue, Less, List, None, Ok, Option, Ordering, Result, Some, T, [], ap, ap₂}
pub use Rattle.std.proofs.Common.{arith, cond, eq-eqb, eqb, eqb-true, false, inl, inr, int_div, length, ltb, map, max, neg_ℤ, negsuc, pos, rules}
pub use Rattle.std.proofs.Common.{slice_index_or, slice_set, subst, suc, sym, take, true, unsigned_abs, zero, ℕ, ℤ, ◌*ℤ◌, ◌*◌, ◌++◌, ◌+ℤ◌, ◌+◌, ◌-◌}
pub use Rattle.std.proofs.Common.{◌/◌, ◌<◌, ◌||◌, ◌↔◌, ◌∙◌, ◌∷◌, ◌≡◌, ◌≢◌, ◌≤◌, ◌⊎◌}
pub use Rattle.std.proofs.Math.Nat.{div-le_self, div-mul_cancel, dvd-mul_right, dvd_of_mul-dvd-mul_right, eq-one_of_dvd-one, eq-zero_of_zero-dvd}
pub use Rattle.std.proofs.Math.Nat.{le-mul_of_pos_right, mul-dvd-mul_right, one-dvd, one-mul, pos_of_ne-zero}
pub use Rattle.std.proofs.lemmas.Grind.{common_steps}
pub use Rattle.std.proofs.lemmas.Int.{ints, unsigned_abs-mul}
pub use Rattle.std.proofs.lemmas.List.{append-nil, append_assoc}
pub use Rattle.std.proofs.lemmas.Nat.Gcd.{dvd_antisymm, dvd_refl, dvd_trans}
pub use Rattle.std.proofs.lemmas.Result.{IfOk-weaker}
pub use Rattle.std.specs.Int.{IsGcd, ◌∣◌}
pub use Rattle.std.specs.List.{insert, list_any}
pub use Rattle.std.specs.Ordering.{ordering_reverse}
pub use Rattle.std.specs.Prelude.{refl}
pub use Rattle.ct_algebra.proofs.FieldLawProofs.{fractions}
pub use Rattle.ct_algebra.specs.Actions.{Action, Derive, Shift, delta_by, sigma, sigma_by}
pub use Rattle.ct_algebra.specs.Derivative.{derived, derived-*, zero_term}
pub use Rattle.ct_algebra.specs.Field.{K, coefficients, field, plain}
pub use Rattle.ct_algebra.specs.FieldLaws.{embedded, value_of}
pub use Rattle.ct_algebra.specs.Group.{hom_zero, neg_neg, neg_sum, neg_unique, neg_zero}
pub use Rattle.ct_algebra.specs.Laws.Derivations.{derived-number}
pub use Rattle.ct_algebra.specs.Laws.Terms.{AllBelow_trans, at_below, at_head, less_is, not_zero, same_list}
pub use Rattle.ct_algebra.specs.Leading.{Leads, leading}
pub use Rattle.ct_algebra.specs.Monomial.{Mono, exp-mono, exp-unit, exp-·, mono-exp, mono_same, monomials, same_mono, sum_six, ·-unit, ·_comm, ◌·◌}
unfoldable pub use Rattle.ct_algebra.specs.Monomial.{exp, graded, mono, mono_cmp, total, unit}
pub use Rattle.ct_algebra.specs.Names.{Name, by_symbols, exp-symbol, name_with, place, x0, x1, x2, x3, x4, x5}
unfoldable pub use Rattle.ct_algebra.specs.Names.{symbol}
pub use Rattle.ct_algebra.specs.Polynomial.{Polynomial, coefficient, degree_greatest, degree_of, norm, plus_is, poly_of, polys, polys_domain}
pub use Rattle.ct_algebra.specs.Polynomial.{terms-poly_of, times_assoc, times_is}
unfoldable pub use Rattle.ct_algebra.specs.Polynomial.{degree, plus, times}
pub use Rattle.ct_algebra.specs.Ring.{mul_zero, neg_mul, one_mul, zero_mul}
pub use Rattle.ct_algebra.specs.RingTactic.{linear1, reify, ring2, ring4, ring5, ring6, ring8}
pub use Rattle.ct_algebra.specs.Substitution.{P, name, name_is, number, number-*, number-sum, number_is, one_is, shift, shift-name, shift_ring_hom}
pub use Rattle.ct_algebra.specs.Substitution.{symbol_term, term, term-*, term-sum, term_is, times_one}
pub use Rattle.ct_algebra.specs.Sums.{EachTerm-single, at-negated, at-⊕, has_none, none_of, same_terms}
unfoldable pub use Rattle.ct_algebra.specs.Sums.{at, none, single}
pub use Rattle.ct_algebra.specs.Terms.{AllBelow, EachTerm, IsCanonical, by_order, is_less, pick, value_at}
pub use Rattle.ct_algebra.specs.WholeNumbers.{int_group, int_is_zero, plus_zero}
pub use Rattle.ct_checked.specs.Checked.{Answers, AnswersBy, Checked, both_fit, verdict_ok, ◌>>=◌}
pub use Rattle.ct_checked.specs.Limits.{largest_degree, largest_norm}
pub use Rattle.ct_int.specs.Divisors.{greatest_common, least_common}
pub use Rattle.ct_poly.proofs.Contents.{content_is, content_only, content_small}
pub use Rattle.ct_poly.proofs.WholeLimits.{Kept, fits, kept, passes, whole_ok}
pub use Rattle.ct_poly.specs.Content.{DividesAll, IsContentOf, TermDivides, content, divided, is_below_zero, leads_below_zero, least_exp}
pub use Rattle.ct_poly.specs.Content.{primitive_part, signed}
unfoldable pub use Rattle.ct_poly.specs.Content.{common_monomial, is_negative, signed_content}
pub use Rattle.ct_poly.specs.Measures.{steps}
unfoldable pub use Rattle.ct_poly.specs.Measures.{checked_derived, checked_minus, checked_plus, checked_shifted, checked_times, minus, shifted}
pub use Rattle.ct_poly.specs.Order.{poly_cmp, poly_cmp_total, poly_tied}
pub use Rattle.ct_poly.specs.Wholes.{checked_whole}
