-- The words that proof files here take from std, from the crates below and from the definitions of this one, so that each file has one
-- list of them. What has another meaning elsewhere is named where it is used.
pub use Rattle.std.proofs.Common.{Bool, Equal, Greater, Less, List, None, Option, Ordering, Some, [], ap, ap₂, arith, cond, eq-eqb, eq-or-lt_of_le}
pub use Rattle.std.proofs.Common.{eqb, eqb-true, false, get_or, inl, inr, length, lit<, map, ne_eqb, pos, refl, subst, suc, sym, true, zero, ℕ, ℤ}
pub use Rattle.std.proofs.Common.{◌*ℤ◌, ◌++◌, ◌+◌, ◌-◌, ◌<◌, ◌∙◌, ◌∷◌, ◌≡◌, ◌≢◌, ◌≤◌, ◌⊎◌}
pub use Rattle.std.proofs.lemmas.List.{get_or-append_right, get_or_append_left, get_or_default}
pub use Rattle.std.proofs.lemmas.List.Elements.{All-cons, All-contains_itself, All-get_or, All-head, All-map, All-nil, All-tail, All-weaker}
pub use Rattle.std.proofs.lemmas.List.Elements.{Contains-append_cases, Contains-append_left, Contains-append_right, Contains-get_or, Contains-push}
pub use Rattle.std.proofs.lemmas.List.Elements.{Contains-push_cases}
pub use Rattle.std.specs.List.{All, Contains, filter, flat_map}
pub use Rattle.ct_algebra.proofs.AppliedOperators.{apply-combination, apply-multiple, apply-negative, apply-no_operator, apply-on_sum, apply-on_zero}
pub use Rattle.ct_algebra.proofs.AppliedOperators.{apply-sum, apply-term_of, apply_hom, multiple-multiple, multiple-no_operator, multiple-one}
pub use Rattle.ct_algebra.proofs.AppliedOperators.{multiple-sum}
pub use Rattle.ct_algebra.proofs.CoefficientLawProofs.{chosen_of, coefficients_in_names, inside_whole, inside_within, one_of, term_in-same}
pub use Rattle.ct_algebra.proofs.CoefficientLaws.{coefficient_in-free, coefficient_in-product, coefficient_in-sum, coefficient_in-term}
pub use Rattle.ct_algebra.proofs.CoefficientLaws.{coefficient_in_hom, free-sum, free_zero, outside-inside}
pub use Rattle.ct_algebra.proofs.ModuleLaws.{scale-neg, scale-scale, scale-zero, scale-zero_value, scale_hom}
pub use Rattle.ct_algebra.proofs.MonomialLists.{cmp-other, same_or_other}
pub use Rattle.ct_algebra.proofs.OperatorTerms.{at-term_of, negatives_are, none_is, pick-other, pick-same, sums_are, term_of-single, term_of-sum}
pub use Rattle.ct_algebra.proofs.OperatorTerms.{term_of-zero, term_of_hom}
pub use Rattle.ct_algebra.proofs.ShiftedLeading.{shifted_leads}
pub use Rattle.ct_algebra.proofs.TermLawProofs.{by_values, each_at}
pub use Rattle.ct_algebra.specs.Actions.{Action, Derive, Shift, Still, by_action, delta, delta_by, polynomials, sigma}
pub use Rattle.ct_algebra.specs.Certificate.{Certificate, IsRelation, Summand, difference_denominator, differences}
pub use Rattle.ct_algebra.specs.Coefficients.{coefficient_in, is_chosen}
unfoldable pub use Rattle.ct_algebra.specs.Coefficients.{inside, outside}
pub use Rattle.ct_algebra.specs.Division.{embed-product, embed-sum, embed_injective, embed_nonzero, fractions_domain, inverse, mul-inverse}
pub use Rattle.ct_algebra.specs.Domain.{IsDomain, mul_cancel, product_nonzero, zero_factor}
pub use Rattle.ct_algebra.specs.Field.{K, coefficients, field, plain}
pub use Rattle.ct_algebra.specs.Fractions.{embed, fraction_set, same_maps}
pub use Rattle.ct_algebra.specs.FreeOf.{EachName, IsFreeOf, IsFreeOfAll, IsOver, IsWithout, OperatorIsFreeOf}
pub use Rattle.ct_algebra.specs.Group.{Group, IsHom, cancel, comp_hom, hom_neg, hom_zero, neg_add, neg_neg, neg_sum, neg_unique, neg_zero, swap_sum}
pub use Rattle.ct_algebra.specs.Group.{zero_add}
pub use Rattle.ct_algebra.specs.Laws.RangeSums.{hom-sum_below, mul-sum_below, sum_below-same}
pub use Rattle.ct_algebra.specs.Laws.Terms.{less_is, not_zero}
pub use Rattle.ct_algebra.specs.Leading.{IsIrreducible, LeadingDivides, OperatorLeads}
pub use Rattle.ct_algebra.specs.Monomial.{Mono, exp, exp-mono, exp-unit, exp-·, less_of_total, mono_cmp, mono_same, mono_tied, mono_turned_back}
pub use Rattle.ct_algebra.specs.Monomial.{monomials, same_mono, total-·, total_of_less, ·-unit, ·_assoc, ·_comm, ◌·◌}
unfoldable pub use Rattle.ct_algebra.specs.Monomial.{mono, total, unit}
pub use Rattle.ct_algebra.specs.Names.{Name, by_symbols, exp-symbol, place, place_small, power, power-symbol, power_symbol, power_unit, same_place}
pub use Rattle.ct_algebra.specs.Names.{times_over, x0, x1, x2, x3, x4, x5}
unfoldable pub use Rattle.ct_algebra.specs.Names.{symbol}
pub use Rattle.ct_algebra.specs.Operators.{EachKills, Kills, Operator, apply-product_of, combination, multiple, operator_group, operator_of}
pub use Rattle.ct_algebra.specs.Operators.{operator_set, polynomial_at, product_of, product_of-sum, symbol_before, term_of}
unfoldable pub use Rattle.ct_algebra.specs.Operators.{apply, no_operator, sum_of_operators}
pub use Rattle.ct_algebra.specs.Ore.{Module, Ore, δ_one, δ_zero, σ_zero}
unfoldable pub use Rattle.ct_algebra.specs.OreAlgebra.{act}
pub use Rattle.ct_algebra.specs.Polynomial.{Polynomial, coefficient, poly_set, polys, polys_domain, times, times_assoc, times_is}
pub use Rattle.ct_algebra.specs.RangeSum.{sum_below}
pub use Rattle.ct_algebra.specs.Restriction.{restricted_cancel, scale-divided}
pub use Rattle.ct_algebra.specs.Ring.{Ring, add_mul, mul_left_comm, mul_zero, one_mul, zero_mul}
pub use Rattle.ct_algebra.specs.RingTactic.{reify, ring3, ring5}
pub use Rattle.ct_algebra.specs.Substitution.{P, number_is, one_is, term, term-*, term_is, times_one}
pub use Rattle.ct_algebra.specs.Sums.{EachTerm-single, EachTerm-⊕, at, at-negated, at-none, at-single, at-⊕, has_none, none_of, same_hom_at, same_sum}
pub use Rattle.ct_algebra.specs.Sums.{single}
unfoldable pub use Rattle.ct_algebra.specs.Sums.{lift, none}
pub use Rattle.ct_algebra.specs.Telescoping.{EachCleared, difference, over_polynomials, sum_of_differences}
pub use Rattle.ct_algebra.specs.Terms.{AllBelow, EachTerm, EachTerm-weaker, IsCanonical, by_order, sum_over}
pub use Rattle.ct_algebra.specs.WholeNumbers.{int_group}
