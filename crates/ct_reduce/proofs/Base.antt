-- The words that proof files here take from std, from the crates below and from the definitions of this one, so that each file has one
-- list of them. What has another meaning elsewhere is named where it is used.
pub use Rattle.std.proofs.Common.{Bool, Equal, Err, Greater, IfOk, IsTrue, Less, List, MatchOption, None, Ok, Option, Ordering, Result, Some, T, []}
pub use Rattle.std.proofs.Common.{ap, append-nil, append_assoc, ap₂, arith, cond, false, get_or, inl, inr, length, map, subst, suc, sym, true, zero}
pub use Rattle.std.proofs.Common.{ℕ, ◌++◌, ◌+◌, ◌<◌, ◌↔◌, ◌∙◌, ◌∷◌, ◌≡◌, ◌≢◌, ◌⊎◌}
pub use Rattle.std.proofs.lemmas.List.{get_or-set_other, get_or-set_same, get_or_read, length-map, set-set}
pub use Rattle.std.proofs.lemmas.Result.{IfOk-weaker}
pub use Rattle.std.specs.Prelude.{refl}
pub use Rattle.ct_algebra.proofs.AppliedOperators.{multiple-multiple, multiple-no_operator, multiple-one, multiple-product_of, multiple-sum}
pub use Rattle.ct_algebra.proofs.AppliedOperators.{no_operator-product_of}
pub use Rattle.ct_algebra.proofs.LeadingTerms.{Leads-leading, leading-Leads}
pub use Rattle.ct_algebra.specs.Actions.{Action}
pub use Rattle.ct_algebra.specs.Group.{add_left_comm, neg_neg, neg_unique, zero_add}
pub use Rattle.ct_algebra.specs.Laws.Terms.{AllBelow_trans, at_below, at_head, less_is, not_zero}
pub use Rattle.ct_algebra.specs.Leading.{IsIrreducible, IsReduced, LeadingDivides, OperatorLeads, leading}
pub use Rattle.ct_algebra.specs.Membership.{IsMember, ReducesTo, Reduction}
pub use Rattle.ct_algebra.specs.Monomial.{Mono, mono_cmp, mono_tied, mono_turned, mono_turned_back, monomials, unit, ◌·◌}
pub use Rattle.ct_algebra.specs.Names.{Name}
pub use Rattle.ct_algebra.specs.Operators.{Operator, combination, multiple, negative, no_operator, operator_group, polynomial_at, product_of}
pub use Rattle.ct_algebra.specs.Operators.{product_of-sum_left, sum_of_operators, term_of}
pub use Rattle.ct_algebra.specs.Polynomial.{Polynomial, plus, plus_is, polys, polys_domain, times, times_is}
pub use Rattle.ct_algebra.specs.Ring.{mul_zero, one_mul}
unfoldable pub use Rattle.ct_algebra.specs.Sums.{at}
pub use Rattle.ct_algebra.specs.Terms.{AllBelow, IsCanonical, by_order, is_less, value_at}
pub use Rattle.ct_ore.specs.Measures.{sum_overflow}
unfoldable pub use Rattle.ct_ore.specs.Measures.{checked_difference, checked_product, checked_sum, difference_of_operators}
pub use Rattle.ct_ore.specs.Naming.{actions_of}
pub use Rattle.ct_poly.specs.Division.{quotient}
