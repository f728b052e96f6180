-- The words that proof files here take from std, from the crates below and from the definitions of this one, so that each file has one
-- list of them. What has another meaning elsewhere is named where it is used.
pub use Rattle.std.proofs.Common.{Bool, Err, IfSome, IsTrue, List, None, Ok, Option, Result, Some, [], ap, append-nil, append_assoc, ap₂, arith, cond}
pub use Rattle.std.proofs.Common.{drop, eqb, eqb-true, false, get_or, inl, inr, le-ltb, length, length-append, lt-ltb, ltb, map, not, pos, refl}
pub use Rattle.std.proofs.Common.{rules, subst, suc, sym, take, true, unsigned_abs, zero, ℕ, ℤ, ◌&&◌, ◌++◌, ◌+◌, ◌-◌, ◌<◌, ◌||◌, ◌↔◌, ◌∙◌, ◌∷◌, ◌≡◌}
pub use Rattle.std.proofs.Common.{◌≢◌, ◌≤◌, ◌⊎◌}
pub use Rattle.std.proofs.lemmas.Bool.{eqb-false, ltb-false, ltb-true}
pub use Rattle.std.proofs.lemmas.List.{get_or-append-add, get_or-drop, get_or-map, get_or-take, get_or_append_left, length-drop, length-map}
pub use Rattle.std.proofs.lemmas.List.{length-take-le, map-append}
pub use Rattle.std.proofs.lemmas.List.FromFn.{get_or-map-range_with_len, get_or-range_with_len, length-map-range_with_len, length-range_with_len}
pub use Rattle.std.proofs.lemmas.Result.{IfOk-weaker}
pub use Rattle.std.specs.List.{All, Contains, find, range_with_len}
pub use Rattle.std.specs.Option.{ok_or}
pub use Rattle.ct_algebra.specs.Monomial.{Mono, monomials, unit}
pub use Rattle.ct_algebra.specs.Polynomial.{Polynomial, coefficient, norm_of, plus, plus_is, polys, polys_domain}
unfoldable pub use Rattle.ct_algebra.specs.Polynomial.{count, norm, times}
pub use Rattle.ct_algebra.specs.Ring.{mul_zero, one_mul, zero_mul}
pub use Rattle.ct_algebra.specs.Sums.{has_none, none_of}
unfoldable pub use Rattle.ct_algebra.specs.Sums.{none}
pub use Rattle.ct_algebra.specs.WholeNumbers.{int_group}
pub use Rattle.ct_checked.proofs.Traversals.{behind, each_behind, each_length, each_means}
pub use Rattle.ct_checked.specs.Checked.{Answers, AnswersBy, both_fit, verdict_fits, verdict_ok, ◌>>=◌}
pub use Rattle.ct_checked.specs.Limits.{largest_norm}
pub use Rattle.ct_checked.specs.Traversal.{checked_each_from, checked_fold}
pub use Rattle.ct_poly.proofs.DivisionLaws.{quotient_is}
pub use Rattle.ct_poly.specs.Content.{DividesAll, DividesEach, IsContentOf, divided, greatest_up_to, primitive_form}
unfoldable pub use Rattle.ct_poly.specs.Content.{content}
pub use Rattle.ct_poly.specs.Crossing.{IsCrossQuotient, cross}
unfoldable pub use Rattle.ct_poly.specs.Crossing.{checked_cross}
pub use Rattle.ct_poly.specs.Division.{checked_quotient, value_or_none}
unfoldable pub use Rattle.ct_poly.specs.Division.{quotient}
pub use Rattle.ct_poly.specs.Measures.{product_overflow, sum_overflow}
unfoldable pub use Rattle.ct_poly.specs.Measures.{checked_minus, checked_plus, checked_times, minus}
pub use Rattle.ct_telescoping.proofs.EliminationLawProofs.{by_columns, finished}
pub use Rattle.ct_telescoping.proofs.ListParts.{contains_cases, contains_first, contains_later, contains_none}
pub use Rattle.ct_telescoping.specs.Echelon.{AreInOrder, IsEchelon, IsElimination, IsFree, IsUnused, Pivot}
pub use Rattle.ct_telescoping.specs.Elimination.{KeepsMatrix, State, Step, first_state, matrix_of}
pub use Rattle.ct_telescoping.specs.Refutation.{Isolates, Refutes}
