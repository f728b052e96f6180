-- The words that proof files here take from std and from the crates below, so that each file has one list of them.
pub use Rattle.std.proofs.Common.{Bool, Err, IfOk, Less, List, None, Ok, Option, Result, Some, [], ap, ap₂, append_assoc}
pub use Rattle.std.proofs.Common.{append-nil, arith, cond, drop, eq-eqb, eqb, eqb-true, false, get_or, inl, inr, le-ltb, length, length-append, lit<}
pub use Rattle.std.proofs.Common.{lt-ltb, ltb, map}
pub use Rattle.std.proofs.Common.{refl, subst, suc, sym, take, true, zero, ℕ, ◌++◌, ◌+◌, ◌-◌, ◌<◌, ◌∙◌, ◌∷◌, ◌≡◌, ◌≢◌, ◌≤◌, ◌⊎◌, ◌||◌, rules}
pub use Rattle.std.specs.Prelude.{if◌then◌else◌}
pub use Rattle.std.proofs.lemmas.List.{drop_all, drop_more, get_or_append_left, get_or_default, get_or_past, get_or_push, map-append}
pub use Rattle.std.proofs.lemmas.Bool.{ltb-false, ltb-true}
pub use Rattle.std.proofs.lemmas.List.Elements.{All-cons, All-filter, All-head, All-nil, All-tail, Contains-append_cases, Contains-get_or}
pub use Rattle.std.proofs.lemmas.List.Elements.{filter-append, filter_more}
pub use Rattle.std.proofs.lemmas.List.FromFn.{get_or-map-range_with_len, get_or-range_with_len, length-map-range_with_len}
pub use Rattle.std.proofs.lemmas.List.Kept.{AllPairs-filter}
pub use Rattle.std.proofs.lemmas.Option.{IfSome_then}
pub use Rattle.std.proofs.lemmas.Result.{err_from_is_err_and}
pub use Rattle.std.specs.List.{All, AllPairs, Contains, filter, range_with_len}
pub use Rattle.ct_algebra.specs.Actions.{Action, Derive, Shift, Still}
pub use Rattle.ct_algebra.specs.FreeOf.{IsWithout}
pub use Rattle.ct_algebra.specs.Leading.{IsIrreducible, LeadingDivides, OperatorLeads, leading}
pub use Rattle.ct_algebra.specs.Monomial.{Mono, exp, exp-unit, exp-·, mono_cmp, monomials, total-·, ·-unit, ·_assoc, ·_comm, ◌·◌}
unfoldable pub use Rattle.ct_algebra.specs.Monomial.{total, unit}
pub use Rattle.ct_algebra.specs.Names.{Name, by_symbols, exp-symbol, name_with, place, place_small, same_place}
unfoldable pub use Rattle.ct_algebra.specs.Names.{symbol}
pub use Rattle.ct_algebra.specs.Operators.{Operator}
unfoldable pub use Rattle.ct_algebra.specs.Operators.{no_operator}
pub use Rattle.ct_algebra.specs.Polynomial.{Polynomial, polys}
pub use Rattle.ct_algebra.specs.Sums.{has_none, none_of}
pub use Rattle.ct_checked.proofs.Traversals.{behind, each_behind, each_means}
pub use Rattle.ct_checked.specs.Checked.{Answers, AnswersAs, both_fit, ◌>>=◌}
pub use Rattle.ct_mono.proofs.ExponentLaws.{place-name_with, total-with_exponent}
pub use Rattle.ct_mono.proofs.ListPairs.{pairs_head, pairs_tail}
pub use Rattle.ct_mono.proofs.ListingLaws.{up_to-listing}
pub use Rattle.ct_mono.proofs.ListingSteps.{both_parts_on_ok, more_below}
pub use Rattle.ct_mono.specs.Division.{over_is, over_none}
unfoldable pub use Rattle.ct_mono.specs.Division.{over}
pub use Rattle.ct_mono.specs.Equal.{mono_eq, mono_eq_decides}
pub use Rattle.ct_mono.specs.Listing.{IsListing, UsesOnly, below, of_total, up_to}
pub use Rattle.ct_ore.proofs.PairMeasureLaws.{known_action, no_action}
pub use Rattle.ct_ore.specs.Naming.{actions_of, naming_of}
pub use Rattle.ct_telescoping.proofs.ListParts.{contains_cases, contains_filter, contains_filter_cases, contains_first, contains_later, contains_none}
pub use Rattle.ct_telescoping.proofs.RisingLists.{once_of_rises, total-symbol, total_unit}
pub use Rattle.ct_telescoping.proofs.MovedOver.{operators-symbol}
pub use Rattle.ct_telescoping.proofs.StaircaseGrows.{irreducible_divisor, operators_divisor}
pub use Rattle.ct_telescoping.specs.Rising.{IsListingOf, Rises}
pub use Rattle.ct_telescoping.specs.Staircase.{HasOperators}
pub use Rattle.ct_telescoping.specs.Tested.{HasPurePower, largest_staircase}
