-- The words that proof files here take from std and from the crates below, so that each file has one list of them.
pub use Rattle.std.proofs.Common.{List, None, Some, [], ap, ap₂, arith, eqb, false, get_or, inl, inr, length, length-append, map, refl, subst}
pub use Rattle.std.proofs.Common.{suc, sym, take, true, zero, Bool, Equal, Greater, Less, Ordering, cond, ℕ, ◌*◌, ◌++◌, ◌+◌, ◌-◌, ◌<◌, ◌∙◌, ◌∷◌}
pub use Rattle.std.proofs.Common.{◌≡◌, ◌≤◌, ◌⊎◌}
pub use Rattle.std.specs.Prelude.{slice_get, option_map, ◌/◌, ◌%◌}
pub use Rattle.std.specs.List.{Contains, filter, flat_map}
pub use Rattle.std.proofs.Math.Nat.{div-lt_iff_lt-mul, mod-lt, mul-div_cancel_left, mul-le-mul, mul-le-mul_right, mul_comm}
pub use Rattle.std.proofs.lemmas.Nat.{div-add-mod'}
pub use Rattle.std.proofs.lemmas.List.{get_or-map, length-map, length-take-le}
pub use Rattle.std.proofs.lemmas.List.Concat.{get_or-flat_map}
pub use Rattle.std.proofs.lemmas.List.Elements.{Contains-append_cases, Contains-append_left, Contains-append_right}
pub use Rattle.std.proofs.lemmas.List.FromFn.{get_or-range_with_len, length-range_with_len}
pub use Rattle.std.proofs.lemmas.Option.{slice_get-get_or, slice_get_past}
pub use Rattle.std.proofs.Common.{eq-eqb, eq-or-lt_of_le, eqb-true}
pub use Rattle.ct_algebra.proofs.CoefficientLawProofs.{chosen_of, inside_whole}
pub use Rattle.ct_algebra.specs.CoefficientLaws.{IsIn}
pub use Rattle.ct_algebra.specs.Coefficients.{is_chosen}
unfoldable pub use Rattle.ct_algebra.specs.Coefficients.{inside}
pub use Rattle.ct_algebra.specs.Monomial.{Mono, exp, exp-mono, exp-unit, exp-·, mono_cmp, mono_tied, same_mono, total-·, ◌·◌}
unfoldable pub use Rattle.ct_algebra.specs.Monomial.{mono, total, unit}
pub use Rattle.ct_algebra.specs.Names.{Name, exp-symbol, place, place_small, same_place, x0, x1, x2, x3, x4, x5}
unfoldable pub use Rattle.ct_algebra.specs.Names.{symbol}
pub use Rattle.ct_algebra.specs.Terms.{by_order}
pub use Rattle.ct_telescoping.proofs.ListParts.{contains_cases, contains_filter_cases, contains_first, contains_later, contains_map}
pub use Rattle.ct_telescoping.proofs.ListParts.{contains_map_cases}
pub use Rattle.ct_telescoping.proofs.ListParts.{contains_none, once_append, once_map}
pub use Rattle.ct_telescoping.proofs.NamesIn.{monomials_in-listing}
pub use Rattle.ct_telescoping.proofs.RisingLists.{contains_rising, listing_unique, rises_rising, rising_contains, total-symbol, total_unit}
pub use Rattle.ct_telescoping.proofs.RisingLists.{total_within}
pub use Rattle.ct_telescoping.specs.Columns.{OfMonomial, OfSummand, certificate_columns, columns_of_name, free_names}
pub use Rattle.ct_telescoping.specs.Columns.{is_free_name, monomials_in}
pub use Rattle.ct_telescoping.specs.Rising.{IsOnce, all_names, insert_rising, rising}
