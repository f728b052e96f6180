-- The words that proof files here take from std, from the crates below and from the definitions of this one, so that each file has one
-- list of them. What has another meaning elsewhere is named where it is used.
pub use Rattle.std.proofs.Common.{All, Bool, IfSome, List, None, Option, Some, [], ap, append-nil, append_assoc, arith, false, if◌then◌else◌, inl}
pub use Rattle.std.proofs.Common.{inr, length, length-append, length-set, map, min, nat_le, refl, replicate, reverse, rules, set, slice_get}
pub use Rattle.std.proofs.Common.{slice_index, subst, suc, sym, take, true, vec_len, zero, ℕ, ⊎_elim, ◌%◌, ◌++◌, ◌+◌, ◌-◌, ◌<◌, ◌==◌, ◌^◌, ◌∙◌, ◌∷◌}
pub use Rattle.std.proofs.Common.{◌≡◌, ◌≢◌, ◌≤◌, ◌⊎◌}
pub use Rattle.std.proofs.lemmas.Bool.Decides.{nat_tests}
pub use Rattle.std.proofs.lemmas.List.{length-map, length-replicate, reverse-append}
pub use Rattle.atomic_table.specs.Table.{Allows, Joins, Me, Splits, State}
pub use Rattle.ct_core.proofs.Totals.{each_append, each_at, each_here, each_map, each_there, sum_below-times, sum_over-append, sum_over-below}
pub use Rattle.ct_core.specs.CompleteList.{DecidedBy, has_ended, has_hit}
pub use Rattle.ct_core.specs.Counting.{Each, once_below, one_if, sum_below, sum_over, times}
pub use Rattle.ct_core.specs.Kept.{Fits, Kept, Reaches, list_of}
pub use Rattle.ct_core.specs.Machine.{Sight, fresh}
pub use Rattle.ct_core.specs.Steps.{is_legal, least_with, may_end, none_or, some_and, view_after}
pub use Rattle.ct_core.specs.declared.event.Event.TheVariants.{Claim, Hit, Look, Refuse}
