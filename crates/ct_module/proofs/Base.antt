-- The words that proof files here take from std, from the crates below and from the definitions of this one, so that each file has one
-- list of them. What has another meaning elsewhere is named where it is used.
pub use Rattle.ct_algebra.specs.Field.{K, coefficients, field}
pub use Rattle.ct_algebra.specs.Names.{Name, name_with, place}
pub use Rattle.ct_algebra.specs.Polynomial.{Polynomial, polys, polys_domain}
pub use Rattle.ct_checked.proofs.Traversals.{behind, each_behind, each_length}
pub use Rattle.ct_checked.specs.Checked.{Answers, AnswersBy, Checked, both_fit, ◌>>=◌}
pub use Rattle.ct_checked.specs.Traversal.{checked_each, checked_each_from, checked_fold}
pub use Rattle.ct_mono.proofs.ExponentLaws.{place-name_with}
pub use Rattle.ct_ore.specs.Naming.{actions_of}
pub use Rattle.std.proofs.Common.{Bool, Err, IfOk, IsTrue, List, None, Ok, Option, Result, Some, [], ap, append-nil, append_assoc, ap₂, arith, cond}
pub use Rattle.std.proofs.Common.{drop, eqb, false, get_or, inl, inr, length, length-append, ltb, map, max, pos, refl, rules, subst, suc, sym, true}
pub use Rattle.std.proofs.Common.{zero, ℕ, ◌++◌, ◌+◌, ◌-◌, ◌<◌, ◌||◌, ◌↔◌, ◌∙◌, ◌∷◌, ◌≡◌, ◌≢◌, ◌≤◌, ◌⊎◌}
pub use Rattle.std.proofs.lemmas.List.{get_or-append-add, get_or_append_left, get_or_default}
pub use Rattle.std.proofs.lemmas.List.FromFn.{length-range_with_len}
pub use Rattle.std.proofs.lemmas.Result.{IfOk-weaker}
pub use Rattle.std.specs.List.{All, Contains, filter, flat_map, list_any, range_with_len, zip}

-- nothing is left of a list without length
pub empty_of_length : {X : Type 0} (xs : List X) → length xs ≡ 0 → xs ≡ []
empty_of_length [] none = refl
empty_of_length (x ∷ xs) none = absurd (omega (arith, none))
