-- The words that proof files here take from std, from the crates below and from the definitions of this one, so that each file has one
-- list of them. What has another meaning elsewhere is named where it is used.
pub use Rattle.std.proofs.Common.{Bool, Err, IsTrue, List, Ok, OnOk, Result, Some, [], ap, ap₂, arith, false, get_or, inl, inr, length, map, not}
pub use Rattle.std.proofs.Common.{slice_get, subst, suc, sym, true, ℕ, ℤ, ◌&&◌, ◌<◌, ◌↔◌, ◌∙◌, ◌∷◌, ◌≡◌, ◌≢◌, ◌≤◌, ◌⊎◌}
pub use Rattle.std.proofs.lemmas.Bool.{eq-eqb, eqb-true}
pub use Rattle.std.proofs.lemmas.List.Elements.{All-cons, All-contains, All-head, All-nil, All-rest}
pub use Rattle.std.proofs.lemmas.Option.{IfSome_then, get_or_from_slice_get, slice_get-map}
pub use Rattle.std.proofs.lemmas.Result.{err_from_is_err_and}
pub use Rattle.std.specs.Bool.{Decides}
pub use Rattle.std.specs.List.{All, Contains}
pub use Rattle.std.specs.Prelude.{refl}
pub use Rattle.ct_algebra.specs.Actions.{Action, Derive, Shift, Still, by_action, delta, delta_by, sigma, sigma_by}
pub use Rattle.ct_algebra.specs.Certificate.{Certificate, Certifies, IsIdentity, Summand, difference_denominator, difference_numerator, differences}
pub use Rattle.ct_algebra.specs.Monomial.{Mono, exp, unit}
pub use Rattle.ct_algebra.specs.Names.{Name, name_with, place, symbol}
pub use Rattle.ct_algebra.specs.Operators.{Operator, combination, multiple, negative, operator_group, symbol_before, term_of}
unfoldable pub use Rattle.ct_algebra.specs.Operators.{no_operator, sum_of_operators}
pub use Rattle.ct_algebra.specs.Polynomial.{Polynomial, polys, times}
pub use Rattle.ct_algebra.specs.Terms.{EachTerm}
pub use Rattle.ct_checked.specs.Checked.{Answers, Checked, both_fit, verdict_ok, ◌>>=◌}
pub use Rattle.ct_mono.proofs.ExponentLaws.{place-name_with}
pub use Rattle.ct_ore.specs.Answers.{certificate_of, summand_of}
pub use Rattle.ct_ore.specs.Naming.{Naming, summed_of}
unfoldable pub use Rattle.ct_ore.specs.Naming.{actions_of}
pub use Rattle.ct_ore.specs.declared.answer.Part.{Part}
pub use Rattle.ct_poly.specs.Measures.{derivative_overflow, product_overflow, shift_overflow}
unfoldable pub use Rattle.ct_poly.specs.Measures.{checked_derived, checked_shifted, checked_times, shifted}
