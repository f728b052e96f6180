-- The words that proof files here take from std and from the crates below, so that each file has one list of them.
pub use Rattle.std.proofs.Common.{Bool, Err, IsTrue, List, None, Ok, Option, Result, Some, [], ap, ap₂, arith, false, get_or, length}
pub use Rattle.std.proofs.Common.{map, not, refl, slice_get, string_bytes, subst, suc, sym, take, true, zero, ℕ, ◌&&◌, ◌++◌, ◌+◌, ◌-◌, ◌<◌, ◌∙◌, ◌∷◌}
pub use Rattle.std.proofs.Common.{◌≡◌, ◌≢◌, ◌≤◌, ◌↔◌}
pub use Rattle.std.proofs.lemmas.Bool.{false≢true}
pub use Rattle.std.proofs.lemmas.Grind.{common_steps}
pub use Rattle.std.proofs.lemmas.List.{length-map, map-append, take_all, take_more}
pub use Rattle.std.specs.List.{All, Contains}
pub use Rattle.ct_algebra.specs.Actions.{Action, Still}
pub use Rattle.ct_algebra.specs.FreeOf.{IsOver}
pub use Rattle.ct_algebra.specs.Monomial.{Mono, monomials, unit}
pub use Rattle.ct_algebra.specs.Names.{Name, name_with, place, symbol}
pub use Rattle.ct_algebra.specs.Operators.{Operator, multiple, negative, polynomial_at, product_of, sum_of_operators, term_of}
unfoldable pub use Rattle.ct_algebra.specs.Operators.{no_operator}
pub use Rattle.ct_algebra.specs.Polynomial.{Polynomial, polys, times}
pub use Rattle.ct_algebra.specs.Terms.{EachTerm}
pub use Rattle.ct_checked.proofs.Traversals.{behind, each_behind, each_length, each_means}
pub use Rattle.ct_checked.specs.Checked.{Checked, both_fit, refused_as, ◌>>=◌}
pub use Rattle.ct_checked.specs.Traversal.{checked_each_from}
pub use Rattle.ct_expr.specs.Value.{checked_polynomial, value_of}
pub use Rattle.ct_expr.specs.declared.expr.Expr.{Expr}
pub use Rattle.ct_ore.specs.Naming.{IsAlgebra, Naming, actions_of, namings_of}
pub use Rattle.ct_problem.specs.ReadProblem.{definitions_of, is_empty}
pub use Rattle.ct_problem.specs.WellFormed.{Each, IsOperator, IsPolynomial}
pub use Rattle.std.specs.Prelude.{if◌then◌else◌}
pub use Rattle.ct_setup.specs.Setup.{read_as}
