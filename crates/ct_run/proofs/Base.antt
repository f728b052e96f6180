-- The words that proof files here take from std, from the crates below and from the definitions of this one, so that each file has one
-- list of them. What has another meaning elsewhere is named where it is used.
pub use Rattle.std.proofs.Common.{Bool, Err, IfSome, IsTrue, List, None, Ok, Option, Result, Some, [], ap, append_assoc, arith, false, if◌then◌else◌}
pub use Rattle.std.proofs.Common.{inl, inr, length, lt-ltb, map, nat_lt, not, refl, rules, string_bytes, subst, sym, take, true, ℕ, ◌++◌, ◌+◌, ◌<◌}
pub use Rattle.std.proofs.Common.{◌↔◌, ◌∙◌, ◌∷◌, ◌≡◌, ◌≤◌}
pub use Rattle.ct_algebra.specs.Certificate.{Certificate, Summand}
pub use Rattle.ct_algebra.specs.Membership.{ReducesTo, Reduction}
pub use Rattle.ct_algebra.specs.Names.{Name, name_with}
pub use Rattle.ct_algebra.specs.Operators.{Operator}
pub use Rattle.ct_algebra.specs.Polynomial.{Polynomial}
pub use Rattle.ct_checked.proofs.Traversals.{behind, each_behind, each_length, each_means}
pub use Rattle.ct_checked.specs.Checked.{Checked, both_fit, refused_as}
pub use Rattle.ct_expr.specs.Value.{checked_polynomial, value_of}
pub use Rattle.ct_io.specs.declared.command.Command.{Command}
pub use Rattle.ct_ore.specs.Naming.{IsAlgebra, Naming, actions_of, summed_of}
pub use Rattle.ct_problem.proofs.SummedActions.{summed_act}
pub use Rattle.ct_problem.specs.ReadProblem.{Reading, definitions_of, is_empty, reading_of, too_long}
unfoldable pub use Rattle.ct_problem.specs.ReadProblem.{problem_of}
pub use Rattle.ct_problem.specs.WellFormed.{Each, IsGens, IsOperator, IsPolynomial, IsQuotient, IsReportOn}
pub use Rattle.ct_problem.specs.declared.report.Report.{Report}
pub use Rattle.ct_reduce.specs.Views.{reduction_of}
