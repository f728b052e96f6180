-- The words that proof files here take from std, from the crates below and from the definitions of this one, so that each file has one
-- list of them. What has another meaning elsewhere is named where it is used.
pub use Rattle.std.proofs.Common.{Bool, Err, IsTrue, List, None, Ok, Option, Some, T, [], ap, append_assoc, ap₂, arith, codes, cond, drop, eq-eqb}
pub use Rattle.std.proofs.Common.{eqb, eqb-true, false, fold, if◌then◌else◌, inl, inr, le-ltb, length, length-append, lt-ltb, ltb, ltb-false}
pub use Rattle.std.proofs.Common.{ltb-true, map, min, nat_abs, nat_le, nat_lt, ne_eqb, negsuc, pos, refl, rules, subst, suc, sym, take, tests, true}
pub use Rattle.std.proofs.Common.{unsigned_abs, zero, ℕ, ℤ, ◌&&◌, ◌*ℤ◌, ◌*◌, ◌++◌, ◌+◌, ◌-◌, ◌<◌, ◌==◌, ◌^◌, ◌||◌, ◌∙◌, ◌∷◌, ◌≡◌, ◌≢◌, ◌≤◌, ◌⊎◌}
pub use Rattle.std.proofs.lemmas.Bool.{false≢true}
pub use Rattle.std.proofs.lemmas.List.{append-nil, drop-append-le, drop-drop, drop_all, take-append-le, take_all}
pub use Rattle.std.proofs.lemmas.List.Sums.{sum_by-cons}
pub use Rattle.std.specs.List.{flat_map, list_all, position, position_from, prefix_len, slice_get, take_while}
pub use Rattle.ct_algebra.proofs.OperatorTerms.{at-term_of, negatives_are, pick-same, term_of-sum, term_of-zero, term_of_hom}
pub use Rattle.ct_algebra.specs.Actions.{Action, Derive, Shift, Still, by_action}
pub use Rattle.ct_algebra.specs.Monomial.{Mono, exp, exp-unit, exp-·, monomials, same_mono, total, total-·, unit, ·-unit, ·_assoc, ·_comm, ◌·◌}
pub use Rattle.ct_algebra.specs.Names.{Name, by_symbols, exp-symbol, name_with, place, place_small, power, power_symbol, power_unit, symbol, x0, x1}
pub use Rattle.ct_algebra.specs.Names.{x2, x3, x4, x5}
pub use Rattle.ct_algebra.specs.Operators.{Operator, multiple, negative, operator_group, operator_of, polynomial_at, symbol_before, term_of}
unfoldable pub use Rattle.ct_algebra.specs.Operators.{no_operator, sum_of_operators}
pub use Rattle.ct_algebra.specs.Polynomial.{Polynomial, degree_greatest, degree_of, norm_of, poly_of, polys, times, times_is}
unfoldable pub use Rattle.ct_algebra.specs.Polynomial.{count, degree, norm, plus}
pub use Rattle.ct_algebra.specs.Substitution.{name_is, number_is, one_is, term, term-*, term-sum}
pub use Rattle.ct_algebra.specs.Sums.{has_none, same_terms}
unfoldable pub use Rattle.ct_algebra.specs.Sums.{none}
pub use Rattle.ct_algebra.specs.Terms.{EachTerm, IsCanonical}
pub use Rattle.ct_algebra.specs.WholeNumbers.{int_group, int_is_zero}
pub use Rattle.ct_checked.specs.Checked.{Checked, ◌>>=◌}
unfoldable pub use Rattle.ct_checked.specs.Checked.{verdict}
pub use Rattle.ct_checked.specs.Limits.{largest_degree, largest_norm, most_terms}
pub use Rattle.ct_checked.specs.declared.fault.Kind.{Kind}
pub use Rattle.ct_expr.proofs.OverOne.{minus_over_one, negated_over_one, plus_over_one, times_over_one}
pub use Rattle.ct_expr.proofs.Values.{both, fraction_of-Name, fraction_of-Power, fraction_of-Product, fraction_of-Sum, fraction_of-Symbol}
pub use Rattle.ct_expr.proofs.Values.{fraction_of-Whole, fraction_of_term-out}
pub use Rattle.ct_expr.specs.Value.{Signed, checked_polynomial, fraction_of, fractions, joined, one_value, signed}
unfoldable pub use Rattle.ct_expr.specs.Value.{power_from, product_from, sum_from, value_of}
pub use Rattle.ct_expr.specs.ValueArithmetic.{Value, checked_times, over_one}
pub use Rattle.ct_expr.specs.declared.expr.Expr.{Expr}
pub use Rattle.ct_mono.proofs.ExponentLaws.{place-name_with}
pub use Rattle.ct_ore.proofs.OneTerm.{coefficient_degree-one, coefficient_terms-one, order_of-one, some_term, term_count-one, term_norm-one}
pub use Rattle.ct_ore.proofs.OneTerm.{terms-term, total_unit}
pub use Rattle.ct_ore.specs.Measures.{greatest, product_count, product_norm}
unfoldable pub use Rattle.ct_ore.specs.Measures.{checked_difference, checked_product, checked_sum, coefficient_degree, difference_of_operators}
unfoldable pub use Rattle.ct_ore.specs.Measures.{order_of, product_overflow, term_count, term_norm}
pub use Rattle.ct_ore.specs.Naming.{EachIsNaming, IsAlgebra, IsNaming, IsOtherText, Naming, TextsDiffer, actions_of, are_word_bytes}
pub use Rattle.ct_ore.specs.TermSums.{entries_count, entries_norm}
pub use Rattle.ct_problem.proofs.JoinedTexts.{joined_nothing, joined_to_right, nothing_joined, to_nothing}
pub use Rattle.ct_problem.specs.Declarations.{declared}
pub use Rattle.ct_problem.specs.Grammar.{IsActing, IsAtom, IsExpression, IsFactor, IsMoreFactor, IsMoreTerm, IsSum, IsTerm, IsVariable, Term, sum_of}
pub use Rattle.ct_problem.specs.Grammar.{summand}
unfoldable pub use Rattle.ct_problem.specs.Grammar.{IsNested, product_of}
pub use Rattle.ct_problem.specs.Lexemes.{Texts, decimal, each, lexeme_of, lexemes, nothing, number, one, optional, ◌▸◌}
pub use Rattle.ct_problem.specs.WellFormed.{Each, IsOperator, IsPolynomial}
pub use Rattle.ct_token.specs.Lexical.{Gap, Lexeme, Scanned, is_blank, is_digit, is_letter, is_line_end, is_printable, is_word_byte, line_end_len}
pub use Rattle.ct_token.specs.Lexical.{starts_dots, with_piece}
unfoldable pub use Rattle.ct_token.specs.Lexical.{piece_of, scan_of, scanned}
pub use Rattle.ct_token.specs.Lexing.{IsWord, Stops, slice}
