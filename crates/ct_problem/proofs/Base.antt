-- The words that proof files here take from std, from the crates below and from the definitions of this one, so that each file has one
-- list of them. What has another meaning elsewhere is named where it is used.
pub use Rattle.std.proofs.Common.{Bool, Err, IfErr, IfOk, IsTrue, List, None, Ok, Option, Result, Some, [], ap, ap₂, arith, codes, cond, drop}
pub use Rattle.std.proofs.Common.{drop-cons, false, fold, get_or, inl, inr, is_some, length, length-append, ltb-false, map, max, min, nat_le, nat_lt}
pub use Rattle.std.proofs.Common.{not, pos, refl, rules, slice_get, string_bytes, subst, suc, sym, take, tests, true, zero, ℕ, ◌&&◌, ◌*◌, ◌++◌, ◌+◌}
pub use Rattle.std.proofs.Common.{◌-◌, ◌<◌, ◌==◌, ◌||◌, ◌↔◌, ◌∙◌, ◌∷◌, ◌≡◌, ◌≢◌, ◌≤◌, ◌⊎◌}
pub use Rattle.std.proofs.Math.ListN.{set}
pub use Rattle.std.proofs.Math.Seq.{drop-append_seam}
pub use Rattle.std.proofs.lemmas.Bool.{false≢true, le-leb, le-ltb, leb-true}
pub use Rattle.std.proofs.lemmas.Grind.{common_steps}
pub use Rattle.std.proofs.lemmas.Iterator.{YieldsList-from_slice}
pub use Rattle.std.proofs.lemmas.Iterator.Search.{any_from_yields_List}
pub use Rattle.std.proofs.lemmas.List.{append-nil, append_assoc, append_cancel_right, drop-drop, drop_all, drop_more, get_or-drop, length-drop}
pub use Rattle.std.proofs.lemmas.List.{length-map, map-append, take_all, take_more}
pub use Rattle.std.proofs.lemmas.List.Elements.{All-append}
pub use Rattle.std.proofs.lemmas.List.Quantifiers.{position-Some}
pub use Rattle.std.proofs.lemmas.List.Sums.{sum_by-append, sum_by-cons}
pub use Rattle.std.proofs.lemmas.Option.{get_or_from_slice_get, slice_get-get_or, slice_get_within}
pub use Rattle.std.proofs.lemmas.Result.{IfOk-weaker}
pub use Rattle.std.proofs.lemmas.Slice.Eq.{bytes_eq-Decides}
pub use Rattle.std.proofs.lemmas.Str.{IsUtf8-from_ascii}
pub use Rattle.std.proofs.lemmas.Str.Ascii.{IsAscii-from_all}
pub use Rattle.std.specs.Global.{Vec}
pub use Rattle.std.specs.List.{All, count_by, list_all, list_any, position, prefix_len}
pub use Rattle.std.specs.Option.{is_none}
pub use Rattle.std.specs.Str.{IsAscii, bytes_eq}
pub use Rattle.ct_algebra.specs.Actions.{Action, Derive, Shift, Still, by_action}
pub use Rattle.ct_algebra.specs.FreeOf.{EachName}
pub use Rattle.ct_algebra.specs.Names.{Name, name_with}
pub use Rattle.ct_expr.proofs.Turns.{deeper, no_item, no_more, one_item, one_more}
pub use Rattle.ct_expr.proofs.Values.{evaluable-Name, evaluable-Power, evaluable-Product, evaluable-Ratio, evaluable-Sum, evaluable-Symbol}
pub use Rattle.ct_expr.proofs.Values.{evaluable-Whole}
pub use Rattle.ct_expr.specs.Value.{all_true, term_step}
unfoldable pub use Rattle.ct_expr.specs.Value.{has_no_symbol, has_no_symbol_term, is_evaluable, is_evaluable_term, no_symbol_step}
pub use Rattle.ct_expr.specs.declared.expr.Expr.{Expr, roll-Expr}
pub use Rattle.ct_expr.specs.declared.expr.Expr.TheFolds.{fold-Expr, fold-Summand, fold-roll-Expr, fold-roll-Summand, map-Expr}
pub use Rattle.ct_expr.specs.declared.expr.Expr.TheOpen.{Expr-F}
pub use Rattle.ct_expr.specs.declared.expr.Summand.{Summand}
pub use Rattle.ct_io.specs.declared.command.Command.{Command}
pub use Rattle.ct_io.specs.declared.command.Command.TheVariants.{Check, Close, Demo, Gen, Member, Reduce, Telescope, Test}
pub use Rattle.ct_checked.specs.Limits.{largest_degree, largest_norm}
pub use Rattle.ct_ore.proofs.PairMeasureLaws.{known_action}
pub use Rattle.ct_ore.specs.Naming.{EachIsNaming, IsAlgebra, IsNaming, IsOtherText, Naming, TextsDiffer, actions_of, are_word_bytes, has_operator}
pub use Rattle.ct_ore.specs.Naming.{is_summed, naming_of, namings_of, summed_from, with_summed}
unfoldable pub use Rattle.ct_ore.specs.Naming.{summed_of}
pub use Rattle.ct_ore.specs.declared.algebra.NameInfo.{NameInfo}
pub use Rattle.ct_ore.specs.declared.algebra.Role.{Role}
pub use Rattle.ct_ore.specs.declared.algebra.Role.TheVariants.{Summed}
pub use Rattle.ct_token.proofs.TokenPlaces.{scans_are_tokens}
pub use Rattle.ct_token.specs.Lexical.{Scanned, is_letter, is_line_end, is_word_byte, scan_of}
pub use Rattle.ct_token.specs.Lexing.{AreTokens, IsToken, IsWord, slice}
pub use Rattle.ct_token.specs.declared.token.Symbol.{Symbol}
pub use Rattle.ct_token.specs.declared.token.Token.{Token}
pub use Rattle.indexmap.specs.IndexSet.{insert_key}
pub use Rattle.ct_problem.specs.Cursor.{IsCursor, IsPlaceIn, known_at, names_of}
pub use Rattle.ct_problem.specs.Declarations.{action_of_line, acts_fully, declarations_by, declared, declared as no_lets, full_by, role_of_line}
pub use Rattle.ct_problem.specs.Declarations.{some_names, spelled_word, sums_fully}
unfoldable pub use Rattle.ct_problem.specs.Declarations.{declaration, declarations, declarations_from, free_action, is_full, name_line, new_name}
pub use Rattle.ct_problem.specs.DenLines.{Dens, is_given, is_summed_name, no_dens, once, summed_by, summed_word, with_den}
unfoldable pub use Rattle.ct_problem.specs.DenLines.{den_lines, den_line, den_lines_from, summed_name}
pub use Rattle.ct_problem.specs.Draft.{IsFormed}
unfoldable pub use Rattle.ct_problem.specs.Draft.{reading_of_draft}
pub use Rattle.ct_problem.specs.Expressions.{acting_by, acting_word, atom_by, expression, is_minus, joins, name_by, word_by}
unfoldable pub use Rattle.ct_problem.specs.Expressions.{acting, atom, constant, divisor, factor, factors_from, joint, letter, name, nested}
unfoldable pub use Rattle.ct_problem.specs.Expressions.{product_of, sum, summands, summands_from, symbol_by, term, whole, word}
pub use Rattle.ct_problem.specs.Grammar.{IsActing, IsAtom, IsExpression, IsFactor, IsMoreFactor, IsMoreTerm, IsSum, IsTerm, IsVariable, Term, sum_of}
pub use Rattle.ct_problem.specs.Grammar.{summand}
unfoldable pub use Rattle.ct_problem.specs.Grammar.{IsNested}
pub use Rattle.ct_problem.specs.GrammarLaws.{ProblemsAreRead, ReportsAreRead, TextsStandForOneProblem, TextsStandForOneReport}
pub use Rattle.ct_problem.specs.GrammarLets.{IsDeclarable, IsList, let_lines_behind, list, listed}
pub use Rattle.ct_problem.specs.GrammarProblem.{AreFew, IsEnd, IsSummed, MayFollow, Says, StandsFor, StandsForNone, header, keyed, name_lines, value}
pub use Rattle.ct_problem.specs.GrammarProblem.{values}
pub use Rattle.ct_problem.specs.GrammarReport.{ReportStandsFor, ReportStandsForNone, cofactor, cofactors, each_with, found_line, numbered, part}
pub use Rattle.ct_problem.specs.GrammarReport.{quotient}
pub use Rattle.ct_problem.specs.Input.{Input, Outcome, Parser, and_then, dots_by, fault, fresh_by, is_sign, is_word, line_end_by, look, next, past}
pub use Rattle.ct_problem.specs.Input.{peek, place, pure, required, skip, spelling, spelling_in, symbol_of, syntax, tail, ◌<$>◌, ◌>>=◌, ◌>>◌}
unfoldable pub use Rattle.ct_problem.specs.Input.{dots, eat, eat_word, expect, expect_word, fresh_line, has_line_end, line_end, sees, sees_word}
unfoldable pub use Rattle.ct_problem.specs.Input.{slice_of}
pub use Rattle.ct_problem.specs.LetLines.{Definition, begins_expression, form_by, form_of_word, list_by, list_word, with_definitions}
unfoldable pub use Rattle.ct_problem.specs.LetLines.{applied, definition, let_form, let_lines, let_lines_from, let_word, list_name, listed_from}
unfoldable pub use Rattle.ct_problem.specs.LetLines.{one_too_many, two_lists}
pub use Rattle.ct_problem.specs.Lexemes.{Dots, Lexeme, LineEnd, Number, Sign, Texts, Word, decimal, each, lexeme_of, lexemes, nothing, number, one}
pub use Rattle.ct_problem.specs.Lexemes.{optional, ◌▸◌}
pub use Rattle.ct_problem.specs.Limits.{most_bytes}
unfoldable pub use Rattle.ct_problem.specs.Lines.{value_lines, value_lines_from}
pub use Rattle.ct_problem.specs.Names.{Names, acts_as, is_letter_of_symbol, is_named, is_unknown, known_by, same_action, summed_texts, texts_of}
pub use Rattle.ct_problem.specs.Names.{with_text}
unfoldable pub use Rattle.ct_problem.specs.Names.{is_new, known}
pub use Rattle.ct_problem.specs.Number.{fault_if, value_of}
unfoldable pub use Rattle.ct_problem.specs.Number.{coming_number}
pub use Rattle.ct_problem.specs.OverNames.{has_symbol, is_listed, some_all_true}
unfoldable pub use Rattle.ct_problem.specs.OverNames.{is_over, is_over_term, over_step}
unfoldable pub use Rattle.ct_problem.specs.Plain.{after_all, is_plain, line_after}
pub use Rattle.ct_problem.specs.ProblemLines.{listed_or_used}
unfoldable pub use Rattle.ct_problem.specs.ProblemLines.{range, generators, high_number, range_line, used}
pub use Rattle.ct_problem.specs.ReadProblem.{Gives, Reading, behind_end, definitions_of, ending_by, has_needs, input_of_scan, reading_of, too_long}
pub use Rattle.ct_problem.specs.ReadProblem.{trailing_by}
unfoldable pub use Rattle.ct_problem.specs.ReadProblem.{body, ending, head, lacks, last_line, nothing_left, problem, problem_of}
pub use Rattle.ct_problem.specs.ReadReport.{found}
unfoldable pub use Rattle.ct_problem.specs.ReadReport.{report_of}
unfoldable pub use Rattle.ct_problem.specs.ReportLines.{cofactors_from}
pub use Rattle.ct_problem.specs.WellFormed.{AreDens, AreDensOf, AreForms, AreGenerators, Each, IsForm, IsGens, IsOperator, IsPolynomial, IsQuotient}
pub use Rattle.ct_problem.specs.WellFormed.{IsRange, IsReportOn}
pub use Rattle.ct_problem.specs.declared.fault.BadInput.{BadInput}
pub use Rattle.ct_problem.specs.declared.fault.BadKind.{BadKind}
pub use Rattle.ct_problem.specs.declared.fault.BadKind.TheVariants.{DuplicateName, EmptyRange, ExponentTooLarge, Missing, NameTooLong, NumberTooLarge}
pub use Rattle.ct_problem.specs.declared.fault.BadKind.TheVariants.{OutOfRange, Syntax, TooMany, WrongKind, ZeroDenominator}
pub use Rattle.ct_problem.specs.declared.fault.ReadFault.{ReadFault}
pub use Rattle.ct_problem.specs.declared.fault.ReadFault.TheVariants.{Bad, NoMemory}
pub use Rattle.ct_problem.specs.declared.problem.Gens.{Gens}
pub use Rattle.ct_problem.specs.declared.problem.Gens.TheVariants.{Listed, Named}
pub use Rattle.ct_problem.specs.declared.problem.LetForm.{LetForm}
pub use Rattle.ct_problem.specs.declared.problem.Problem.{Problem}
pub use Rattle.ct_problem.specs.declared.problem.Range.{Range}
pub use Rattle.ct_problem.specs.declared.reading.body.Draft.{Draft}
pub use Rattle.ct_problem.specs.declared.reading.declarations.NameLine.{NameLine}
pub use Rattle.ct_problem.specs.declared.reading.declarations.NameLine.TheVariants.{Free, Int, Param, Sum}
pub use Rattle.ct_problem.specs.declared.reading.let_lines.LetWord.{LetWord}
pub use Rattle.ct_problem.specs.declared.reading.let_lines.LetWord.TheVariants.{Apply, Plus, Product}
pub use Rattle.ct_problem.specs.declared.reading.names.Known.{Known}
pub use Rattle.ct_problem.specs.declared.reading.names.Known.TheVariants.{Let, Unknown, Variable}
pub use Rattle.ct_problem.specs.declared.reading.plain.Line.{Line}
pub use Rattle.ct_problem.specs.declared.reading.plain.Line.TheVariants.{Ended}
pub use Rattle.ct_problem.specs.declared.report.Quotient.{Quotient}
pub use Rattle.ct_problem.specs.declared.report.Report.{Report}
