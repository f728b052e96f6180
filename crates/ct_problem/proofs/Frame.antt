-- The laws of the steps that rules are made of, for the files that walk over rules.
pub use Rattle.ct_problem.proofs.Following.{Ok-same, Follows, Follows-same, Follows-then, Goes_on, Settled, fresh_line-settles, lexemes-append}
pub use Rattle.ct_problem.proofs.Following.{ends_line, goes_on_before, used-taken}
pub use Rattle.ct_problem.proofs.JoinedTexts.{joined, joined_nothing, joined_to_left, joined_to_right, nothing_joined, on_first, on_second, replaced}
pub use Rattle.ct_problem.proofs.JoinedTexts.{from_nothing, replaced_both, to_nothing}
pub use Rattle.ct_problem.proofs.LexemeSteps.{after_first, sees-shown, sees_word-shown, shown, shown-symbol, shows_sign, shows_word}
pub use Rattle.ct_problem.proofs.ShownSymbols.{same_number, same_word, shows_a_number, shows_a_sign, shows_a_word, spelling-shown, unequal_words}
pub use Rattle.ct_problem.proofs.Slices.{slice_of-slice}
pub use Rattle.ct_problem.proofs.SpelledSteps.{LineEnded, Spells-coming, Spells-dots, Spells-exactly, first_read, line_end-gives, test_failed}
pub use Rattle.ct_problem.proofs.Spelling.{Spelled, Spelled-mapped, Spells, moved, shows_sign-gives, shows_word-gives, taken}
pub use Rattle.ct_problem.proofs.TakenSteps.{IsFresh, Takes-coming, Takes-dots, Takes-exactly, Takes-fresh_line, Takes-line_end, has_end}
pub use Rattle.ct_problem.proofs.Taking.{Taken, Taken-next, Taken-same, Takes, Takes-as, Takes-bind, Takes-fault_if, Takes-last, Takes-next}
pub use Rattle.ct_problem.proofs.Taking.{Takes-pure, Takes-skip, Takes-to_right, Takes-value, anywhere, headed}
