-- The outputs of one line, and their outcomes. This project's own.
--     bad_input e                     the first fault of a text
--     not_yet                         a text of a form that isn't supported yet
--     refused_line text               a problem that isn't prepared, by this text
--     overflow_in_setup phase kind    preparing it overflows in this phase and kind
--     setup_line p e                  one of these two: the elements of a refusal are those of the generators' staircase. Lists of `let`
--                                     lines aren't worked, so that no refusal names one
--     overflow_in_report kind         an expression of the report overflows
--     overflow_in_reduction t kind    the reduction of the target with this number does
--     yes_line, no_line, overflow_in_test     the tests pass, one fails at its place, or one overflows there
--     verdict_line names t            the line of the tests' outcome
use Rattle.std.specs.Prelude.{ℕ, List, ◌++◌, Ok, Err, codes, decimal}
use Rattle.ct_checked.specs.declared.fault.Kind.{Kind}
use Rattle.ct_checked.specs.declared.fault.Kind.TheVariants.{Degree, Terms, Number, Size}
use Rattle.ct_ore.specs.Naming.{Naming}
use Rattle.ct_answer.specs.Generators.{refusal_text}
use Rattle.ct_answer.specs.Text.{naming_at, name_text}
use Rattle.ct_answer.specs.Reductions.{line_of}
use Rattle.ct_cert.specs.declared.place.Place.{Place}
use Rattle.ct_cert.specs.declared.place.Place.TheVariants.{Found, Telescoper, Scale, Denominator, Part, Identity}
use Rattle.ct_cert.specs.Testing.{Tested, Fails, Overflows}
use Rattle.ct_problem.specs.declared.fault.BadInput as fault
use Rattle.ct_problem.specs.declared.fault.BadKind.{BadKind}
use Rattle.ct_problem.specs.declared.fault.BadKind.TheVariants as bad
use Rattle.ct_problem.specs.ReadProblem.{Reading}
use Rattle.ct_setup.specs.declared.fault.SetupPhase.{SetupPhase}
use Rattle.ct_setup.specs.declared.fault.SetupPhase.TheVariants.{Input, Closure, Test}
use Rattle.ct_setup.specs.Setup as setup
use Rattle.ct_setup.specs.Setup.{SetupRefusal, ZeroDen, Unbuilt, elements_of}
use Rattle.ct_run.specs.declared.status.Outcome.TheVariants.{Done, BadInput, Overflow, Usage, CheckNo}
use Rattle.ct_run.specs.Output.{Output}

unfoldable pub kind_text : Kind → List ℕ
kind_text Degree = codes "degree"
kind_text Terms = codes "terms"
kind_text Number = codes "number"
kind_text Size = codes "size"

unfoldable pub phase_text : SetupPhase → List ℕ
phase_text Input = codes "input"
phase_text Closure = codes "closure"
phase_text Test = codes "test"

unfoldable pub place_text : List Naming → Place → List ℕ
place_text names Found = codes "found"
place_text names Telescoper = codes "telescoper"
place_text names Scale = codes "scale"
place_text names (Denominator i) = codes "denominator " ++ name_text (naming_at names i)
place_text names (Part i) = codes "part " ++ name_text (naming_at names i)
place_text names Identity = codes "identity"

unfoldable pub bad_text : BadKind → List ℕ
bad_text bad.TooLong = codes "TooLong"
bad_text bad.BadByte = codes "BadByte"
bad_text bad.Unfinished = codes "Unfinished"
bad_text bad.Syntax = codes "Syntax"
bad_text bad.TooMany = codes "TooMany"
bad_text bad.NameTooLong = codes "NameTooLong"
bad_text bad.DuplicateName = codes "DuplicateName"
bad_text bad.UnknownName = codes "UnknownName"
bad_text bad.WrongKind = codes "WrongKind"
bad_text bad.NumberTooLarge = codes "NumberTooLarge"
bad_text bad.ZeroDenominator = codes "ZeroDenominator"
bad_text bad.ExponentTooLarge = codes "ExponentTooLarge"
bad_text bad.TooDeep = codes "TooDeep"
bad_text bad.OutOfRange = codes "OutOfRange"
bad_text bad.EmptyRange = codes "EmptyRange"
bad_text bad.Missing = codes "Missing"
bad_text bad.TrailingText = codes "TrailingText"

unfoldable pub bad_input : fault.BadInput → Output
bad_input e = record { outcome = BadInput; text = line_of (codes "bad input " ++ bad_text e.kind ++ codes " at " ++ decimal e.offset) }

-- the text is of a form that is not supported yet
abbrev pub not_yet : Output
not_yet = record { outcome = BadInput; text = line_of (codes "bad input NotYet") }

-- the output where the words are refused
abbrev pub usage : Output
usage = record { outcome = Usage; text = line_of (codes "usage: mgfun COMMAND [--workers N] [--seed N]") }

abbrev pub overflow_line : List ℕ → Kind → Output
overflow_line text kind = record { outcome = Overflow; text = line_of (text ++ kind_text kind) }

abbrev pub refused_line : List ℕ → Output
refused_line text = record { outcome = BadInput; text = line_of (codes "bad input " ++ text) }

unfoldable pub overflow_in_setup : SetupPhase → Kind → Output
overflow_in_setup phase kind = overflow_line (codes "overflow setup " ++ phase_text phase ++ codes " ") kind

abbrev pub setup_line : Reading → SetupRefusal → Output
setup_line p (ZeroDen i) = refused_line (codes "ZeroDen " ++ name_text (naming_at p.variables i))
setup_line p (Unbuilt named r) = refused_line (refusal_text p.variables (elements_of p) r)
setup_line p (setup.Overflow phase kind) = overflow_in_setup phase kind

unfoldable pub overflow_in_report : Kind → Output
overflow_in_report kind = overflow_line (codes "overflow check input ") kind

unfoldable pub overflow_in_reduction : ℕ → Kind → Output
overflow_in_reduction place kind = overflow_line (codes "overflow reduce " ++ decimal place ++ codes " ") kind

abbrev pub yes_line : Output
yes_line = record { outcome = Done; text = line_of (codes "yes found 0") }

unfoldable pub no_line : List Naming → Place → Output
no_line names place = record { outcome = CheckNo; text = line_of (codes "no " ++ place_text names place) }

unfoldable pub overflow_in_test : List Naming → Place → Kind → Output
overflow_in_test names place kind = overflow_line (codes "overflow check " ++ place_text names place ++ codes " ") kind

abbrev pub verdict_line : List Naming → Tested (Unit {0}) → Output
verdict_line names (Ok passed) = yes_line
verdict_line names (Err (Fails place)) = no_line names place
verdict_line names (Err (Overflows place kind)) = overflow_in_test names place kind
