-- The output of `check` for a problem and a report in the first form. The order of the steps is this project's own.
--     checked_certificate names r     what the expressions of a report stand for, in text order
--     is_first p                      a problem of the first form: no `den` line, and one support
--     checked_form p r                the outcome and the line
--     checked_text bytes p end        the same for a problem, and the text behind it
-- The problem is prepared first, so that its generators are tested; then the report's expressions are evaluated, before the first test.
-- Above it:
--     Statement bytes                 the problem and the report that the bytes stand for by the grammar, and the values of both; the
--                                     problem's generators are tested
--     IsShown bytes                   what a yes means
--     IsRefuted bytes text            what a no means
--     CheckMeans bytes outcome text   what an outcome with this text means
use Rattle.std.specs.Prelude.{◌≡◌, ◌==◌, Bool, false, ◌&&◌, if◌then◌else◌, is_none, Ok, Err, Option, Some, None, List, [], ◌∷◌, length, ℕ}
use Rattle.std.specs.List.{list_all}
use Rattle.ct_algebra.specs.Names.{Name}
use Rattle.ct_algebra.specs.Polynomial.{Polynomial}
use Rattle.ct_algebra.specs.Actions.{Action}
use Rattle.ct_algebra.specs.Operators.{Operator}
use Rattle.ct_algebra.specs.Certificate.{Summand, Certificate, Certifies}
use Rattle.ct_checked.specs.Checked.{Checked, ◌>>=◌}
use Rattle.ct_checked.specs.Traversal.{checked_each}
use Rattle.ct_ore.specs.Naming.{Naming, actions_of, summed_of}
use Rattle.ct_expr.specs.declared.expr.Expr.{Expr}
use Rattle.ct_problem.specs.declared.problem.Range.{Range}
use Rattle.ct_problem.specs.declared.report.Quotient.{Quotient}
use Rattle.ct_problem.specs.declared.report.Report.{Report}
use Rattle.ct_problem.specs.GrammarProblem.{StandsFor}
use Rattle.ct_problem.specs.GrammarReport.{ReportStandsFor}
use Rattle.ct_problem.specs.ReadProblem.{Reading}
use Rattle.ct_problem.specs.ReadReport.{report_of}
use Rattle.ct_expr.specs.Value.{value_of, checked_polynomial}
use Rattle.ct_cert.specs.declared.place.Place.{Place}
use Rattle.ct_cert.specs.declared.place.Support.{Support}
use Rattle.ct_cert.specs.Tests.{tests, Holds}
use Rattle.ct_run.specs.declared.status.Outcome as outcomes
use Rattle.ct_run.specs.declared.status.Outcome.TheVariants.{Done, NoneFound, BadInput, Overflow, Usage, CheckNo}
use Rattle.ct_run.specs.Output.{Output}
use Rattle.ct_io.specs.declared.command.Command.TheVariants.{Check}
use Rattle.ct_setup.specs.Setup.{Prepared, SetUp, listed, checked_values, checked_setup}
use Rattle.ct_run.specs.Lines.{not_yet, setup_line, overflow_in_report, no_line, verdict_line}
use Rattle.ct_run.specs.Ready.{IsReady}

-- ---- the values of a report's expressions

module _ (a : Name → Action) where
  abbrev pub checked_polynomials : List Expr → Checked (List Polynomial)
  checked_polynomials xs = checked_each (checked_polynomial a) xs

  -- numerator and denominator of a summed name
  abbrev pub checked_quotient : Quotient → Checked (Operator × Polynomial)
  checked_quotient q = do
    numerator ← value_of a q.numerator
    denominator ← checked_polynomial a q.denominator
    Ok (numerator, denominator)

  abbrev pub checked_quotients : List Quotient → Checked (List (Operator × Polynomial))
  checked_quotients qs = checked_each checked_quotient qs

-- name by name
abbrev pub summands_of : List Name → List (Operator × Polynomial) → List Polynomial → List Summand
summands_of (j ∷ js) (q ∷ qs) (f ∷ fs) =
    record { name = j; numerator = q.0; denominator = q.1; factor = f } ∷ summands_of js qs fs
summands_of _ _ _ = []

unfoldable pub checked_certificate : List Naming → Report → Checked Certificate
checked_certificate names r = do
  telescoper ← value_of (actions_of names) r.telescoper
  quotients ← checked_quotients (actions_of names) r.quotients
  scale ← checked_polynomial (actions_of names) r.scale
  factors ← checked_polynomials (actions_of names) r.factors
  cofactors ← checked_values (actions_of names) r.cofactors
  Ok (record {
    telescoper = telescoper;
    scale = scale;
    summands = summands_of (summed_of names) quotients factors;
    cofactors = cofactors;
  })

-- ---- the answer

abbrev pub low_of : Option Range → ℕ
low_of None = 0
low_of (Some r) = r.low

-- the first support of a problem
abbrev pub due_of : Reading → Support
due_of p = record { index = 0; order = low_of p.orders; degree = low_of p.degrees }

abbrev pub found_of : Report → Support
found_of r = record { index = r.index; order = r.order; degree = r.degree }

module _ (p : Reading) where
  -- the tests of a certificate over these generators
  unfoldable pub tested : Report → List Operator → Certificate → Output
  tested r generators c =
      verdict_line p.variables (tests (actions_of p.variables) (summed_of p.variables) generators (due_of p) (found_of r) c)

  abbrev pub by_certificate : Report → List Operator → Checked Certificate → Output
  by_certificate r generators (Ok c) = tested r generators c
  by_certificate r generators (Err kind) = overflow_in_report kind

  abbrev pub by_setup : Report → SetUp Prepared → Output
  by_setup r (Ok s) = by_certificate r s.generators (checked_certificate p.variables r)
  by_setup r (Err e) = setup_line p e

  unfoldable pub checked_form : Report → Output
  checked_form r = by_setup r (checked_setup p)

  abbrev pub by_report : Option Report → Output
  by_report (Some r) = checked_form r
  by_report None = not_yet

abbrev pub is_single : Option Range → Bool
is_single None = false
is_single (Some r) = r.low == r.high

unfoldable pub is_first : Reading → Bool
is_first p = list_all is_none p.dens && (is_single p.orders && is_single p.degrees)

unfoldable pub checked_text : List ℕ → Reading → ℕ → Output
checked_text bytes p end = if is_first p then by_report p (report_of p.variables (length (listed p.generators)) bytes end) else not_yet

-- ---- what an answer means

-- the bytes are a problem and a report on it, by the grammar; the problem is ready, and the report's expressions have this value
pub record Statement (bytes : List ℕ) : Type 0 where
  pub problem : Reading
  pub end : ℕ
  pub says_problem : StandsFor Check bytes problem end
  pub report : Report
  pub says_report : ReportStandsFor problem.variables (length (listed problem.generators)) bytes end report
  pub ready : IsReady problem
  pub certificate : Certificate
  pub stated : checked_certificate problem.variables report ≡ Ok certificate

-- the report's certificate certifies its telescoper over the problem's generators, which are tested
pub record IsShown (bytes : List ℕ) : Type 0 where
  pub statement : Statement bytes
  pub certified :
      Certifies (actions_of statement.problem.variables) (summed_of statement.problem.variables) statement.ready.prepared.generators
      statement.certificate

module _ {bytes : List ℕ} (s : Statement bytes) where
  -- what the test of this place asks is true
  abbrev pub HoldsAt : Place → Type 0
  HoldsAt =
      Holds (actions_of s.problem.variables) (summed_of s.problem.variables) s.ready.prepared.generators (due_of s.problem) (found_of s.report)
      s.certificate

-- what the test of some place asks is false, and the text is the line of that place
pub record IsRefuted (bytes : List ℕ) (text : List ℕ) : Type 0 where
  pub statement : Statement bytes
  pub place : Place
  pub refuted : ¬ HoldsAt statement place
  pub line : text ≡ (no_line statement.problem.variables place).text

abbrev pub CheckMeans : List ℕ → outcomes.Outcome → List ℕ → Type 0
CheckMeans bytes Done text = IsShown bytes
CheckMeans bytes CheckNo text = IsRefuted bytes text
CheckMeans bytes BadInput text = Unit {0}
CheckMeans bytes Overflow text = Unit {0}
CheckMeans bytes NoneFound text = ⊥
CheckMeans bytes Usage text = ⊥
