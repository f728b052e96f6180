-- What the grammars are besides.
--     TextsStandForOneProblem    a text stands for one problem at most, with one end
--     TextsStandForOneReport     and for one report
--     ProblemsAreRead            the rules read a text as a problem with this end just where it stands for it
--     ReportsAreRead             and as a report, on fewer generators than the greatest number that a text may have
-- So whoever asks what a text means may leave the rules aside, and read `StandsFor` and `ReportStandsFor` alone.
use Rattle.std.specs.Prelude.{◌≡◌, ◌<◌, ◌↔◌, ℕ, List, Ok, Some}
use Rattle.ct_io.specs.declared.command.Command.{Command}
use Rattle.ct_checked.specs.Limits.{largest_norm}
use Rattle.ct_ore.specs.Naming.{Naming}
use Rattle.ct_problem.specs.declared.report.Report.{Report}
use Rattle.ct_problem.specs.GrammarProblem.{StandsFor}
use Rattle.ct_problem.specs.GrammarReport.{ReportStandsFor}
use Rattle.ct_problem.specs.ReadProblem.{Reading, problem_of}
use Rattle.ct_problem.specs.ReadReport.{report_of}

abbrev pub TextsStandForOneProblem : Type 0
TextsStandForOneProblem =
    (command : Command) (bytes : List ℕ) (p q : Reading) (at to : ℕ) →
    StandsFor command bytes p at → StandsFor command bytes q to → (p ≡ q) × (at ≡ to)

abbrev pub TextsStandForOneReport : Type 0
TextsStandForOneReport =
    (variables : List Naming) (count : ℕ) (bytes : List ℕ) (from : ℕ) (r s : Report) →
    ReportStandsFor variables count bytes from r → ReportStandsFor variables count bytes from s → r ≡ s

abbrev pub ProblemsAreRead : Type 0
ProblemsAreRead = (command : Command) (bytes : List ℕ) (p : Reading) (at : ℕ) → (problem_of command bytes ≡ Ok (p, at)) ↔ StandsFor command bytes p at

abbrev pub ReportsAreRead : Type 0
ReportsAreRead =
    (variables : List Naming) (count : ℕ) (bytes : List ℕ) (from : ℕ) (r : Report) → count < largest_norm →
    (report_of variables count bytes from ≡ Some r) ↔ ReportStandsFor variables count bytes from r
