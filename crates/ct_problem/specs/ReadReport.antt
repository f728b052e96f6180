-- Reading a report that found a telescoper, in the first form: from the place where it begins, at most 2^26 bytes, in lines that each
-- end with a line feed, with no blank line, comment, tab or `/`. Which bytes stand for which report is said in `GrammarReport.antt`;
-- `read_found_report` has both, as its clauses `reads`, `accepts` and `refuses`.
--     report_of variables count bytes from     the report that the bytes from there on are read as, or none
--     found o                                  what was read, if it was
use Rattle.std.specs.Prelude.{ℕ, List, drop, if◌then◌else◌, Option, Some, None, Ok, Err}
use Rattle.ct_token.specs.Lexical.{scan_of}
use Rattle.ct_ore.specs.Naming.{Naming}
use Rattle.ct_problem.specs.declared.report.Report.{Report}
use Rattle.ct_problem.specs.Input.{Outcome}
use Rattle.ct_problem.specs.Plain.{is_plain}
use Rattle.ct_problem.specs.ReadProblem.{input_of_scan}
use Rattle.ct_problem.specs.ReportLines.{report}

abbrev pub found : {A : Type 0} → Outcome A → Option A
found (Ok p) = Some p.0
found (Err e) = None

unfoldable pub report_of : List Naming → ℕ → List ℕ → ℕ → Option Report
report_of variables count bytes from =
    if is_plain (drop from bytes) then found (report variables count (input_of_scan bytes (scan_of bytes from))) else None
