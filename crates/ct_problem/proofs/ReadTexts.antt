-- A text is read as what it stands for, and as nothing else. Main lemmas: the two laws `problems_are_read` and `reports_are_read`,
-- which the functions of these names cite.
use Rattle.ct_problem.proofs.Base.{arith, ProblemsAreRead, ReportsAreRead}
use Rattle.ct_problem.proofs.ReportTexts.{report_spelled, report_taken}
use Rattle.ct_problem.proofs.SpelledTexts.{problem_spelled}
use Rattle.ct_problem.proofs.TakenProblems.{problem_taken}

pub problems_are_read : ProblemsAreRead
problems_are_read command bytes p at = (λ read. problem_spelled command bytes (p, at) read, λ stands. problem_taken command bytes p at stands)

pub reports_are_read : ReportsAreRead
reports_are_read variables count bytes from r few =
    (λ read. report_spelled variables count bytes from r (omega (arith, few)) read, λ stands. report_taken variables count bytes from r few stands)
