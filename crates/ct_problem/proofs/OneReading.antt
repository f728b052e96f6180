-- A text stands for one problem at most, and for one report: for what it is read as.
use Rattle.ct_problem.proofs.Base.{◌≡◌, ℕ, Some, Result, Ok, sym, ap, ◌∙◌, BadInput, TextsStandForOneProblem, TextsStandForOneReport, Reading}
use Rattle.ct_problem.proofs.LexemeCounts.{cofactors_fit}
use Rattle.ct_problem.proofs.TakenProblems.{problem_taken}
use Rattle.ct_problem.proofs.ReportTexts.{report_taken}

pub one_problem : TextsStandForOneProblem
one_problem command bytes p q at to first second =
    let same : ◌≡◌ {A = Result (Reading × ℕ) BadInput} (Ok (p, at)) (Ok (q, to)) = sym (problem_taken command bytes p at first)
    ∙ problem_taken command bytes q to second in
    let pairs : ◌≡◌ {A = Reading × ℕ} (p, at) (q, to) = cc in
    (ap (λ (r : Reading × ℕ). r.0) pairs, ap (λ (r : Reading × ℕ). r.1) pairs)

pub one_report : TextsStandForOneReport
one_report variables count bytes from r s first second =
    let few = cofactors_fit variables count bytes from r first in
    let same : Some r ≡ Some s = sym (report_taken variables count bytes from r few first) ∙ report_taken variables count bytes from s few second in
    cc
