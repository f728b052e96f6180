use Rattle.ct_problem.proofs.Base.{◌≡◌, ap, arith, rules, common_steps, IfOk-weaker, Scanned, scan_of, scans_are_tokens, Gives, problem_of}
use Rattle.ct_problem.proofs.Base.{reading_of}
use Rattle.ct_problem.proofs.ProblemEnds.{end_within}
use Rattle.ct_problem.proofs.SpelledTexts.{gives_spelled}
use Rattle.ct_problem.proofs.TakenProblems.{gives_none}
use Rattle.ct_problem.proofs.reading.read_problem.Goals as goal

pub new-tokens-requires : goal.new-tokens-requires
new-tokens-requires c =
    let same : c.in_ok-scan.scan.tokens.items ≡ (scan_of c.args.bytes.now 0).tokens = ap (λ (s : Scanned). s.tokens) c.in_ok-scan.ensures in
    rw (c.as_slice.ensures.value, same) (scans_are_tokens c.args.bytes.now 0)

pub returns-clause-accepts : goal.returns-clause-accepts
unfolding problem_of
returns-clause-accepts c =
    let read : Gives (problem_of c.args.command c.args.bytes.now) c.problem.result = first_of (search rules, grind (arith, common_steps)) in
    gives_spelled c.args.command c.args.bytes.now c.problem.result read

pub returns-clause-refuses : goal.returns-clause-refuses
unfolding problem_of
returns-clause-refuses c =
    let read : Gives (problem_of c.args.command c.args.bytes.now) c.problem.result = first_of (search rules, grind (arith, common_steps)) in
    gives_none c.args.command c.args.bytes.now c.problem.result read

pub returns-clause-within : goal.returns-clause-within
unfolding problem_of
returns-clause-within c =
    let read : Gives (problem_of c.args.command c.args.bytes.now) c.problem.result = first_of (search rules, grind (arith, common_steps)) in
    IfOk-weaker c.problem.result _ _ (λ p s. end_within c.args.bytes.now c.args.command (reading_of p) p.end s)
    (gives_spelled c.args.command c.args.bytes.now c.problem.result read)
