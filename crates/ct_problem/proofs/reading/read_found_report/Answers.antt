use Rattle.ct_problem.proofs.Base.{◌≡◌, ◌+◌, ◌<◌, ◌≤◌, length, None, Some, ap, arith, rules, common_steps, Scanned, scan_of, scans_are_tokens}
use Rattle.ct_problem.proofs.Base.{report_of, largest_norm}
use Rattle.ct_problem.proofs.Cursors.{IsCursor-later}
use Rattle.ct_problem.proofs.ReportTexts.{report_spelled, gives_no_report}
use Rattle.ct_problem.proofs.WellFormedReports.{report_formed}
use Rattle.ct_problem.proofs.reading.read_found_report.Goals as goal

pub new-tokens-requires : goal.new-tokens-requires
new-tokens-requires c =
    let same : c.in_ok-scan.scan.tokens.items ≡ (scan_of c.args.bytes.now c.args.from).tokens = ap (λ (s : Scanned). s.tokens) c.in_ok-scan.ensures in
    rw (c.as_slice.ensures.value, same)
    (IsCursor-later c.args.bytes.now c.args.from (scan_of c.args.bytes.now c.args.from).tokens (scans_are_tokens c.args.bytes.now c.args.from))

pub returns-in-Ok-clause-formed : goal.returns-in-Ok-clause-formed
unfolding report_of
returns-in-Ok-clause-formed c =
    let few : length c.args.algebra.now ≤ 6 = rw c.in_ok-names.ensures.names at c.in_ok-names.ensures.few in
    let read : report_of c.args.algebra.now c.args.generators c.args.bytes.now c.args.from ≡ Some c.in-Ok.found =
    first_of (search rules, grind (arith, common_steps)) in
    let low : 1 + c.args.generators ≤ largest_norm = omega (arith, c.ranges.generators.fits) in
    report_formed c.args.algebra.now few c.args.generators c.args.bytes.now c.args.from c.in-Ok.found
    (report_spelled c.args.algebra.now c.args.generators c.args.bytes.now c.args.from c.in-Ok.found low read)

pub returns-in-Err-Bad-clause-refuses : goal.returns-in-Err-Bad-clause-refuses
unfolding report_of
returns-in-Err-Bad-clause-refuses c =
    let none : report_of c.args.algebra.now c.args.generators c.args.bytes.now c.args.from ≡ None =
    first_of (search rules, grind (arith, common_steps)) in
    let few : c.args.generators < largest_norm = omega (arith, c.ranges.generators.fits) in
    λ _. gives_no_report c.args.algebra.now c.args.generators c.args.bytes.now c.args.from few none

pub returns-in-Ok-clause-accepts : goal.returns-in-Ok-clause-accepts
unfolding report_of
returns-in-Ok-clause-accepts c =
    let read : report_of c.args.algebra.now c.args.generators c.args.bytes.now c.args.from ≡ Some c.in-Ok.found =
    first_of (search rules, grind (arith, common_steps)) in
    let low : 1 + c.args.generators ≤ largest_norm = omega (arith, c.ranges.generators.fits) in
    report_spelled c.args.algebra.now c.args.generators c.args.bytes.now c.args.from c.in-Ok.found low read
