-- What an output means by its outcome. Main lemma `means_of`, at the end, which what a run reported stands on.
-- Under `check` only a text in the first form is done or answered by a no: tests that pass certify, and the test that fails is of a
-- place where what it asks is false. Under `reduce` only the reductions of all targets are done, and under `test` only a basis. That
-- generators are tested is told by the call that prepares them.
use Rattle.ct_run.proofs.Base.{◌≡◌, refl, subst, sym, ◌∙◌, ℕ, ◌+◌, ◌≤◌, List, length, Option, Some, None, Result, Ok, Err, Bool, true, false, if◌then◌else◌, arith}
use Rattle.ct_run.proofs.Base.{Operator, Certificate, Reduction, Checked, Naming, IsAlgebra, actions_of, summed_of, Command, Report, Reading}
use Rattle.ct_run.proofs.Base.{problem_of, IsGens, IsReportOn, summed_act}
use Rattle.ct_checked.specs.Limits.{largest_norm}
use Rattle.ct_io.specs.declared.command.Command.TheVariants.{Telescope, Check, Reduce, Test, Close, Member, Gen, Demo}
use Rattle.ct_problem.specs.declared.fault.BadInput.{BadInput}
use Rattle.ct_problem.specs.declared.problem.Gens.{Gens}
use Rattle.ct_problem.specs.declared.problem.Gens.TheVariants.{Listed, Named}
use Rattle.ct_problem.specs.GrammarReport.{ReportStandsFor}
use Rattle.ct_problem.specs.ReadReport.{report_of}
use Rattle.ct_problem.proofs.ReportTexts.{report_spelled}
use Rattle.ct_problem.proofs.SpelledTexts.{problem_spelled}
use Rattle.ct_problem.proofs.WellFormedProblems.{IsReading, reading_is}
use Rattle.ct_problem.proofs.WellFormedReports.{report_formed}
use Rattle.ct_cert.specs.Testing.{Tested, Fails, Overflows}
use Rattle.ct_cert.specs.Tests.{tests}
use Rattle.ct_cert.proofs.Passing.{passing_certifies}
use Rattle.ct_cert.proofs.Refusing.{failing_refutes}
use Rattle.ct_setup.specs.Setup.{Prepared, SetUp, Plain, listed, has_lists, checked_setup, checked_plain_setup}
use Rattle.ct_setup.specs.SetupMeans.{IsPrepared}
use Rattle.ct_run.specs.Lines.{bad_input, not_yet, overflow_in_report, overflow_in_reduction, no_line}
use Rattle.ct_run.specs.Lines.{overflow_in_test, verdict_line}
use Rattle.ct_run.specs.Output.{Output}
use Rattle.ct_run.specs.Checking.{checked_certificate, due_of, found_of, tested, by_certificate, by_setup, checked_form, by_report, is_first}
use Rattle.ct_run.specs.Checking.{checked_text, Statement, CheckMeans}
use Rattle.ct_run.specs.Ready.{IsSetUp, IsReadyWhere, IsReadyIfRead, IsReadyFor}
use Rattle.ct_run.specs.Reducing.{TargetOverflow, checked_reductions, by_reductions, by_values, reduced, ReduceMeans}
use Rattle.ct_run.specs.Testing.{by_module, tested_problem, TestMeans}
use Rattle.ct_run.specs.Out.{by_command, by_problem, out, Means}
use Rattle.ct_run.proofs.CertificateFits.{certificate_fits, setup_length}
use Rattle.ct_run.proofs.Refused.{refused}
use Rattle.ct_run.proofs.ReducedTexts.{reductions_mean}
use Rattle.ct_run.specs.declared.status.Outcome.TheVariants as outcome

-- what was prepared is the one value
ready_with : (p : Reading) (s : Prepared) → checked_setup p ≡ Ok s → IsSetUp p → IsPrepared p s
ready_with p s valued ready =
    let told : checked_setup p ≡ Ok ready.prepared = ready.valued in
    let same : ready.prepared ≡ s = cc in
    subst (IsPrepared p) same ready.means

-- where lists aren't worked
unless_lists : (M : Output → Type 0) → M not_yet → (b : Bool) (o : Output) → M o → M (if b then not_yet else o)
unless_lists M yet true o means = yet
unless_lists M yet false o means = means

-- ---- `check`

few_listed : (variables : List Naming) (lines : ℕ) (g : Gens) → IsGens variables lines g → 1 + length (listed g) ≤ largest_norm
few_listed variables lines (Listed xs) known = let few = known.few in omega (arith, few)
few_listed variables lines (Named at) known = omega arith

module _ (bytes : List ℕ) where
  -- what `check` may answer over these bytes, where the problem is p
  abbrev Answers : Reading → Output → Type 0
  Answers p o = IsReadyWhere o.outcome p → CheckMeans bytes o.outcome o.text

  module _ (p : Reading) (end : ℕ) (read : problem_of Check bytes ≡ Ok (p, end)) where
    known : IsReading p
    known = reading_is Check bytes (p, end) read

    few : 1 + length (listed p.generators) ≤ largest_norm
    few = let made = known in few_listed p.variables (length p.definitions) p.generators made.gens

    module _ (r : Report) (reported : report_of p.variables (length (listed p.generators)) bytes end ≡ Some r) where
      names : IsAlgebra p.variables
      names = let made = known in made.names

      says : ReportStandsFor p.variables (length (listed p.generators)) bytes end r
      says = report_spelled p.variables (length (listed p.generators)) bytes end r few reported

      on : IsReportOn p.variables (length (listed p.generators)) r
      on = report_formed p.variables names.few (length (listed p.generators)) bytes end r says

      module _ (s : Prepared) (c : Certificate) (valued : checked_setup p ≡ Ok s) (stated : checked_certificate p.variables r ≡ Ok c) where
        statement : IsPrepared p s → Statement bytes
        statement means = record {
          problem = p;
          end = end;
          says_problem = problem_spelled Check bytes (p, end) read;
          report = r;
          says_report = says;
          ready = record { prepared = s; means = means };
          certificate = c;
          stated = stated;
        }

        by_tests :
            (t : Tested (Unit {0})) → tests (actions_of p.variables) (summed_of p.variables) s.generators (due_of p) (found_of r) c ≡ t →
            Answers p (verdict_line p.variables t)
        unfolding statement no_line overflow_in_test
        by_tests (Ok passed) passes ready =
            let means = ready_with p s valued ready in
            let fits = certificate_fits p.variables (length (listed p.generators)) r c on stated in
            record {
              statement = statement means;
              certified =
                  passing_certifies (actions_of p.variables) (summed_of p.variables) s.generators (due_of p) (found_of r) c passed passes
                  fits.names_are (summed_act p.variables names.few names.each) (omega (arith, fits.cofactors, setup_length p s means));
            }
        by_tests (Err (Fails place)) fails ready = record {
          statement = statement (ready_with p s valued ready);
          place = place;
          refuted = failing_refutes (actions_of p.variables) (summed_of p.variables) s.generators (due_of p) (found_of r) c place fails;
          line = refl;
        }
        by_tests (Err (Overflows place kind)) fails ready = tt

      by_stated :
          (s : Prepared) (o : Checked Certificate) → checked_setup p ≡ Ok s → checked_certificate p.variables r ≡ o →
          Answers p (by_certificate p r s.generators o)
      unfolding tested overflow_in_report
      by_stated s (Ok c) valued stated = by_tests s c valued stated _ refl
      by_stated s (Err kind) valued stated = λ ready. tt

      by_prepared : (o : SetUp Prepared) → checked_setup p ≡ o → Answers p (by_setup p r o)
      by_prepared (Ok s) valued = by_stated s (checked_certificate p.variables r) valued refl
      by_prepared (Err e) valued = λ ready. refused (CheckMeans bytes) (λ text. tt) (λ text. tt) p e

      by_form : Answers p (checked_form p r)
      unfolding checked_form
      by_form = by_prepared (checked_setup p) refl

    by_reading : (o : Option Report) → report_of p.variables (length (listed p.generators)) bytes end ≡ o → Answers p (by_report p o)
    by_reading (Some r) reported = by_form r reported
    by_reading None reported = λ ready. tt

    check_means : Answers p (checked_text bytes p end)
    unfolding checked_text
    check_means = by (is_first p)
      where
        by : (b : Bool) → Answers p (if b then by_report p (report_of p.variables (length (listed p.generators)) bytes end) else not_yet)
        by true = by_reading (report_of p.variables (length (listed p.generators)) bytes end) refl
        by false = λ ready. tt

-- ---- `test`

module _ (bytes : List ℕ) (p : Reading) (end : ℕ) (read : problem_of Test bytes ≡ Ok (p, end)) where
  -- what `test` may answer over these bytes
  abbrev Tests : Output → Type 0
  Tests o = IsReadyWhere o.outcome p → TestMeans bytes o.outcome o.text

  by_basis : (o : SetUp Prepared) → checked_setup p ≡ o → Tests (by_module p o)
  by_basis (Ok s) valued ready = record {
    problem = p;
    end = end;
    says_problem = problem_spelled Test bytes (p, end) read;
    ready = record { prepared = s; means = ready_with p s valued ready };
    shown = refl;
  }
  by_basis (Err e) valued ready = refused (TestMeans bytes) (λ text. tt) (λ text. tt) p e

  test_means : Tests (tested_problem p)
  unfolding tested_problem
  test_means = by_basis (checked_setup p) refl

-- ---- `reduce`

module _ (bytes : List ℕ) where
  -- what `reduce` may answer over these bytes
  abbrev Reduces : Output → Type 0
  Reduces o = ReduceMeans bytes o.outcome o.text

  module _ (p : Reading) (end : ℕ) (read : problem_of Reduce bytes ≡ Ok (p, end)) where
    by_targets :
        (s : Plain) → checked_plain_setup p ≡ Ok s → (o : Result (List Reduction) TargetOverflow) →
        checked_reductions (actions_of p.variables) s.generators s.targets ≡ o →
        Reduces (by_reductions p.variables o)
    unfolding overflow_in_reduction
    by_targets s valued (Ok rs) fits = record {
      problem = p;
      end = end;
      says_problem = problem_spelled Reduce bytes (p, end) read;
      plain = s;
      valued = valued;
      reductions = rs;
      each = reductions_mean (actions_of p.variables) s.generators s.targets rs fits;
      shown = refl;
    }
    by_targets s valued (Err e) fits = tt

    by_plain : (o : SetUp Plain) → checked_plain_setup p ≡ o → Reduces (by_values p o)
    by_plain (Ok s) valued = by_targets s valued (checked_reductions (actions_of p.variables) s.generators s.targets) refl
    by_plain (Err e) valued = refused (ReduceMeans bytes) (λ text. tt) (λ text. tt) p e

    reduce_means : Reduces (reduced p)
    unfolding reduced
    reduce_means = by_plain (checked_plain_setup p) refl

-- ---- the whole

-- a command under which each problem is bad input
bad_alone :
    (command : Command) (bytes : List ℕ) → ((p : Reading) (end : ℕ) → (by_command command bytes p end).outcome ≡ outcome.BadInput) →
    (o : Result (Reading × ℕ) BadInput) → (by_problem command bytes o).outcome ≡ outcome.BadInput
unfolding bad_input
bad_alone command bytes bad (Ok p) =
    unless_lists (λ o. o.outcome ≡ outcome.BadInput) refl (has_lists p.0) (by_command command bytes p.0 p.1) (bad p.0 p.1)
bad_alone command bytes bad (Err e) = refl

pub means_of :
    (command : Command) (bytes : List ℕ) → IsReadyFor command bytes (out command bytes).outcome → Means command bytes (out command bytes).outcome
unfolding out bad_input
means_of Check bytes = by (problem_of Check bytes) refl
  where
    by :
        (o : Result (Reading × ℕ) BadInput) → problem_of Check bytes ≡ o → IsReadyIfRead o (by_problem Check bytes o).outcome →
        CheckMeans bytes (by_problem Check bytes o).outcome (by_problem Check bytes o).text
    by (Ok p) read =
        unless_lists (Answers bytes p.0) (λ ready. tt) (has_lists p.0) (checked_text bytes p.0 p.1) (check_means bytes p.0 p.1 read)
    by (Err e) read = λ ready. tt
means_of Test bytes = by (problem_of Test bytes) refl
  where
    by :
        (o : Result (Reading × ℕ) BadInput) → problem_of Test bytes ≡ o → IsReadyIfRead o (by_problem Test bytes o).outcome →
        TestMeans bytes (by_problem Test bytes o).outcome (by_problem Test bytes o).text
    by (Ok p) read =
        unless_lists (Tests bytes p.0 p.1 read) (λ ready. tt) (has_lists p.0) (tested_problem p.0) (test_means bytes p.0 p.1 read)
    by (Err e) read = λ ready. tt
means_of Reduce bytes = λ ready. by (problem_of Reduce bytes) refl
  where
    by : (o : Result (Reading × ℕ) BadInput) → problem_of Reduce bytes ≡ o → Reduces bytes (by_problem Reduce bytes o)
    by (Ok p) read = unless_lists (Reduces bytes) tt (has_lists p.0) (reduced p.0) (reduce_means bytes p.0 p.1 read)
    by (Err e) read = tt
means_of Telescope bytes = λ ready. bad_alone Telescope bytes (λ p end. refl) (problem_of Telescope bytes)
means_of Close bytes = λ ready. bad_alone Close bytes (λ p end. refl) (problem_of Close bytes)
means_of Member bytes = λ ready. bad_alone Member bytes (λ p end. refl) (problem_of Member bytes)
means_of Gen bytes = λ ready. bad_alone Gen bytes (λ p end. refl) (problem_of Gen bytes)
means_of Demo bytes = λ ready. bad_alone Demo bytes (λ p end. refl) (problem_of Demo bytes)
