use Rattle.ct_run.proofs.Base.{ap, arith, length, rules, reading_of, summed_act}
use Rattle.ct_ore.specs.Answers.{certificate_of}
use Rattle.ct_setup.specs.Setup.{listed}
use Rattle.ct_setup.specs.SetupViews.{prepared_of, setup_refusal_of}
use Rattle.ct_run.proofs.CertificateFits.{certificate_fits, setup_length}
use Rattle.ct_run.proofs.Refused.{refused_ready}
use Rattle.ct_run.proofs.checking.answer_form.Goals as goal

pub line_of_tests-requires : goal.line_of_tests-requires
line_of_tests-requires c =
    let p = c.args.problem.now in
    let names = p.algebra in
    let fits = certificate_fits names (length (listed p.gens)) c.args.report.now (certificate_of c.in-Ok-certificate.answer) c.requires.report
    (search rules) in
    record {
      named = λ k d small. record { known = c.in-Ok-certificate.ensures.known k d small; few = p.formed.names.few };
      parts = fits.names_are;
      acts = summed_act names p.formed.names.few p.formed.names.each;
      cofactors = omega (
        arith,
        fits.cofactors,
        setup_length (reading_of p) (prepared_of c.in-Ok.ready) c.in-Ok.ensures.prepared,
        ap length c.as_slice.ensures.value,
      );
    }

pub returns-in-Err-clause-ready : goal.returns-in-Err-clause-ready
returns-in-Err-clause-ready c =
    refused_ready (reading_of c.args.problem.now) (setup_refusal_of c.in-Err.fault) c.refused_setup.result c.refused_setup.ensures.value
