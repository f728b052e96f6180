use Rattle.ct_run.proofs.Base.{reading_of}
use Rattle.ct_setup.specs.SetupViews.{setup_refusal_of}
use Rattle.ct_run.proofs.Refused.{refused_ready}
use Rattle.ct_run.proofs.testing.answer_test.Goals as goal

pub returns-in-Err-clause-ready : goal.returns-in-Err-clause-ready
returns-in-Err-clause-ready c =
    refused_ready (reading_of c.args.problem.now) (setup_refusal_of c.in-Err.fault) c.refused_setup.result c.refused_setup.ensures.value
