use Rattle.ct_run.proofs.Base.{ap, refl, subst, ◌∙◌}
use Rattle.std.proofs.KnownBytes.{Keeps-refl}
use Rattle.ct_run.specs.Out.{out}
use Rattle.ct_run.specs.Ready.{IsReadyFor}
use Rattle.ct_run.specs.declared.status.Status.TheVariants.{ReadFault, NoMemory}
use Rattle.ct_run.proofs.Reported.{Answered-front, Answered-unwritten, takes_known}
use Rattle.ct_run.proofs.top.answer_text.Goals as goal

pub returns-in-Err-Failed-clause-answered : goal.returns-in-Err-Failed-clause-answered
returns-in-Err-Failed-clause-answered g c =
    Answered-unwritten c.args.command _ (g.K.Sink.taken c.args.sink.now) ReadFault refl (λ _. Keeps-refl (g.K.Sink.taken c.args.sink.now))

pub returns-in-Err-NoMemory-clause-answered : goal.returns-in-Err-NoMemory-clause-answered
returns-in-Err-NoMemory-clause-answered g c =
    Answered-unwritten c.args.command _ (g.K.Sink.taken c.args.sink.now) NoMemory refl (λ _. Keeps-refl (g.K.Sink.taken c.args.sink.now))

pub returns-clause-answered : goal.returns-clause-answered
returns-clause-answered g c =
    Answered-unwritten c.args.command _ (g.K.Sink.taken c.args.sink.now) NoMemory refl (λ _. Keeps-refl (g.K.Sink.taken c.args.sink.now))

pub returns-in-Ok-answer-clause-answered : goal.returns-in-Ok-answer-clause-answered
returns-in-Ok-answer-clause-answered g c =
    Answered-front c.args.command _ _ _ c.in-Ok.bytes.items _ c.give_out.result c.in-Ok.ensures.value
    (c.in-Ok-answer.ensures.value ∙ ap (out c.args.command) c.as_slice.ensures.value)
    (subst (λ text. IsReadyFor c.args.command text c.in-Ok-answer.output.outcome) c.as_slice.ensures.value c.in-Ok-answer.ensures.ready)
    (rw c.as_slice-in-Ok-answer.ensures.value at c.give_out.ensures.report)

pub returns-clause-left : goal.returns-clause-left
returns-clause-left g c = takes_known _ _ _ c.read_up_to.ensures.takes
