-- A run that reports the output for what it read answers its source. Main lemmas `Answered-front` and `Answered-unwritten`, at the
-- end, which the proof of `answer_text` cites, with `takes_known`.
-- The output for the first bytes of a text is that for the text: past the limit it is refused by its length, and within it nothing is cut.
use Rattle.ct_run.proofs.Base.{◌≡◌, ◌<◌, ◌+◌, Err, ap, sym, ◌∙◌, arith, true, inl, inr, lt-ltb, nat_lt, List, [], ℕ, length, take, Option, Some, None}
use Rattle.ct_run.proofs.Base.{IfSome, subst, refl, Command, problem_of, too_long}
use Rattle.std.proofs.lemmas.Bool.{cases_lt}
use Rattle.std.proofs.lemmas.List.{length-take, take_all}
use Rattle.ct_io.specs.Taking.{TakesAtMost}
use Rattle.ct_io.specs.declared.command.Command.TheVariants.{Telescope, Check, Reduce, Test, Close, Member, Gen, Demo}
use Rattle.ct_problem.specs.Limits.{most_bytes}
use Rattle.ct_run.specs.Output.{Output}
use Rattle.ct_run.specs.Out.{largest_text, out, Means}
use Rattle.ct_run.specs.Ready.{IsReadyFor, IsReadyIfRead}
use Rattle.ct_run.specs.Run.{Reports, IsTold, Answered}
use Rattle.ct_run.specs.Status.{status_of, outcome_of}
use Rattle.ct_run.specs.declared.status.Outcome.{Outcome}
use Rattle.ct_run.specs.declared.status.Status.{Status}
use Rattle.ct_run.proofs.Meaning.{means_of}
use Rattle.ct_run.specs.declared.status.Outcome.TheVariants as outcome
use Rattle.ct_run.specs.declared.status.Status.TheVariants as statuses

-- a text past the limit is refused
past_limit : (command : Command) (bytes : List ℕ) → largest_text < length bytes → problem_of command bytes ≡ Err too_long
unfolding problem_of
past_limit command bytes long = let whole : nat_lt most_bytes (length bytes) ≡ true = lt-ltb _ _ long in rw whole refl

-- no more than the first bytes of a text count
problem-front : (command : Command) (bytes : List ℕ) → problem_of command (take (largest_text + 1) bytes) ≡ problem_of command bytes
problem-front command bytes = elim (cases_lt largest_text (length bytes)) [
  | inl long ↦ past_limit command _ (rw length-take (omega arith)) ∙ sym (past_limit command bytes long)
  | inr short ↦ ap (problem_of command) (take_all (largest_text + 1) bytes (omega arith))
]

out-front : (command : Command) (bytes : List ℕ) → out command (take (largest_text + 1) bytes) ≡ out command bytes
unfolding out
out-front command bytes = elim (cases_lt largest_text (length bytes)) [
  | inl long ↦ let front : problem_of command (take (largest_text + 1) bytes) ≡ Err too_long = past_limit command _ (rw length-take (omega arith)) in
      rw (front, past_limit command bytes long) refl
  | inr short ↦ ap (out command) (take_all (largest_text + 1) bytes (omega arith))
]

ready-front :
    (command : Command) (bytes : List ℕ) (o : Outcome) → IsReadyFor command (take (largest_text + 1) bytes) o → IsReadyFor command bytes o
ready-front Check bytes o = subst (λ read. IsReadyIfRead read o) (problem-front Check bytes)
ready-front Test bytes o = subst (λ read. IsReadyIfRead read o) (problem-front Test bytes)
ready-front Reduce bytes o = λ ready. tt
ready-front Telescope bytes o = λ ready. tt
ready-front Close bytes o = λ ready. tt
ready-front Member bytes o = λ ready. tt
ready-front Gen bytes o = λ ready. tt
ready-front Demo bytes o = λ ready. tt

outcome_of-status : (o : Outcome) → outcome_of (status_of o) ≡ Some o
outcome_of-status outcome.Done = refl
outcome_of-status outcome.NoneFound = refl
outcome_of-status outcome.BadInput = refl
outcome_of-status outcome.Overflow = refl
outcome_of-status outcome.Usage = refl
outcome_of-status outcome.CheckNo = refl

-- a run that reported an output ended as this output means
ended :
    (command : Command) (bytes : List ℕ) (status : Status) (before after : Option (List ℕ)) →
    IsReadyFor command bytes (out command bytes).outcome → Reports (out command bytes) status before after →
    IfSome (outcome_of status) (Means command bytes)
ended command bytes status before after ready = by status
  where
    meant : (s : Status) (o : Outcome) → outcome_of s ≡ Some o → s ≡ status_of (out command bytes).outcome → Means command bytes o
    meant s o is same =
        let both : Some (out command bytes).outcome ≡ Some o = sym (outcome_of-status (out command bytes).outcome) ∙ ap outcome_of (sym same) ∙ is in
        let this : (out command bytes).outcome ≡ o = cc in
        subst (Means command bytes) this (means_of command bytes ready)

    by : (s : Status) → Reports (out command bytes) s before after → IfSome (outcome_of s) (Means command bytes)
    by statuses.Done reported = meant statuses.Done outcome.Done refl reported.0
    by statuses.NoneFound reported = meant statuses.NoneFound outcome.NoneFound refl reported.0
    by statuses.BadInput reported = meant statuses.BadInput outcome.BadInput refl reported.0
    by statuses.Overflow reported = meant statuses.Overflow outcome.Overflow refl reported.0
    by statuses.Usage reported = meant statuses.Usage outcome.Usage refl reported.0
    by statuses.CheckNo reported = meant statuses.CheckNo outcome.CheckNo refl reported.0
    by statuses.ReadFault reported = tt
    by statuses.WriteFault reported = tt
    by statuses.NoMemory reported = tt

-- what was taken of a source that tells its bytes
pub takes_known : (told left : Option (List ℕ)) (most : ℕ) → TakesAtMost most told left → IfSome told (λ bytes. TakesAtMost most (Some bytes) left)
takes_known None left most takes = tt
takes_known (Some bytes) left most takes = takes

-- what reports the output for what was read answers the source
pub Answered-front :
    (command : Command) (told before after : Option (List ℕ)) (text : List ℕ) (output : Output) (status : Status) →
    IfSome told (λ bytes. text ≡ take (largest_text + 1) bytes) →
    output ≡ out command text →
    IsReadyFor command text output.outcome →
    Reports output status before after →
    Answered command told status before after
Answered-front command None before after text output status front answered ready reported =
    let reports = subst (λ (given : Output). Reports given status before after) answered reported in
    let made = subst (λ (given : Output). IsReadyFor command text given.outcome) answered ready in
    record { bytes = text; of_source = tt; report = reports; certified = ended command text status before after made reports }
Answered-front command (Some bytes) before after text output status front answered ready reported =
    let same : output ≡ out command bytes = answered ∙ ap (out command) front ∙ out-front command bytes in
    let reports = subst (λ (given : Output). Reports given status before after) same reported in
    let of_front = ready-front command bytes output.outcome (subst (λ t. IsReadyFor command t output.outcome) front ready) in
    let made = subst (λ (given : Output). IsReadyFor command bytes given.outcome) same of_front in
    record { bytes = bytes; of_source = refl; report = reports; certified = ended command bytes status before after made reports }

-- what wrote nothing for a fault of the source or the memory does, whatever was read
pub Answered-unwritten :
    (command : Command) (told taken : Option (List ℕ)) (status : Status) → outcome_of status ≡ None →
    ((output : Output) → Reports output status taken taken) → Answered command told status taken taken
Answered-unwritten command told taken status none unwritten = by told
  where
    answered : (told : Option (List ℕ)) (bytes : List ℕ) → IsTold told bytes → Answered command told status taken taken
    answered told bytes is = record { bytes = bytes; of_source = is; report = unwritten (out command bytes); certified = rw none tt }

    by : (told : Option (List ℕ)) → Answered command told status taken taken
    by None = answered None [] tt
    by (Some bytes) = answered (Some bytes) bytes refl
