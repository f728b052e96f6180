-- A problem that isn't prepared is bad input, or overflows. Lemma `refused_ready`, cited where a call answers so, and `refused`, which
-- what a run means stands on.
use Rattle.ct_run.proofs.Base.{sym, subst, ℕ, List, Option, Some, None, Result, Ok, Err, Reading}
use Rattle.std.specs.Prelude.{IfOk, IsSomeAnd, ◌≡◌}
use Rattle.ct_setup.specs.Setup.{SetupRefusal, ZeroDen, Unbuilt, Overflow}
use Rattle.ct_run.specs.Lines.{overflow_in_setup, setup_line}
use Rattle.ct_run.specs.Output.{Output, output_of}
use Rattle.ct_run.specs.Ready.{IsReadyWhere}
use Rattle.ct_run.specs.declared.output.Output as made
use Rattle.ct_run.specs.declared.status.Outcome.{Outcome}
use Rattle.ct_run.specs.declared.status.Outcome.TheVariants as outcome

pub refused :
    (M : Outcome → List ℕ → Type 0) → ((text : List ℕ) → M outcome.BadInput text) → ((text : List ℕ) → M outcome.Overflow text) →
    (p : Reading) (e : SetupRefusal) → M (setup_line p e).outcome (setup_line p e).text
unfolding overflow_in_setup
refused M bad over p (ZeroDen i) = bad _
refused M bad over p (Unbuilt named r) = bad _
refused M bad over p (Overflow phase kind) = over _

ready_if : (p : Reading) (f : Option SetupRefusal) (o : Output) → IsSomeAnd f (λ e. o ≡ setup_line p e) → IsReadyWhere o.outcome p
ready_if p None o none = absurd none
ready_if p (Some e) o is =
    subst (λ (given : Output). IsReadyWhere given.outcome p) (sym is) (refused (λ ended text. IsReadyWhere ended p) (λ text. tt) (λ text. tt) p e)

pub refused_ready :
    {E : Type 0} (p : Reading) (f : Option SetupRefusal) (r : Result made.Output E) →
    IfOk r (λ output. IsSomeAnd f (λ e. output_of output ≡ setup_line p e)) → IfOk r (λ output. IsReadyWhere output.outcome p)
refused_ready p f (Ok output) told = ready_if p f (output_of output) told
refused_ready p f (Err e) told = tt
