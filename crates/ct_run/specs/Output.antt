-- The output of a run.
--     Output            an outcome and a text
--     output_of made    the output that a value of the code holds
use Rattle.std.specs.Prelude.{ℕ, List}
use Rattle.ct_run.specs.declared.output.Output as made
use Rattle.ct_run.specs.declared.status.Outcome.{Outcome}

pub record Output : Type 0 where
  pub outcome : Outcome
  pub text : List ℕ

abbrev pub output_of : made.Output → Output
output_of output = record { outcome = output.outcome; text = output.text.items }
