-- What the code has read of a problem before its end.
--     definition_of line    what a `let` line says
--     reading_of_draft d    what a draft says
--     IsFormed d            a draft that is well formed
use Rattle.std.specs.Prelude.{string_bytes}
use Rattle.ct_problem.specs.declared.reading.body.Draft.{Draft}
use Rattle.ct_problem.specs.declared.reading.let_lines.LetLine.{LetLine}
use Rattle.ct_problem.specs.LetLines.{Definition}
use Rattle.ct_problem.specs.ReadProblem.{Reading, definitions_of}
use Rattle.ct_problem.specs.WellFormed.{IsWellFormed}

abbrev pub definition_of : LetLine → Definition
definition_of l = record { text = string_bytes l.text; form = l.form }

unfoldable pub reading_of_draft : Draft → Reading
reading_of_draft d = record {
  variables = d.names.variables;
  definitions = definitions_of d.names.lets d.lets;
  generators = d.gens;
  dens = d.dens;
  targets = d.targets;
  orders = d.orders;
  degrees = d.degrees;
}

abbrev pub IsFormed : Draft → Type 0
IsFormed d = IsWellFormed d.names.variables d.lets d.names.lets d.gens d.dens d.targets d.orders d.degrees
