use Rattle.ct_linsolve.proofs.Base.{◌∙◌, ap, sym}
use Rattle.ct_frac.specs.Normal.{quotient_of}
use Rattle.ct_linsolve.specs.Views.{pivots_of, rows_of}
use Rattle.ct_linsolve.proofs.NullEntries.{ratio_nonzero, known_as}
use Rattle.ct_linsolve.proofs.kernel.fraction.Goals as goal

pub quotient-requires : goal.quotient-requires
quotient-requires c = λ none.
    ratio_nonzero (rows_of c.args.left.now) (pivots_of c.args.pivots.now) c.args.free c.args.column c.requires
    (ap (λ r. r.1) (sym c.in_ok-r.ensures) ∙ none)

pub returns-clause-value : goal.returns-clause-value
returns-clause-value c = c.in_ok-f.ensures.written ∙ ap (λ r. quotient_of r.0 r.1) c.in_ok-r.ensures

pub returns-clause-known : goal.returns-clause-known
returns-clause-known c = known_as c.in_ok-r.ensures c.in_ok-f.ensures.written c.in_written_form.ensures c.in_ok-f.ensures.value
