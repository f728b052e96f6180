use Rattle.ct_linsolve.proofs.Base.{◌∙◌, sym, ap, map, take, drop}
use Rattle.ct_linsolve.specs.EchelonViews.{working_of}
use Rattle.ct_linsolve.specs.Elimination.{with_unit}
use Rattle.ct_linsolve.specs.Views.{rows_of, pivots_of}
use Rattle.ct_linsolve.proofs.Pivots.{one_nonzero}
use Rattle.ct_linsolve.proofs.EliminationKept.{seen, echelon_form}
use Rattle.ct_linsolve.proofs.elimination.eliminate.Goals as goal

pub all_columns-requires : goal.all_columns-requires
all_columns-requires c = λ vanishes. one_nonzero (sym c.in_ok-prev.ensures ∙ vanishes)

pub returns-clause-certified : goal.returns-clause-certified
returns-clause-certified c =
    let A = c.args.matrix.now in
    seen (λ row. row.items) A.certs A.width A.rows.items _ _ _ (working_of c.in_ok-done.done) _ _ A.filled
    (c.in_ok-rows.ensures ∙ ap (λ s. with_unit (rows_of s)) c.as_slice.ensures.value) (ap pivots_of c.new.ensures.items) c.in_ok-prev.ensures
    c.in_ok-done.ensures (c.in_ok-left.ensures ∙ ap (λ s. map (take A.width) (rows_of s)) c.as_slice-2.ensures.value)
    (c.in_ok-right.ensures ∙ ap (λ s. map (drop A.width) (rows_of s)) c.as_slice-3.ensures.value)

pub invariant_of-result : goal.invariant_of-result
invariant_of-result c =
    let A = c.args.matrix.now in
    record {
      within = A.within;
      formed = echelon_form _ A.certs A.width _ _ (
          seen (λ row. row.items) A.certs A.width A.rows.items _ _ _ (working_of c.in_ok-done.done) _ _ A.filled
          (c.in_ok-rows.ensures ∙ ap (λ s. with_unit (rows_of s)) c.as_slice.ensures.value) (ap pivots_of c.new.ensures.items) c.in_ok-prev.ensures
          c.in_ok-done.ensures (c.in_ok-left.ensures ∙ ap (λ s. map (take A.width) (rows_of s)) c.as_slice-2.ensures.value)
          (c.in_ok-right.ensures ∙ ap (λ s. map (drop A.width) (rows_of s)) c.as_slice-3.ensures.value));
    }
