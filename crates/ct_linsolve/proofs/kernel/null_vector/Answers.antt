use Rattle.ct_linsolve.proofs.Base.{sym, ap, subst}
use Rattle.ct_linsolve.specs.EchelonViews.{eliminated_of}
use Rattle.ct_linsolve.specs.NullVector.{HavePivots}
use Rattle.ct_linsolve.specs.Views.{pivots_of, rows_of}
use Rattle.ct_linsolve.proofs.NullEntries.{have_pivots, free_small, null_vector_is}
use Rattle.ct_linsolve.proofs.kernel.null_vector.Goals as goal

pub null_vector_at-requires-clause-some : goal.null_vector_at-requires-clause-some
null_vector_at-requires-clause-some c =
    let e = c.args.echelon.now in
    subst (λ l. HavePivots (rows_of l) (pivots_of c.as_slice-pivots.result.now)) (sym c.as_slice-left.ensures.value)
    (subst (λ ps. HavePivots (rows_of e.left.items) (pivots_of ps)) (sym c.as_slice-pivots.ensures.value)
    (have_pivots e.certs e.width c.unwrap-free.result (eliminated_of e) c.unwrap-free.ensures e.formed))

pub null_vector_at-requires-clause-in_range : goal.null_vector_at-requires-clause-in_range
null_vector_at-requires-clause-in_range c =
    let e = c.args.echelon.now in
    free_small e.certs e.width c.unwrap-free.result (eliminated_of e) c.unwrap-free.ensures e.formed

pub returns-clause-certified : goal.returns-clause-certified
returns-clause-certified c =
    let e = c.args.echelon.now in
    null_vector_is (λ v. v.items) e.certs e.width c.unwrap-free.result (eliminated_of e) c.args.extra.now _ _
    (ap rows_of c.as_slice-left.ensures.value) (ap pivots_of c.as_slice-pivots.ensures.value) c.unwrap-free.ensures e.formed
    _ c.null_vector_at.ensures.steps c.null_vector_at.ensures.known
