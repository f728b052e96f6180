use Rattle.ct_linsolve.proofs.Base.{◌≡◌, ◌∙◌, sym, ap, subst, Ok}
use Rattle.ct_frac.specs.FractionLaws.{EachIsWritten}
use Rattle.ct_linsolve.specs.NullVector.{all_cleared, null_fractions}
use Rattle.ct_linsolve.specs.Views.{pivots_of, rows_of}
use Rattle.ct_linsolve.proofs.NullEntries.{all_written, entries_nonzero}
use Rattle.ct_linsolve.proofs.kernel.null_vector_at.Goals as goal

pub all_cleared-requires : goal.all_cleared-requires
all_cleared-requires c =
    subst EachIsWritten (sym (c.as_slice.ensures.value ∙ c.in_ok-list.ensures.value))
    (all_written (rows_of c.args.left.now) (pivots_of c.args.pivots.now) c.args.free c.args.width c.in_ok-list.ensures.known)

pub slimmed-requires : goal.slimmed-requires
slimmed-requires c =
    let left = rows_of c.args.left.now in
    let ps = pivots_of c.args.pivots.now in
    let fits : all_cleared (null_fractions c.args.width left ps c.args.free) ≡ Ok c.in_ok-entries.entries.items =
    ap all_cleared (sym (c.as_slice.ensures.value ∙ c.in_ok-list.ensures.value)) ∙ c.in_ok-entries.ensures in
    (c.args.free, entries_nonzero left ps c.args.free c.args.width c.requires.some c.in_ok-list.ensures.known _ fits c.requires.in_range)
