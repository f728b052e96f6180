use Rattle.std.proofs.lemmas.Slice.Eq.{slice_eq-Decides}
use Rattle.ct_mono.specs.Equal.{mono_eq_decides}
use Rattle.ct_module.proofs.same.same_basis.Goals as goal

pub returns : goal.returns
returns c = slice_eq-Decides mono_eq_decides c.args.xs.now c.args.ys.now c.eq.result c.eq.ensures
