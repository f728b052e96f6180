use Rattle.ct_module.proofs.Base.{◌≡◌, ◌∙◌, ap, rules}
use Rattle.std.proofs.Common.{replicate, slice_set, arith}
use Rattle.ct_module.specs.Modules.{written_zero}
use Rattle.ct_module.proofs.PlainLists.{set_only}
use Rattle.ct_module.proofs.certificates.only_at.Goals as goal

pub returns : goal.returns
returns c =
    let same : c.filling.counter ≡ c.args.dimension = omega arith in
    let all : c.filling.v.items ≡ replicate c.args.dimension written_zero = c.filling.invariant ∙ ap (λ n. replicate n written_zero) same in
    ap (λ xs. slice_set xs c.args.element c.args.f) all ∙ set_only written_zero c.args.f c.args.dimension c.args.element
