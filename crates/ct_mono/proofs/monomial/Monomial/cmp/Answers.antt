use Rattle.std.proofs.Common.{sym, ◌∙◌, ap₂, nat_cmp, ap}
use Rattle.std.specs.Ordering.{ordering_then}
use Rattle.std.specs.Cmp.Lexicographic.{slice_cmp}
use Rattle.ct_algebra.proofs.MonomialLists.{mono_cmp_by_parts, then-not-Equal}
use Rattle.ct_mono.proofs.monomial.Monomial.cmp.Goals as goal

pub returns-in-Equal : goal.returns-in-Equal
returns-in-Equal c =
    let xs = c.self.inside.exps in
    let ys = c.other.inside.exps in
    mono_cmp_by_parts xs ys c.cmp.result _ c.self.invariant.0 c.other.invariant.0 c.self.view_is c.other.view_is
    (c.cmp.ensures ∙ ap₂ nat_cmp c.total.ensures.value c.total-2.ensures.value)
    (c.cmp-in-Equal.ensures ∙ ap₂ (slice_cmp nat_cmp) c.as_slice-mine.ensures c.as_slice-its.ensures
    ∙ ap (λ t. ordering_then t (slice_cmp nat_cmp xs ys)) (sym c.in-Equal.is))

pub returns-in_default : goal.returns-in_default
returns-in_default c =
    mono_cmp_by_parts c.self.inside.exps c.other.inside.exps c.cmp.result _ c.self.invariant.0 c.other.invariant.0
    c.self.view_is c.other.view_is
    (c.cmp.ensures ∙ ap₂ nat_cmp c.total.ensures.value c.total-2.ensures.value)
    (then-not-Equal _ _ c.in_default.not-Equal)
