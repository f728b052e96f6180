use Rattle.ct_frac.proofs.Base.{◌≡◌, ◌∷◌, ◌++◌, ◌+◌, length, [], Ok, ◌∙◌, ap, sym, subst, arith, rules, take, append_assoc, name_with}
use Rattle.ct_frac.specs.Symbols.{checked_part, checked_without_parts}
use Rattle.ct_frac.proofs.DerivedFractions.{next_taken, part_taken}
use Rattle.ct_frac.proofs.delta.without_parts.Goals as goal

pub parting-preserved : goal.parting-preserved
parting-preserved c =
    let f = c.in-Some.f.now in
    let more = c.in-Some.more.now in
    let all = c.args.factors.now in
    let k = c.parting.place in
    let list : c.parting.rest.now ≡ f ∷ more = search rules in
    let seam : take k all ++ f ∷ more ≡ all = subst (λ r. take k all ++ r ≡ all) list c.parting.invariant.1 in
    let taken : take (k + 1) all ≡ take k all ++ f ∷ [] = next_taken k all f more seam in
    let part : checked_part (name_with c.args.i) c.args.n.now f (take k all ++ more) ≡ Ok c.in_ok-part.part =
    ap (λ fs. checked_part (name_with c.args.i) c.args.n.now f (fs ++ more)) (sym c.split_at.ensures.front) ∙ c.in_ok-part.ensures in (
      c.parting.invariant.0
          ∙ ap (checked_without_parts (name_with c.args.i) c.args.n.now c.parting.left (take k all)) list
          ∙ part_taken (name_with c.args.i) c.args.n.now c.parting.left c.in_ok-part.part c.in_ok-left.left
          (take k all) f more part c.in_ok-left.ensures
          ∙ ap (λ fs. checked_without_parts (name_with c.args.i) c.args.n.now c.in_ok-left.left fs more) (sym taken),
      ap (λ fs. fs ++ more) taken ∙ append_assoc (take k all) (f ∷ []) more ∙ seam,
      omega (arith, c.parting.invariant.2, ap length list),
    )
