use Rattle.ct_module.proofs.Base.{[], ◌∷◌, ◌++◌, ◌∙◌, ap, sym, subst, append_assoc}
use Rattle.ct_frac.specs.FractionLaws.{EachIsWritten}
use Rattle.ct_module.specs.Denominators.{parts_of}
use Rattle.ct_module.proofs.SummedParts.{written_both}
use Rattle.ct_module.proofs.denominators.append_parts.Goals as goal

pub appending-preserved : goal.appending-preserved
appending-preserved c = (
  ap (λ xs. xs ++ parts_of c.args.algebra.now c.in-Some.more.now) c.in_ok-append.ensures
      ∙ append_assoc c.appending.parts.items (c.in_ok-summed_part.field-0 ∷ []) (parts_of c.args.algebra.now c.in-Some.more.now)
      ∙ ap (λ w. c.appending.parts.items ++ w ∷ parts_of c.args.algebra.now c.in-Some.more.now) c.in_ok-summed_part.ensures.value
      ∙ ap (λ l. c.appending.parts.items ++ parts_of c.args.algebra.now l) (sym c.in-Some.ensures.cases.0)
      ∙ c.appending.invariant.0,
  subst EachIsWritten (sym c.in_ok-append.ensures)
      (written_both c.appending.parts.items (c.in_ok-summed_part.field-0 ∷ []) c.appending.invariant.1 (c.in_ok-summed_part.ensures.written, tt)),
)
