use Rattle.ct_poly.proofs.Base.{◌≡◌, Option, Some, None, IfSome, MatchOption, Mono, ◌·◌, Divides}
use Rattle.ct_poly.specs.Cells.{AreInBox, AreMultiplesInBox}
use Rattle.ct_poly.proofs.BoundingBoxes.{beside_is}
use Rattle.ct_poly.proofs.cell_division.room_beside.Goals as goal

pub returns : goal.returns
returns c = by c.over.result c.over.ensures.divides
  where
    greatest : Mono
    greatest = c.in_ok-greatest_exponents.field-0

    by : (o : Option Mono) → MatchOption o (Divides greatest c.args.tops.now → ⊥) (λ m. m · greatest ≡ c.args.tops.now)
        → IfSome o (λ room. Divides room c.args.tops.now × AreMultiplesInBox c.args.tops.now room c.args.by.now ×
        AreInBox c.args.tops.now c.args.by.now)
    by None none = tt
    by (Some room) whole = beside_is c.args.tops.now greatest room c.args.by.now c.in_ok-greatest_exponents.ensures whole
