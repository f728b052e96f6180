use Rattle.ct_poly.proofs.Base.{◌≡◌, ◌+◌, ◌<◌, Option, Some, None, IfSome, MatchOption, Mono, ◌·◌, total, Divides, largest_degree}
use Rattle.ct_poly.specs.Cells.{AreInBox, AreProductsInBox}
use Rattle.ct_poly.proofs.CrossCells.{products_inside}
use Rattle.ct_poly.proofs.crossing.box_of_product.Goals as goal

pub returns : goal.returns
returns c = by c.times.result c.times.ensures
  where
    first : Mono
    first = c.in_ok-first.first

    second : Mono
    second = c.in_ok-second.second

    by : (o : Option Mono) → MatchOption o (largest_degree < total first + total second) (λ m. m ≡ first · second)
        → IfSome o (λ m. (w : Mono) → Divides m w → AreInBox w c.args.p.now × AreInBox w c.args.q.now × AreProductsInBox w c.args.p.now c.args.q.now)
    by None high = tt
    by (Some m) product =
        λ w inside. products_inside first second m w c.args.p.now c.args.q.now c.in_ok-first.ensures c.in_ok-second.ensures product inside
