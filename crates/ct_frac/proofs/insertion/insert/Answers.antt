use Rattle.ct_frac.proofs.Base.{◌∙◌, ap, insert}
use Rattle.ct_frac.specs.Code.{place_in}
use Rattle.ct_frac.proofs.Naming.{insert_place}
use Rattle.ct_frac.proofs.insertion.insert.Goals as goal

pub returns : goal.returns
returns c =
    c.in_ok-insert.ensures.items
    ∙ ap (λ i. insert c.args.factors.now.items i c.args.f) (c.place_of-place.ensures.value ∙ ap (place_in c.args.f.poly) c.as_slice.ensures.value)
    ∙ insert_place c.args.f c.args.factors.now.items
