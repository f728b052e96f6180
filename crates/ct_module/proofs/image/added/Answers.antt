use Rattle.ct_module.proofs.Additions.{adding_start, adding_more}
use Rattle.ct_module.proofs.image.added.Goals as goal

pub adding-init : goal.adding-init
adding-init c = adding_start c.args.q.now c.args.sum.now c.args.v.now c.in_ok-made.made.items c.in_ok-made.ensures.items c.requires

pub adding-preserved : goal.adding-preserved
adding-preserved c =
    adding_more c.args.q.now c.args.sum.now c.args.v.now c.adding.made.items c.adding.left.now c.adding.right.now c.in-Some.more.now
    c.in-Some-split_first.others.now c.append.new.v.items c.in-Some.x.now c.in-Some-split_first.y.now c.in_ok-with_product.field-0 c.adding.invariant
    c.in-Some.ensures.cases.0 c.in-Some-split_first.ensures.cases.0 c.in_ok-with_product.ensures.steps c.in_ok-with_product.ensures.value
    c.in_ok-append.ensures
