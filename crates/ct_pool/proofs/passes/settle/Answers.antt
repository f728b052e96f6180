use Rattle.ct_pool.proofs.Gathered.{gathered, both_told}
use Rattle.ct_pool.proofs.passes.settle.Goals as goal

pub returns-clause-gathered : goal.returns-clause-gathered
returns-clause-gathered c =
    gathered c.args.claims.now.count c.next-next.result c.least-least.result c.args.root.now.joined
    (both_told c.args.root.now c.next-next.new.root c.args.claims.now.count c.next-next.result c.least-least.result c.next-next.ensures.unchanged
    c.requires.root.1 c.requires.back c.next-next.ensures.told c.least-least.ensures.told)
