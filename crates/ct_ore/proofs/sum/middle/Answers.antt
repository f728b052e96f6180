use Rattle.ct_ore.proofs.Base.{subst}
use Rattle.ct_ore.specs.PairMeasures.{HasNumbers}
use Rattle.ct_ore.proofs.SortedSums.{numbers-append}
use Rattle.ct_ore.proofs.sum.middle.Goals as goal

pub written_front-requires : goal.written_front-requires
written_front-requires c =
    (numbers-append c.split_at.result.0.now c.split_at.result.1.now (subst HasNumbers c.split_at.ensures.by_index.0 c.requires.numbers)).1
