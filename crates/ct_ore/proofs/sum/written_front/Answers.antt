use Rattle.ct_ore.proofs.Base.{refl, sym}
use Rattle.ct_ore.proofs.SortedSums.{walking_step, front_walked}
use Rattle.ct_ore.proofs.sum.written_front.Goals as goal

pub falling-preserved : goal.falling-preserved
falling-preserved c = walking_step c.in-Some-split_first.ensures.cases.0 (sym c.in-Less.ensures) c.falling.invariant

pub returns-in_default-compare : goal.returns-in_default-compare
returns-in_default-compare c = front_walked _ refl c.falling.invariant
