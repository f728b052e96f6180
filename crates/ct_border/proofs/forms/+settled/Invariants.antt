use Rattle.ct_border.proofs.Base.{All, actions_of, length}
use Rattle.ct_mono.specs.Rank.{mono_rank}
use Rattle.ct_ore.specs.Terms.{op_entries}
use Rattle.ct_border.specs.Known.{IsKnown}
use Rattle.ct_border.proofs.FormSums.{IsSettling}
use Rattle.ct_border.proofs.forms.+settled.Given as goal

abbrev pub decreases-settled : goal.decreases-settled
decreases-settled l = mono_rank l.m.now

abbrev pub invariant-adding : goal.invariant-adding
invariant-adding l =
    IsSettling (actions_of l.ideal.algebra.now) l.ideal.generators.now l.ideal.basis.now l.m l.first.coef l.sum.items (op_entries l.rest)
    × All (IsKnown (actions_of l.ideal.algebra.now) l.ideal.generators.now l.ideal.basis.now) l.known.items

abbrev pub decreases-adding : goal.decreases-adding
decreases-adding l = length l.rest
