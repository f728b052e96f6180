use Rattle.std.proofs.Common.{◌≡◌}
use Rattle.ct_mono.specs.Listing.{below}
use Rattle.ct_mono.proofs.listing.up_to.Given as goal

abbrev pub invariant-loop-t : goal.invariant-loop-t
invariant-loop-t l = l.all.items ≡ below l.names l.t
