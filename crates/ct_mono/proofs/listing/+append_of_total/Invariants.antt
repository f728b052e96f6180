use Rattle.std.proofs.Common.{◌+◌, length}
use Rattle.ct_mono.proofs.listing.+append_of_total.Given as goal

abbrev pub decreases-append_of_total : goal.decreases-append_of_total
decreases-append_of_total l = length l.names.now + l.t
