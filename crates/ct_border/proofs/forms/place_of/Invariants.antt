use Rattle.ct_border.proofs.Base.{◌≡◌, ◌+◌, length}
use Rattle.ct_border.specs.Known.{place_of, place_from}
use Rattle.ct_border.proofs.forms.place_of.Given as goal

abbrev pub invariant-seeking : goal.invariant-seeking
invariant-seeking l = (place_of l.fn.known l.m ≡ place_from l.place l.rest l.m) × (l.place + length l.rest ≡ length l.fn.known)

abbrev pub decreases-seeking : goal.decreases-seeking
decreases-seeking l = length l.rest
