use Rattle.ct_cert.proofs.Base.{◌≡◌, length, All}
use Rattle.ct_cert.specs.Certificates.{names_of, IsSmall}
use Rattle.ct_cert.specs.Freedom.{term_lacks}
use Rattle.ct_cert.proofs.freedom.term_is_free.Given as goal

abbrev pub invariant-loop-part : goal.invariant-loop-part
invariant-loop-part l = record {
  same : term_lacks (names_of l.rest) l.mono l.coef ≡ term_lacks (names_of l.fn.parts) l.mono l.coef;
  small : All IsSmall l.rest;
}

abbrev pub decreases-loop-part : goal.decreases-loop-part
decreases-loop-part l = length l.rest
