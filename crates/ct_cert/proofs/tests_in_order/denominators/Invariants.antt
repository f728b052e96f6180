use Rattle.ct_cert.proofs.Base.{◌≡◌, map, length, All, summand_of}
use Rattle.ct_cert.specs.Certificates.{IsSmall}
use Rattle.ct_cert.specs.Tests.{denominator_test, for_each}
use Rattle.ct_cert.proofs.tests_in_order.denominators.Given as goal

abbrev pub invariant-loop-part : goal.invariant-loop-part
invariant-loop-part l = record {
  same : for_each denominator_test (map summand_of l.rest) ≡ for_each denominator_test (map summand_of l.fn.parts);
  small : All IsSmall l.rest;
}

abbrev pub decreases-loop-part : goal.decreases-loop-part
decreases-loop-part l = length l.rest
