use Rattle.ct_cert.proofs.Base.{◌≡◌, map, length, All, actions_of, summand_of}
use Rattle.ct_cert.specs.Certificates.{IsNamed}
use Rattle.ct_cert.specs.Tests.{part_test, for_each}
use Rattle.ct_cert.proofs.tests_in_order.factors.Given as goal

abbrev pub invariant-loop-part : goal.invariant-loop-part
invariant-loop-part l = record {
  same : for_each (part_test (actions_of l.algebra) l.scale) (map summand_of l.rest) ≡ for_each (part_test (actions_of l.algebra) l.scale)
      (map summand_of l.fn.parts);
  named : All (IsNamed l.algebra) l.rest;
}

abbrev pub decreases-loop-part : goal.decreases-loop-part
decreases-loop-part l = length l.rest
