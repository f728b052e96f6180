use Rattle.ct_cert.proofs.Base.{◌≡◌, map, length, All, no_operator, actions_of, summand_of}
use Rattle.ct_cert.specs.Arithmetic.{checked_differences}
use Rattle.ct_cert.specs.Certificates.{IsNamed}
use Rattle.ct_cert.proofs.arithmetic.differences.Given as goal

abbrev pub invariant-loop-part : goal.invariant-loop-part
invariant-loop-part l = record {
  same : checked_differences (actions_of l.algebra) l.sum (map summand_of l.rest) ≡ checked_differences (actions_of l.algebra) no_operator
      (map summand_of l.fn.parts);
  named : All (IsNamed l.algebra) l.rest;
}

abbrev pub decreases-loop-part : goal.decreases-loop-part
decreases-loop-part l = length l.rest
