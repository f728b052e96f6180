-- Tests in an order: the outcome is a value, or the first test that ended them. (This project's own.)
--     Ending             a test failed at its place, or its arithmetic overflowed there
--     Tested A           a value, or the ending
--     test_of p c        the test of a checked truth value: it passes where that is true
--     AnswersTest t r    what a call that makes the tests t may answer: that they pass, what ends them, or out of memory
--     IfNo r P           P of the place where a call found that a test fails
-- Cited by the tests and by every call that makes some.
use Rattle.std.specs.Prelude.{Ok, Err, Bool, true, false, Some, None}
use Rattle.std.proofs.Common.{Result, Option}
use Rattle.ct_checked.specs.Checked.{Checked, AnswersAs}
use Rattle.ct_checked.specs.declared.fault.Kind.{Kind}
use Rattle.ct_cert.specs.declared.place.Place.{Place}
use Rattle.ct_cert.specs.declared.place.Stop.{Stop}
use Rattle.ct_cert.specs.declared.place.Stop.TheVariants.{No, Overflow, NoMemory}

pub data Ending : Type 0 where
  Fails : Place → Ending
  Overflows : Place → Kind → Ending

abbrev pub Tested : Type 0 → Type 0
Tested A = Result A Ending

abbrev pub test_of : Place → Checked Bool → Tested (Unit {0})
test_of p (Ok true) = Ok tt
test_of p (Ok false) = Err (Fails p)
test_of p (Err k) = Err (Overflows p k)

-- what ended the tests of the code
abbrev pub ending_of : Stop → Option Ending
ending_of (No p) = Some (Fails p)
ending_of (Overflow p k) = Some (Overflows p k)
ending_of NoMemory = None

abbrev pub AnswersTest : Tested (Unit {0}) → Result (Unit {0}) Stop → Type 0
AnswersTest t r = AnswersAs ending_of (λ u. u) t r

abbrev pub IfNo : Result (Unit {0}) Stop → (Place → Type 0) → Type 0
IfNo (Err (No p)) P = P p
IfNo _ P = Unit {0}
