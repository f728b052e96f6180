-- The tests of a report that found a telescoper, in their order. (This project's own.)
--     found_test                       the support of the ending is the one that is due
--     telescoper_test, scale_test      P is not zero and free of the summed names;  h is not zero
--     denominator_test, part_test      d of a summand is not zero;  its H·N is h
--     identity_test                    h·P is the sum of all H·E and of the cofactors' products
--     tests                            all of them: each denominator before each part, in the order of the summands
--     EachNamed j c P                  P holds of each summand whose name has the number j
--     Holds                            what the test of a place asks, as a fact
-- Cited by `check_found`.
use Rattle.std.specs.Prelude.{◌≡◌, ◌≢◌, ℕ, Bool, ◌&&◌, not, eqb, Ok, List}
use Rattle.std.specs.List.{All}
use Rattle.ct_algebra.specs.Names.{Name, place}
use Rattle.ct_algebra.specs.Polynomial.{Polynomial, polys, times}
use Rattle.ct_algebra.specs.Actions.{Action}
use Rattle.ct_algebra.specs.Operators.{Operator, operator_group, no_operator}
use Rattle.ct_algebra.specs.FreeOf.{OperatorIsFreeOf}
use Rattle.ct_algebra.specs.Certificate.{Summand, Certificate, difference_denominator, IsIdentity}
use Rattle.ct_cert.specs.declared.place.Place.TheVariants.{Found, Telescoper, Scale, Denominator, Part}
use Rattle.ct_cert.specs.declared.place.Place.TheVariants as places
use Rattle.ct_cert.specs.declared.place.Place.{Place}
use Rattle.ct_cert.specs.declared.place.Support.{Support}
use Rattle.ct_checked.specs.Checked.{◌>>=◌}
use Rattle.ct_checked.specs.Traversal.{checked_fold}
use Rattle.ct_cert.specs.Testing.{Tested, test_of}
use Rattle.ct_cert.specs.Arithmetic.{checked_part, checked_identity}
use Rattle.ct_cert.specs.Freedom.{operator_lacks}

abbrev pub same_support : Support → Support → Bool
same_support due found =
    eqb found.index due.index && (eqb found.order due.order && eqb found.degree due.degree)

abbrev pub found_test : Support → Support → Tested (Unit {0})
found_test due found = test_of Found (Ok (same_support due found))

-- nonzero, and free of the names
abbrev pub telescoper_test : List Name → Operator → Tested (Unit {0})
telescoper_test summed p = test_of Telescoper (Ok (not (operator_group.is_zero p) && operator_lacks summed p))

abbrev pub scale_test : Polynomial → Tested (Unit {0})
scale_test h = test_of Scale (Ok (not (polys.is_zero h)))

abbrev pub denominator_test : Summand → Tested (Unit {0})
denominator_test s = test_of (Denominator (place s.name)) (Ok (not (polys.is_zero s.denominator)))

-- a test for each summand in order
abbrev pub for_each : (Summand → Tested (Unit {0})) → List Summand → Tested (Unit {0})
for_each test ss = checked_fold (λ _ s. test s) tt ss

-- a fact about each summand whose name has the number j
abbrev pub EachNamed : ℕ → Certificate → (Summand → Type 0) → Type 0
EachNamed j c P = All (λ s. place s.name ≡ j → P s) c.summands

module _ (a : Name → Action) where
  abbrev pub part_test : Polynomial → Summand → Tested (Unit {0})
  part_test h s = test_of (Part (place s.name)) (checked_part a h s)

  abbrev pub identity_test : List Operator → Certificate → Tested (Unit {0})
  identity_test generators c = test_of places.Identity (checked_identity a generators c)

  unfoldable pub tests : List Name → List Operator → Support → Support → Certificate → Tested (Unit {0})
  tests summed generators due found c = do
    _ ← found_test due found
    _ ← telescoper_test summed c.telescoper
    _ ← scale_test c.scale
    _ ← for_each denominator_test c.summands
    _ ← for_each (part_test c.scale) c.summands
    identity_test generators c

  -- ---- what the tests ask

  abbrev pub Holds : List Name → List Operator → Support → Support → Certificate → Place → Type 0
  Holds summed generators due found c Found = found ≡ due
  Holds summed generators due found c Telescoper = (c.telescoper ≢ no_operator) × OperatorIsFreeOf summed c.telescoper
  Holds summed generators due found c Scale = c.scale ≢ polys.zero
  Holds summed generators due found c (Denominator j) = EachNamed j c (λ s. s.denominator ≢ polys.zero)
  Holds summed generators due found c (Part j) = EachNamed j c (λ s. c.scale ≡ times s.factor (difference_denominator a s))
  Holds summed generators due found c places.Identity = IsIdentity a generators c
