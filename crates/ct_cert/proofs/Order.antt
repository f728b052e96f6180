-- Where the tests end, and what each test is as code makes it. Main lemmas `tests_at_..`: the first of them that ends ends
-- all; `denominator_made`, `part_made`, `zero_telescoper`, `free_telescoper`. Cited by `all_tests` and the tests' functions.
use Rattle.ct_cert.proofs.Base.{◌≡◌, Ok, Err, Bool, true, false, ◌&&◌, not, IsTrue, ◌↔◌, List, sym, ◌∙◌, ap, ap₂, Name, Polynomial, polys, Action}
use Rattle.ct_cert.proofs.Base.{Operator, operator_group, no_operator, Certificate, place-name_with, Part, summand_of, ◌>>=◌}
use Rattle.ct_cert.specs.declared.place.Support.{Support}
use Rattle.ct_cert.specs.Certificates.{IsSmall}
use Rattle.ct_cert.specs.Arithmetic.{checked_part}
use Rattle.ct_cert.specs.Freedom.{operator_lacks}
use Rattle.ct_cert.specs.Testing.{Tested, Ending, test_of}
use Rattle.ct_cert.specs.Tests.{found_test, telescoper_test, scale_test, denominator_test, part_test, for_each, identity_test, tests}
use Rattle.ct_cert.proofs.Deciding.{decided, polynomial_zero_decides, operator_zero_decides}
use Rattle.ct_cert.specs.declared.place.Place.TheVariants as places

after : (t rest : Tested (Unit {0})) (u : Unit {0}) → t ≡ Ok u → (t >>= (λ _. rest)) ≡ rest
after t rest u passed = ap (λ r. r >>= (λ _. rest)) passed

ends : (t rest : Tested (Unit {0})) (e : Ending) → t ≡ Err e → (t >>= (λ _. rest)) ≡ Err e
ends t rest e ended = ap (λ r. r >>= (λ _. rest)) ended

module _ (a : Name → Action) (summed : List Name) (generators : List Operator) (due found : Support) (c : Certificate) where
  abbrev pub from_factors : Tested (Unit {0})
  from_factors = do
    _ ← for_each (part_test a c.scale) c.summands
    identity_test a generators c

  abbrev pub from_denominators : Tested (Unit {0})
  from_denominators = do
    _ ← for_each denominator_test c.summands
    from_factors

  abbrev pub from_scale : Tested (Unit {0})
  from_scale = do
    _ ← scale_test c.scale
    from_denominators

  abbrev pub from_telescoper : Tested (Unit {0})
  from_telescoper = do
    _ ← telescoper_test summed c.telescoper
    from_scale

  pub tests_at_found : (e : Ending) → found_test due found ≡ Err e → tests a summed generators due found c ≡ Err e
  unfolding tests
  tests_at_found = ends (found_test due found) from_telescoper

  module _ (u : Unit {0}) (same : found_test due found ≡ Ok u) where
    past_found : tests a summed generators due found c ≡ from_telescoper
    unfolding tests
    past_found = after (found_test due found) from_telescoper u same

    pub tests_at_telescoper : (e : Ending) → telescoper_test summed c.telescoper ≡ Err e → tests a summed generators due found c ≡ Err e
    tests_at_telescoper e ended = past_found ∙ ends (telescoper_test summed c.telescoper) from_scale e ended

    module _ (v : Unit {0}) (free : telescoper_test summed c.telescoper ≡ Ok v) where
      past_telescoper : tests a summed generators due found c ≡ from_scale
      past_telescoper = past_found ∙ after (telescoper_test summed c.telescoper) from_scale v free

      pub tests_at_scale : (e : Ending) → scale_test c.scale ≡ Err e → tests a summed generators due found c ≡ Err e
      tests_at_scale e ended = past_telescoper ∙ ends (scale_test c.scale) from_denominators e ended

      module _ (w : Unit {0}) (nonzero : scale_test c.scale ≡ Ok w) where
        past_scale : tests a summed generators due found c ≡ from_denominators
        past_scale = past_telescoper ∙ after (scale_test c.scale) from_denominators w nonzero

        pub tests_at_denominators :
            (e : Ending) → for_each denominator_test c.summands ≡ Err e → tests a summed generators due found c ≡ Err e
        tests_at_denominators e ended = past_scale ∙ ends (for_each denominator_test c.summands) from_factors e ended

        module _ (x : Unit {0}) (denominators : for_each denominator_test c.summands ≡ Ok x) where
          past_denominators : tests a summed generators due found c ≡ from_factors
          past_denominators = past_scale ∙ after (for_each denominator_test c.summands) from_factors x denominators

          pub tests_at_factors :
              (e : Ending) → for_each (part_test a c.scale) c.summands ≡ Err e → tests a summed generators due found c ≡ Err e
          tests_at_factors e ended = past_denominators ∙ ends (for_each (part_test a c.scale) c.summands) (identity_test a generators c) e ended

          pub tests_at_identity :
              (y : Unit {0}) → for_each (part_test a c.scale) c.summands ≡ Ok y →
              tests a summed generators due found c ≡ identity_test a generators c
          tests_at_identity y parts = past_denominators ∙ after (for_each (part_test a c.scale) c.summands) (identity_test a generators c) y parts

-- ---- the tests as code makes them

pub denominator_made :
    (p : Part) (r : Bool) → IsSmall p → IsTrue r ↔ (p.denominator ≡ polys.zero) →
    test_of (places.Denominator p.name) (Ok (not r)) ≡ denominator_test (summand_of p)
denominator_made p r small told =
    ap₂ (λ k b. test_of (places.Denominator k) (Ok (not b))) (sym (place-name_with p.name small))
    (decided r _ told (polynomial_zero_decides p.denominator))

pub part_made :
    (a : Name → Action) (h : Polynomial) (p : Part) → IsSmall p →
    test_of (places.Part p.name) (checked_part a h (summand_of p)) ≡ part_test a h (summand_of p)
part_made a h p small = ap (λ k. test_of (places.Part k) (checked_part a h (summand_of p))) (sym (place-name_with p.name small))

pub scale_made :
    (h : Polynomial) (r : Bool) → IsTrue r ↔ (h ≡ polys.zero) → test_of places.Scale (Ok (not r)) ≡ scale_test h
scale_made h r told = ap (λ b. test_of places.Scale (Ok (not b))) (decided r _ told (polynomial_zero_decides h))

zero_made : (p : Operator) (r : Bool) → IsTrue r ↔ (p ≡ no_operator) → r ≡ operator_group.is_zero p
unfolding no_operator
zero_made p r told = decided r _ told (operator_zero_decides p)

pub zero_telescoper :
    (summed : List Name) (p : Operator) (r : Bool) → IsTrue r ↔ (p ≡ no_operator) → r ≡ true →
    test_of places.Telescoper (Ok false) ≡ telescoper_test summed p
zero_telescoper summed p r told zero =
    ap (λ b. test_of places.Telescoper (Ok (not b && operator_lacks summed p))) (sym zero ∙ zero_made p r told)

pub free_telescoper :
    (summed : List Name) (p : Operator) (r free : Bool) → IsTrue r ↔ (p ≡ no_operator) → r ≡ false →
    free ≡ operator_lacks summed p → test_of places.Telescoper (Ok free) ≡ telescoper_test summed p
free_telescoper summed p r free told nonzero is =
    ap₂ (λ b f. test_of places.Telescoper (Ok (not b && f))) (sym nonzero ∙ zero_made p r told) is
