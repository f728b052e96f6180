-- What it means that a test fails: what stands at its place is false. Main lemmas `failing_refutes`, and `answer_refutes`, cited by `check_found`.
-- The first test that ends the others made its ending itself, with its own place and a truth value that is false.
use Rattle.ct_cert.proofs.Base.{◌≡◌, ◌≢◌, refl, ℕ, suc, Result, Ok, Err, Bool, true, false, ◌&&◌, not, List, [], ◌∷◌, ◌⊎◌, Contains, Decides, sym, ap}
use Rattle.ct_cert.proofs.Base.{subst, inl, inr, arith, eq-eqb, All-contains, Name, place, polys, times, Action, Operator, operator_group}
use Rattle.ct_cert.proofs.Base.{no_operator, Summand, Certificate, difference_denominator, Checked, ◌>>=◌}
use Rattle.ct_cert.specs.declared.place.Place.{Place}
use Rattle.ct_cert.specs.declared.place.Stop.{Stop}
use Rattle.ct_cert.specs.declared.place.Stop.TheVariants.{No, Overflow, NoMemory}
use Rattle.ct_cert.specs.declared.place.Support.{Support}
use Rattle.ct_cert.specs.Arithmetic.{checked_part, checked_identity}
use Rattle.ct_cert.specs.Freedom.{operator_lacks}
use Rattle.ct_cert.specs.Testing.{Tested, Ending, Fails, test_of, AnswersTest, IfNo}
use Rattle.ct_cert.specs.Tests.{same_support, found_test, telescoper_test, scale_test, denominator_test, part_test, for_each, identity_test, tests}
use Rattle.ct_cert.specs.Tests.{EachNamed, Holds}
use Rattle.ct_cert.proofs.Deciding.{polynomial_zero_decides, operator_zero_decides}
use Rattle.ct_cert.proofs.FreedomSteps.{both_pass}
use Rattle.ct_cert.proofs.Order.{from_telescoper, from_scale, from_denominators, from_factors}
use Rattle.ct_cert.proofs.Passing.{operator_lacks-free}
use Rattle.ct_cert.proofs.Values.{part_value, identity_value}
use Rattle.ct_cert.specs.declared.place.Place.TheVariants as places

record FailsAt (p q : Place) (c : Checked Bool) : Type 0 where
  pub here : q ≡ p
  pub untrue : c ≡ Ok false

failed_test : (p q : Place) (c : Checked Bool) → test_of q c ≡ Err (Fails p) → FailsAt p q c
failed_test p q (Ok true) fails = cc
failed_test p q (Ok false) fails = record { here = cc; untrue = refl }
failed_test p q (Err k) fails = cc

either_failed : (t rest : Tested (Unit {0})) (e : Ending) → (t >>= (λ _. rest)) ≡ Err e → (t ≡ Err e) ⊎ (rest ≡ Err e)
either_failed (Ok u) rest e fails = inr fails
either_failed (Err d) rest e fails = inl fails

record SomeFails (test : Summand → Tested (Unit {0})) (ss : List Summand) (e : Ending) : Type 0 where
  pub one : Summand
  pub inside : Contains ss one
  pub fails : test one ≡ Err e

some_failed :
    (test : Summand → Tested (Unit {0})) (ss : List Summand) (e : Ending) → for_each test ss ≡ Err e → SomeFails test ss e
some_failed test [] e fails = cc
some_failed test (s ∷ ss) e fails = by (either_failed (test s) (for_each test ss) e fails) (some_failed test ss e)
  where
    by : (test s ≡ Err e) ⊎ (for_each test ss ≡ Err e) → (for_each test ss ≡ Err e → SomeFails test ss e) → SomeFails test (s ∷ ss) e
    by (inl here) later = record { one = s; inside = (0, omega arith, refl); fails = here }
    by (inr there) later =
        let rest = later there in
        record { one = rest.one; inside = (suc rest.inside.0, omega (arith, rest.inside.1), rest.inside.2); fails = rest.fails }

clash : (b : Bool) → b ≡ false → b ≡ true → ⊥
clash b failed told = cc

not_false : (b : Bool) → not b ≡ false → b ≡ true
not_false true failed = refl
not_false false failed = cc

checked_untrue : {P : Type 0} (c : Checked Bool) → c ≡ Ok false → ((b : Bool) → c ≡ Ok b → Decides b P) → P → ⊥
checked_untrue c failed decides holds = clash false refl ((decides false failed).1 holds)

module _ (a : Name → Action) (summed : List Name) (generators : List Operator) (due found : Support) (c : Certificate) where
  abbrev HoldsAt : Place → Type 0
  HoldsAt p = Holds a summed generators due found c p

  at : (p q : Place) → q ≡ p → (HoldsAt q → ⊥) → HoldsAt p → ⊥
  at p q here refuted holds = refuted (subst HoldsAt (sym here) holds)

  value_of : (b : Bool) → ◌≡◌ {A = Checked Bool} (Ok b) (Ok false) → b ≡ false
  value_of b untrue = cc

  found_refuted : same_support due found ≡ false → found ≡ due → ⊥
  found_refuted failed same =
      clash _ failed (both_pass _ _ (eq-eqb _ _ (ap (λ s. s.index) same))
      (both_pass _ _ (eq-eqb _ _ (ap (λ s. s.order) same)) (eq-eqb _ _ (ap (λ s. s.degree) same))))

  telescoper_refuted : (not (operator_group.is_zero c.telescoper) && operator_lacks summed c.telescoper) ≡ false → HoldsAt places.Telescoper → ⊥
  unfolding no_operator
  telescoper_refuted failed (nonzero, free) =
      clash _ failed (both_pass _ _ (nonzero_passes (operator_group.is_zero c.telescoper) refl) ((operator_lacks-free summed c.telescoper).1 free))
    where
      nonzero_passes : (b : Bool) → operator_group.is_zero c.telescoper ≡ b → not b ≡ true
      nonzero_passes true is = absurd (nonzero ((operator_zero_decides c.telescoper).0 is))
      nonzero_passes false is = refl

  identity_refuted : (p : Place) → FailsAt p places.Identity (checked_identity a generators c) → HoldsAt p → ⊥
  identity_refuted p fails =
      at p places.Identity fails.here (checked_untrue (checked_identity a generators c) fails.untrue (λ b is. identity_value a generators c b is))

  -- a summand whose test fails at the place refutes what each summand of the name satisfies
  part_refuted :
      (p : Place) (at_name : ℕ → Place) (checked : Summand → Checked Bool) (P : Summand → Type 0) →
      ((s : Summand) → checked s ≡ Ok false → P s → ⊥) → ((j : ℕ) → HoldsAt (at_name j) → EachNamed j c P) →
      SomeFails (λ s. test_of (at_name (place s.name)) (checked s)) c.summands (Fails p) → HoldsAt p → ⊥
  part_refuted p at_name checked P refutes asked some =
      let fails = failed_test p (at_name (place some.one.name)) (checked some.one) some.fails in
      at p (at_name (place some.one.name)) fails.here (λ holds. refutes some.one fails.untrue
      (All-contains (λ s. place s.name ≡ place some.one.name → P s) c.summands some.one (asked _ holds) some.inside refl))

  denominators_refuted : (p : Place) → SomeFails denominator_test c.summands (Fails p) → HoldsAt p → ⊥
  denominators_refuted p =
      part_refuted p places.Denominator (λ s. Ok (not (polys.is_zero s.denominator))) (λ s. s.denominator ≢ polys.zero)
      (λ s untrue nonzero. nonzero ((polynomial_zero_decides s.denominator).0 (not_false _ (value_of _ untrue)))) (λ j holds. holds)

  parts_refuted : (p : Place) → SomeFails (part_test a c.scale) c.summands (Fails p) → HoldsAt p → ⊥
  parts_refuted p =
      part_refuted p places.Part (checked_part a c.scale) (λ s. c.scale ≡ times s.factor (difference_denominator a s))
      (λ s untrue. checked_untrue (checked_part a c.scale s) untrue (λ b is. part_value a c.scale s b is)) (λ j holds. holds)

  scale_refuted : not (polys.is_zero c.scale) ≡ false → HoldsAt places.Scale → ⊥
  scale_refuted failed nonzero = nonzero ((polynomial_zero_decides c.scale).0 (not_false _ failed))

  pub failing_refutes : (p : Place) → tests a summed generators due found c ≡ Err (Fails p) → HoldsAt p → ⊥
  unfolding tests
  failing_refutes p fails = first (either_failed (found_test due found) (from_telescoper a summed generators due found c) (Fails p) fails)
    where
      Ends : Tested (Unit {0}) → Type 0
      Ends t = t ≡ Err (Fails p)

      fifth : Ends (for_each (part_test a c.scale) c.summands) ⊎ Ends (identity_test a generators c) → HoldsAt p → ⊥
      fifth (inl ended) = parts_refuted p (some_failed (part_test a c.scale) c.summands (Fails p) ended)
      fifth (inr ended) = identity_refuted p (failed_test p places.Identity (checked_identity a generators c) ended)

      fourth : Ends (for_each denominator_test c.summands) ⊎ Ends (from_factors a summed generators due found c) → HoldsAt p → ⊥
      fourth (inl ended) = denominators_refuted p (some_failed denominator_test c.summands (Fails p) ended)
      fourth (inr ended) = fifth (either_failed (for_each (part_test a c.scale) c.summands) (identity_test a generators c) (Fails p) ended)

      third : Ends (scale_test c.scale) ⊎ Ends (from_denominators a summed generators due found c) → HoldsAt p → ⊥
      third (inl ended) =
          let fails = failed_test p places.Scale (Ok (not (polys.is_zero c.scale))) ended in
          at p places.Scale fails.here (scale_refuted (value_of _ fails.untrue))
      third (inr ended) = fourth (either_failed (for_each denominator_test c.summands) (from_factors a summed generators due found c) (Fails p) ended)

      second : Ends (telescoper_test summed c.telescoper) ⊎ Ends (from_scale a summed generators due found c) → HoldsAt p → ⊥
      second (inl ended) =
          let fails = failed_test p places.Telescoper (Ok (not (operator_group.is_zero c.telescoper) && operator_lacks summed c.telescoper)) ended in
          at p places.Telescoper fails.here (telescoper_refuted (value_of _ fails.untrue))
      second (inr ended) = third (either_failed (scale_test c.scale) (from_denominators a summed generators due found c) (Fails p) ended)

      first : Ends (found_test due found) ⊎ Ends (from_telescoper a summed generators due found c) → HoldsAt p → ⊥
      first (inl ended) =
          let fails = failed_test p places.Found (Ok (same_support due found)) ended in
          at p places.Found fails.here (found_refuted (value_of _ fails.untrue))
      first (inr ended) = second (either_failed (telescoper_test summed c.telescoper) (from_scale a summed generators due found c) (Fails p) ended)

  pub answer_refutes : (r : Result (Unit {0}) Stop) → AnswersTest (tests a summed generators due found c) r → IfNo r (λ p. HoldsAt p → ⊥)
  answer_refutes (Err (No p)) fails = failing_refutes p fails
  answer_refutes (Err (Overflow p k)) ends = tt
  answer_refutes (Err NoMemory) ends = tt
  answer_refutes (Ok u) passes = tt
