-- What it means that all tests pass: the certificate certifies. Main lemmas `passing_certifies`, and `answer_certifies`, cited by `check_found`. Each
-- test's truth value decides its fact (`Deciding`, `Values`, `FreedomSteps`), and the tests pass only where all are true.
use Rattle.ct_cert.proofs.Base.{◌≡◌, ◌≢◌, refl, Result, Ok, Err, OnOk, Bool, true, false, ◌&&◌, not, List, [], ◌∷◌, length, map, All, Decides}
use Rattle.ct_cert.proofs.Base.{All-nil, All-cons, eq-eqb, eqb-true, EachTerm, Mono, exp, Name, place, Polynomial, polys, Action, Still, Operator}
use Rattle.ct_cert.proofs.Base.{operator_group, no_operator, Summand, Certificate, Certifies, Checked, ◌>>=◌}
use Rattle.ct_algebra.specs.FreeOf.{EachName, IsWithout, IsFreeOfAll, OperatorIsFreeOf}
use Rattle.ct_cert.specs.declared.place.Place.{Place}
use Rattle.ct_cert.specs.declared.place.Stop.{Stop}
use Rattle.ct_cert.specs.declared.place.Support.{Support}
use Rattle.ct_cert.specs.Arithmetic.{checked_part, checked_identity}
use Rattle.ct_cert.specs.Freedom.{each_passes, term_lacks, operator_lacks}
use Rattle.ct_cert.specs.Testing.{Tested, test_of, AnswersTest}
use Rattle.ct_cert.specs.Tests.{found_test, telescoper_test, scale_test, denominator_test, part_test, for_each, identity_test, tests}
use Rattle.ct_cert.proofs.Deciding.{polynomial_zero_decides, operator_zero_decides}
use Rattle.ct_cert.proofs.FreedomSteps.{polynomial_lacks_decides, both_pass, first_pass, second_pass}
use Rattle.ct_cert.proofs.Values.{part_value, identity_value}

-- ---- freedom

term_lacks_decides : (js : List Name) (m : Mono) (c : Polynomial) → Decides (term_lacks js m c) (EachName (λ j. IsWithout j m) js × IsFreeOfAll js c)
term_lacks_decides [] m c = (λ _. (tt, tt), λ _. refl)
term_lacks_decides (j ∷ js) m c =
    let rest = term_lacks_decides js m c in
    let poly = polynomial_lacks_decides j c in (
      λ pass.
          let here = first_pass _ _ pass in
          let later = rest.0 (second_pass _ _ pass) in
          ((eqb-true (exp m (place j)) 0 (first_pass _ _ here), later.0), (poly.0 (second_pass _ _ here), later.1)),
      λ free. both_pass _ _ (both_pass _ _ (eq-eqb (exp m (place j)) 0 free.0.0) (poly.1 free.1.0)) (rest.1 (free.0.1, free.1.1)),
    )

terms_lack_decides :
    (js : List Name) (es : List (Mono × Polynomial)) →
    Decides (each_passes (λ (e : Mono × Polynomial). term_lacks js e.0 e.1) es)
    (EachTerm (λ m c. EachName (λ j. IsWithout j m) js × IsFreeOfAll js c) es)
terms_lack_decides js [] = (λ _. tt, λ _. refl)
terms_lack_decides js (e ∷ es) =
    let here = term_lacks_decides js e.0 e.1 in
    let rest = terms_lack_decides js es in
    (λ pass. (here.0 (first_pass _ _ pass), rest.0 (second_pass _ _ pass)), λ free. both_pass _ _ (here.1 free.0) (rest.1 free.1))

pub operator_lacks-free : (js : List Name) (p : Operator) → Decides (operator_lacks js p) (OperatorIsFreeOf js p)
operator_lacks-free js p = terms_lack_decides js p.terms

-- ---- tests that pass

pub not_true : (b : Bool) → not b ≡ true → b ≡ true → ⊥
not_true true never told = cc
not_true false never told = cc

passed_test : (p : Place) (c : Checked Bool) (u : Unit {0}) → test_of p c ≡ Ok u → c ≡ Ok true
passed_test p (Ok true) u passes = refl
passed_test p (Ok false) u passes = cc
passed_test p (Err k) u passes = cc

passed_value : (p : Place) (b : Bool) (u : Unit {0}) → test_of p (Ok b) ≡ Ok u → b ≡ true
passed_value p true u passes = refl
passed_value p false u passes = cc

both_passed : (t rest : Tested (Unit {0})) (u : Unit {0}) → (t >>= (λ _. rest)) ≡ Ok u → (t ≡ Ok tt) × (rest ≡ Ok u)
both_passed (Ok tt) rest u passes = (refl, passes)
both_passed (Err e) rest u passes = cc

each_passed :
    (test : Summand → Tested (Unit {0})) (P : Summand → Type 0) → ((s : Summand) → test s ≡ Ok tt → P s) →
    (ss : List Summand) (u : Unit {0}) → for_each test ss ≡ Ok u → All P ss
each_passed test P decided [] u passes = All-nil P
each_passed test P decided (s ∷ ss) u passes =
    let both = both_passed (test s) (for_each test ss) u passes in
    All-cons P s ss (decided s both.0) (each_passed test P decided ss u both.1)

nonzero_passed : (p : Place) (c : Polynomial) (u : Unit {0}) → test_of p (Ok (not (polys.is_zero c))) ≡ Ok u → c ≢ polys.zero
nonzero_passed p c u passes none = not_true _ (passed_value p _ u passes) ((polynomial_zero_decides c).1 none)

module _ (a : Name → Action) (summed : List Name) (generators : List Operator) (due found : Support) (c : Certificate) where
  pub passing_certifies :
      (u : Unit {0}) → tests a summed generators due found c ≡ Ok u → map (λ s. s.name) c.summands ≡ summed →
      EachName (λ j. a j ≢ Still) summed → length c.cofactors ≡ length generators → Certifies a summed generators c
  unfolding tests no_operator
  passing_certifies u passes names acts fit =
      let one = both_passed (found_test due found) _ u passes in
      let two = both_passed (telescoper_test summed c.telescoper) _ u one.1 in
      let three = both_passed (scale_test c.scale) _ u two.1 in
      let four = both_passed (for_each denominator_test c.summands) _ u three.1 in
      let five = both_passed (for_each (part_test a c.scale) c.summands) (identity_test a generators c) u four.1 in
      let telescoper = passed_value _ (not (operator_group.is_zero c.telescoper) && operator_lacks summed c.telescoper) tt two.0 in
      record {
        telescoper_nonzero = λ none. not_true _ (first_pass _ _ telescoper) ((operator_zero_decides c.telescoper).1 none);
        free_of_summed = (operator_lacks-free summed c.telescoper).0 (second_pass _ _ telescoper);
        names = names;
        acts = acts;
        cofactors_fit = fit;
        denominators_nonzero = each_passed denominator_test _ (λ s passed. nonzero_passed _ s.denominator tt passed) c.summands tt four.0;
        relation = record {
          scale_nonzero = nonzero_passed _ c.scale tt three.0;
          divides = each_passed (part_test a c.scale) _
              (λ s passed. (part_value a c.scale s true (passed_test _ (checked_part a c.scale s) tt passed)).0 refl) c.summands tt five.0;
          identity = (identity_value a generators c true (passed_test _ (checked_identity a generators c) u five.1)).0 refl;
        };
      }

  pub answer_certifies :
      (r : Result (Unit {0}) Stop) → AnswersTest (tests a summed generators due found c) r → map (λ s. s.name) c.summands ≡ summed →
      EachName (λ j. a j ≢ Still) summed → length c.cofactors ≡ length generators → OnOk r (Certifies a summed generators c)
  answer_certifies (Ok u) passes names acts fit = passing_certifies u passes names acts fit
  answer_certifies (Err stop) ends names acts fit = tt
