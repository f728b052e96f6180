-- Loops over the parts and over the cofactors, one element further: what is left answers what was asked. Main lemmas
-- `next_difference`, `next_test`, and `ending_test` where a test ends them. Cited by the loops of the arithmetic and of the tests.
use Rattle.ct_cert.proofs.Base.{◌≡◌, Ok, Err, List, ◌∷◌, map, sym, ◌∙◌, ap, Name, Action, Operator, Summand, Checked, ◌>>=◌, Part, summand_of}
use Rattle.ct_cert.specs.Arithmetic.{with_difference, checked_differences}
use Rattle.ct_cert.specs.Testing.{Tested, Ending}
use Rattle.ct_cert.specs.Tests.{for_each}

module _ (a : Name → Action) {asked : Checked Operator} (sum more : Operator) where
  pub next_difference :
      (p : Part) (ps rest : List Part) → rest ≡ p ∷ ps → with_difference a sum (summand_of p) ≡ Ok more →
      checked_differences a sum (map summand_of rest) ≡ asked → checked_differences a more (map summand_of ps) ≡ asked
  next_difference p ps rest whole value left =
      sym (ap (λ rest. checked_differences a sum (map summand_of rest)) whole
      ∙ ap (λ r. r >>= (λ more. checked_differences a more (map summand_of ps))) value)
      ∙ left

module _ (test : Summand → Tested (Unit {0})) {asked : Tested (Unit {0})} (p : Part) (ps rest : List Part) where
  pub next_test :
      (u : Unit {0}) → rest ≡ p ∷ ps → test (summand_of p) ≡ Ok u →
      for_each test (map summand_of rest) ≡ asked → for_each test (map summand_of ps) ≡ asked
  next_test u whole passed left =
      sym (ap (λ rest. for_each test (map summand_of rest)) whole ∙ ap (λ r. r >>= (λ _. for_each test (map summand_of ps))) passed)
      ∙ left

  pub ending_test :
      (e : Ending) → rest ≡ p ∷ ps → test (summand_of p) ≡ Err e →
      for_each test (map summand_of rest) ≡ asked → asked ≡ Err e
  ending_test e whole ended left =
      sym left ∙ ap (λ rest. for_each test (map summand_of rest)) whole
      ∙ ap (λ r. r >>= (λ _. for_each test (map summand_of ps))) ended
