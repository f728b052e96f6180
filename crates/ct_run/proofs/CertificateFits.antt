-- What a report on an algebra's names stands for fits them: a summand for each summed name, a cofactor for each generator.
-- Main lemmas `certificate_fits` and `setup_length`, cited by `answer_form` and by what a yes means. By the steps that fit.
use Rattle.ct_run.proofs.Base.{◌≡◌, refl, ℕ, List, [], ◌∷◌, map, length, Ok, sym, ◌∙◌, ap, arith, Name, Operator, Polynomial, Certificate, both_fit}
use Rattle.ct_run.proofs.Base.{each_length, Naming, actions_of, summed_of, Report, Reading, value_of, checked_polynomial, IsReportOn}
use Rattle.ct_setup.specs.Setup.{Prepared, listed, checked_values}
use Rattle.ct_setup.specs.SetupMeans.{IsPrepared}
use Rattle.ct_run.specs.Checking.{checked_polynomials, checked_quotient, checked_quotients, checked_certificate, summands_of}

summands_of-names :
    (js : List Name) (qs : List (Operator × Polynomial)) (fs : List Polynomial) → length qs ≡ length js →
    length fs ≡ length js → map (λ s. s.name) (summands_of js qs fs) ≡ js
summands_of-names [] qs fs many few = refl
summands_of-names (j ∷ js) [] fs many few = absurd (omega arith)
summands_of-names (j ∷ js) (q ∷ qs) [] many few = absurd (omega arith)
summands_of-names (j ∷ js) (q ∷ qs) (f ∷ fs) many few = ap (λ is. j ∷ is) (summands_of-names js qs fs (omega arith) (omega arith))

-- a certificate with a summand for each of the names and so many cofactors
pub record FitsNames (names : List Naming) (generators : ℕ) (c : Certificate) : Type 0 where
  pub names_are : map (λ s. s.name) c.summands ≡ summed_of names
  pub cofactors : length c.cofactors ≡ generators

pub certificate_fits :
    (names : List Naming) (generators : ℕ) (r : Report) (c : Certificate) → IsReportOn names generators r →
    checked_certificate names r ≡ Ok c → FitsNames names generators c
unfolding checked_certificate
certificate_fits names generators r c on fits =
    let a = actions_of names in
    let telescoper = both_fit (value_of a r.telescoper) _ c fits in
    let quotients = both_fit (checked_quotients a r.quotients) _ c telescoper.rest in
    let scale = both_fit (checked_polynomial a r.scale) _ c quotients.rest in
    let factors = both_fit (checked_polynomials a r.factors) _ c scale.rest in
    let cofactors = both_fit (checked_values a r.cofactors) _ c factors.rest in
    let whole : record {
      telescoper = telescoper.value;
      scale = scale.value;
      summands = summands_of (summed_of names) quotients.value factors.value;
      cofactors = cofactors.value;
    } ≡ c = cc in
    record {
      names_are =
          ap (λ (d : Certificate). map (λ s. s.name) d.summands) (sym whole)
          ∙ summands_of-names (summed_of names) quotients.value factors.value
          (omega (arith, each_length (λ _ q. checked_quotient a q) 1 r.quotients quotients.value quotients.first, on.each_quotient))
          (omega (arith, each_length (λ _ x. checked_polynomial a x) 1 r.factors factors.value factors.first, on.each_factor));
      cofactors = omega (
        arith,
        ap (λ (d : Certificate). length d.cofactors) whole,
        each_length (λ _ x. value_of a x) 1 r.cofactors cofactors.value cofactors.first,
        on.each_cofactor,
      );
    }

-- a generator for each `gen` line
pub setup_length : (p : Reading) (s : Prepared) → IsPrepared p s → length s.generators ≡ length (listed p.generators)
setup_length p s means =
    each_length (λ _ x. value_of (actions_of p.variables) x) 1 (listed p.generators) s.generators means.generators
