-- A report for which a text stands is well formed. Main lemma `report_formed`, which `read_found_report` cites.
use Rattle.ct_problem.proofs.Base.{◌≡◌, ℕ, suc, ◌+◌, ◌≤◌, false, List, [], ◌∷◌, length, refl, ap, ◌∙◌, sym, codes, Naming, Expr, Quotient, Report}
use Rattle.ct_problem.proofs.Base.{declared, each_with, quotient, part, cofactors, ReportStandsFor, Lexeme, Texts, Names, summed_texts, Each}
use Rattle.ct_problem.proofs.Base.{IsOperator, IsPolynomial, IsQuotient, IsReportOn}
use Rattle.ct_problem.proofs.SummedActions.{summed_length}
use Rattle.ct_problem.proofs.WellFormedLines.{operator_of, polynomial_of}

-- what holds of each value, of which there are as many as texts
with_are : {X : Type 0} (P : X → Type 0) (line : List ℕ → X → Texts) → ((text : List ℕ) (x : X) (ls : List Lexeme) → line text x ls → P x)
    → (texts : List (List ℕ)) (xs : List X) (ls : List Lexeme) → each_with line texts xs ls → Each P xs × (length xs ≡ length texts)
with_are P line gives [] [] ls h = (tt, refl)
with_are P line gives [] (x ∷ xs) ls h = absurd h
with_are P line gives (text ∷ texts) [] ls h = absurd h
with_are P line gives (text ∷ texts) (x ∷ xs) ls h =
    let rest = with_are P line gives texts xs h.back h.second in
    ((gives text x h.front h.first, rest.0), ap suc rest.1)

module _ (names : Names) (few : length names.variables ≤ 6) where
  quotient_is : (text : List ℕ) (q : Quotient) (ls : List Lexeme) → quotient names text q ls → IsQuotient names.variables q
  quotient_is text q ls h = record {
    numerator = operator_of names few q.numerator h.first.second.front h.first.second.first;
    denominator = polynomial_of names few q.denominator h.second.second.front h.second.second.first;
  }

  part_is : (text : List ℕ) (x : Expr) (ls : List Lexeme) → part names (codes "part") false text x ls → IsPolynomial names.variables x
  part_is text x ls h = polynomial_of names few x h.second.front h.second.first

  cofactors_are : (place : ℕ) (xs : List Expr) (ls : List Lexeme) → cofactors names place xs ls → Each (IsOperator names.variables) xs
  cofactors_are place [] ls h = tt
  cofactors_are place (x ∷ xs) ls h =
      (operator_of names few x h.first.second.front h.first.second.first, cofactors_are (place + 1) xs h.back h.second)

pub report_formed : (variables : List Naming) → length variables ≤ 6 → (count : ℕ) (bytes : List ℕ) (from : ℕ) (r : Report) →
    ReportStandsFor variables count bytes from r → IsReportOn variables count r
report_formed variables few count bytes from r s =
    let names = declared variables in
    let lines = s.lines.first in
    let parts = lines.first in
    let scale = parts.first in
    let quotients = scale.first in
    let telescoper = quotients.first in
    let q = with_are (IsQuotient variables) (quotient names) (quotient_is names few)
    (summed_texts variables) r.quotients quotients.back quotients.second in
    let f = with_are (IsPolynomial variables) (part names (codes "part") false) (part_is names few)
    (summed_texts variables) r.factors parts.back parts.second in
    record {
      telescoper = operator_of names few r.telescoper telescoper.second.second.front telescoper.second.second.first;
      quotients = q.0;
      scale = polynomial_of names few r.scale scale.second.second.front scale.second.second.first;
      factors = f.0;
      cofactors = cofactors_are names few 1 r.cofactors lines.back lines.second;
      each_quotient = q.1 ∙ sym (summed_length variables);
      each_factor = f.1 ∙ sym (summed_length variables);
      each_cofactor = s.a_cofactor_each;
    }
