-- The rules of a report's lines. Main lemma `report_lines_rule`, line by line.
use Rattle.ct_problem.proofs.Base.{◌≡◌, ℕ, zero, suc, ◌+◌, ◌≤◌, true, false, None, List, [], ◌∷◌, ◌++◌, length, refl, ap, arith, codes, largest_norm}
use Rattle.ct_problem.proofs.Base.{Naming, Expr, OutOfRange, Report, Parser, Names, summed_texts, Lexeme, Texts, nothing, ◌▸◌, header, keyed, part}
use Rattle.ct_problem.proofs.Base.{quotient, cofactor, cofactors, each_with, numbered, found_line}
use Rattle.ct_problem.specs.Declarations.{declared}
use Rattle.ct_problem.specs.ReportLines as rules
use Rattle.ct_problem.proofs.Frame.{replaced, anywhere}
use Rattle.ct_problem.proofs.Rules.{any, Rule, grouped, reads, reads_last, passes, ends_with, number_rule, exactly_rule}
use Rattle.ct_problem.proofs.RuleChoices.{word_rule, sign_rule}
use Rattle.ct_problem.proofs.RuleLists.{More, Cons, no_item, one_item, whole_list}
use Rattle.ct_problem.proofs.LineRules.{header_rule, value_rule, keyed_rule, part_rule}

numbered_rule : (key : List ℕ) → Rule None any (rules.numbered key) (numbered key) anywhere
numbered_rule key = passes (word_rule key) (number_rule 65535 OutOfRange (omega arith))

abbrev pub Place : ℕ × ℕ × ℕ → Texts
Place p = found_line p.0 p.1 p.2

found_line_rule : Rule None any rules.found_line Place anywhere
unfolding rules.found_line
found_line_rule =
    grouped (grouped (reads (λ p. p.0) (numbered_rule (codes "found")) (λ index. reads (λ p. p.1) (numbered_rule (codes "order")) (λ order.
    reads (λ p. p.2) (numbered_rule (codes "degree")) (λ degree.
    ends_with (index, order, degree) (((tt, refl), refl), refl) (λ p known. rw (← known.0.0.1, ← known.0.1, ← known.1) refl))))))

-- a line, or several, for each of these texts
each_rule : {X : Type 0} {line : List ℕ → Parser X} {L : List ℕ → X → Texts} → ((text : List ℕ) → Rule None any (line text) (L text) anywhere) →
    (texts : List (List ℕ)) (found : List X)
    → Rule None any (rules.each_of line texts found) (More (each_with L texts) found) anywhere
unfolding rules.each_of
each_rule {X} {line} {L} each [] found = no_item (each_with L []) found (λ ls h. h) only
  where
    only : (xs : List X) (ls : List Lexeme) → each_with L [] xs ls → (xs ≡ []) × nothing ls
    only [] ls h = (refl, h)
    only (x ∷ xs) ls h = absurd h
each_rule {X} {line} {L} each (text ∷ texts) found =
    one_item (each_with L (text ∷ texts)) found (each text) (λ x. each_rule each texts (found ++ x ∷ [])) (λ x xs ls h. h) apart
    (λ x xs back rest h after. tt)
  where
    apart : (xs : List X) (ls : List Lexeme) → each_with L (text ∷ texts) xs ls → Cons (L text) (λ x. each_with L texts) xs ls
    apart [] ls h = absurd h
    apart (x ∷ xs) ls h = record { head = x; tail = xs; value = refl; spelled = h }

module _ (names : Names) where
  quotient_rule : (text : List ℕ) → Rule None any (rules.quotient names text) (quotient names text) anywhere
  unfolding rules.quotient
  quotient_rule text =
      reads (λ q. q.numerator) (part_rule names (codes "numerator") text true) (λ n.
      reads_last (λ q. q.denominator) (λ d. record { numerator = n; denominator = d }) (part_rule names (codes "denominator") text false)
      (λ d. ((tt, refl), refl)) (λ q known. rw (← known.1) refl))

  cofactor_rule : (place : ℕ) → place ≤ largest_norm → Rule None any (rules.cofactor names place) (cofactor names place) anywhere
  unfolding rules.cofactor
  cofactor_rule place low =
      grouped (grouped (passes (word_rule (codes "cofactor")) (passes (exactly_rule place low) (passes (sign_rule 58) (value_rule names true)))))

  -- n cofactors, from this number on
  abbrev pub CofactorsFrom : ℕ → ℕ → List Expr → Texts
  CofactorsFrom place count xs ls = (length xs ≡ count) × cofactors names place xs ls

  cofactors_rule : (place n : ℕ) (found : List Expr) → place + n ≤ largest_norm →
      Rule None any (rules.cofactors_from names place n found) (More (CofactorsFrom place n) found) anywhere
  unfolding rules.cofactors_from
  cofactors_rule place zero found low = no_item (CofactorsFrom place 0) found (λ ls h. (refl, h)) only
    where
      only : (xs : List Expr) (ls : List Lexeme) → CofactorsFrom place 0 xs ls → (xs ≡ []) × nothing ls
      only [] ls h = (refl, h.1)
      only (x ∷ xs) ls h = cc (h.0)
  cofactors_rule place (suc n) found low =
      one_item (CofactorsFrom place (suc n)) found (cofactor_rule place (omega (arith, low)))
      (λ x. cofactors_rule (place + 1) n (found ++ x ∷ []) (omega (arith, low)))
      (λ x xs ls h. (ap suc h.second.0, replaced h h.second.1)) apart (λ x xs back rest h after. tt)
    where
      apart : (xs : List Expr) (ls : List Lexeme) → CofactorsFrom place (suc n) xs ls →
          Cons (cofactor names place) (λ x. CofactorsFrom (place + 1) n) xs ls
      apart [] ls h = cc (h.0)
      apart (x ∷ xs) ls h = let size = h.0 in record { head = x; tail = xs; value = refl; spelled = replaced h.1 (omega (arith, size), h.1.second) }

-- a report but for its last line, on n generators
unfoldable pub Lines : List Naming → ℕ → Report → Texts
Lines variables count r =
    header (codes "report")
    ▸ found_line r.index r.order r.degree
    ▸ keyed (declared variables) (codes "telescoper") true r.telescoper
    ▸ each_with (quotient (declared variables)) (summed_texts variables) r.quotients
    ▸ keyed (declared variables) (codes "scale") false r.scale
    ▸ each_with (part (declared variables) (codes "part") false) (summed_texts variables) r.factors
    ▸ CofactorsFrom (declared variables) 1 count r.cofactors

pub report_lines_rule : (variables : List Naming) (count : ℕ) → 1 + count ≤ largest_norm →
    Rule None any (rules.report_lines variables count) (Lines variables count) anywhere
unfolding rules.report_lines Lines
report_lines_rule variables count low =
    grouped (grouped (grouped (grouped (grouped (passes (header_rule (codes "report"))
    (reads (λ r. (r.index, r.order, r.degree)) found_line_rule (λ place.
    reads (λ r. r.telescoper) (keyed_rule names (codes "telescoper") true) (λ telescoper.
    reads (λ r. r.quotients) (whole_list (each_rule (quotient_rule names) summed [])) (λ quotients.
    reads (λ r. r.scale) (keyed_rule names (codes "scale") false) (λ scale.
    reads (λ r. r.factors) (whole_list (each_rule (λ text. part_rule names (codes "part") text false) summed [])) (λ factors.
    reads_last (λ r. r.cofactors)
    (λ xs. record {
      index = place.0;
      order = place.1;
      degree = place.2;
      telescoper = telescoper;
      quotients = quotients;
      scale = scale;
      factors = factors;
      cofactors = xs;
    })
    (whole_list (cofactors_rule names 1 count [] low)) (λ xs. ((((((tt, refl), refl), refl), refl), refl), refl))
    (λ r known. rw (← known.0.0.0.0.1, ← known.0.0.0.1, ← known.0.0.1, ← known.0.1, ← known.1) refl))))))))))))
  where
    names : Names
    names = declared variables

    summed : List (List ℕ)
    summed = summed_texts variables
