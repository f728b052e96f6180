-- The texts of operators are spelled by the grammar. Main lemma `Writes-operator`.
--     OperatorEntryFits    the coefficient is not zero, and it and its symbols are as the grammar wants them
use Rattle.ct_answer.proofs.Base.{◌≡◌, ℕ, suc, ◌<◌, true, false, ℤ, List, [], ◌∷◌, ◌++◌, length, refl, arith, append_assoc, flat_map, Mono}
use Rattle.ct_answer.proofs.Base.{Polynomial, Operator, Naming, IsAlgebra, Expr, declared, Texts, one, ◌▸◌, each, Term, product_of, IsSum, IsFactor}
use Rattle.ct_answer.proofs.Base.{IsAtom, IsNested, joined_to_right, to_nothing, Each}
use Rattle.ct_problem.specs.Lexemes.{Lexeme}
use Rattle.ct_answer.specs.declared.factors.Power.{Power}
use Rattle.ct_answer.specs.Text.{sign_text, entries_text, product_text, parenthesized, operator_entry_text, operator_entries_text, operator_text}
use Rattle.ct_answer.specs.Text.{names_in, symbols_in, later_powers}
use Rattle.ct_answer.proofs.ReadTexts.{Writes, Writes-joined, Writes-as, Writes-text, Writes-before, Writes-nothing, Writes-sign}
use Rattle.ct_answer.proofs.PrintedExpressions.{power_expressions, sum_expression, entry_expressions, before_symbols, product_expressions}
use Rattle.ct_answer.proofs.PrintedExpressions.{operator_entry_expressions, operator_expressions, operator_expression}
use Rattle.ct_answer.proofs.SpelledPowers.{PowerFits, Each-append, open_parenthesis_is_plain, close_parenthesis_is_plain, MoreFactor, ATerm}
use Rattle.ct_answer.proofs.SpelledPowers.{Writes-later, term_from}
use Rattle.ct_answer.proofs.SpelledSums.{EntryFits, MoreTerm, First, Sum, each-append, sum_is, zero_is, Writes-later_sign, Writes-first_sign}
use Rattle.ct_answer.proofs.SpelledSums.{Writes-first_term, Writes-more_term, Writes-first_entries, Writes-later_entries}
use Rattle.ct_problem.specs.Lexemes as lexeme

pub record OperatorEntryFits (names : List Naming) (e : Mono × Polynomial) : Type 0 where
  pub some : 0 < length e.1.terms
  pub entries : Each (EntryFits names true) e.1.terms
  pub symbols : Each (PowerFits names true) (symbols_in e.0)

-- the parentheses and what is in them are one factor
grouped : (s o t c l : List ℕ) → s ++ (((o ++ t) ++ c) ++ l) ≡ (((s ++ o) ++ t) ++ c) ++ l
grouped s o t c l = simp append_assoc refl

module _ (names : List Naming) (known : IsAlgebra names) (depth : ℕ) where
  -- what may stand in parentheses, with them
  abbrev Inner : Expr → Texts
  Inner = IsNested (declared names) true (suc depth)

  Writes-nested : (e : Mono × ℤ) (es : List (Mono × ℤ)) → Each (EntryFits names true) (e ∷ es)
      → Writes true true (((40 ∷ []) ++ entries_text names true (e ∷ es)) ++ 41 ∷ []) (Inner (sum_expression (entry_expressions (e ∷ es))))
  unfolding IsNested
  Writes-nested e es fits =
      let within : Writes false true (entries_text names true (e ∷ es))
      (IsSum (declared names) true (IsNested (declared names) true depth) (sum_expression (entry_expressions (e ∷ es)))) =
      Writes-as false true _ (Sum names known true (IsNested (declared names) true depth) (entry_expressions (e ∷ es))) _
      (λ ls h. sum_is names known true (IsNested (declared names) true depth) (entry_expressions (e ∷ es)) ls h)
      (Writes-first_entries names known true (IsNested (declared names) true depth) e es fits) in
      let first = Writes-joined true false true (40 ∷ []) (entries_text names true (e ∷ es)) (one (lexeme.Sign 40)) _
      (Writes-sign 40 open_parenthesis_is_plain) within in
      Writes-before true _ _ (Writes-joined true true false ((40 ∷ []) ++ entries_text names true (e ∷ es)) (41 ∷ []) _ (one (lexeme.Sign 41)) first
      (Writes-sign 41 close_parenthesis_is_plain))

  -- a coefficient in parentheses, and symbols
  Writes-parenthesized_term : (e : Mono × ℤ) (es : List (Mono × ℤ)) (symbols : List Power) → Each (EntryFits names true) (e ∷ es) →
      Each (PowerFits names true) symbols
      → Writes true true ((((40 ∷ []) ++ entries_text names true (e ∷ es)) ++ 41 ∷ []) ++ later_powers names symbols)
      (ATerm names known true Inner (product_of (sum_expression (entry_expressions (e ∷ es)) ∷ power_expressions symbols)))
  Writes-parenthesized_term e es symbols fits good =
      let factor : Writes true true (((40 ∷ []) ++ entries_text names true (e ∷ es)) ++ 41 ∷ [])
      (IsFactor (declared names) true Inner (sum_expression (entry_expressions (e ∷ es)))) =
      Writes-as true true _ _ _ (λ ls h. IsFactor.plain (IsAtom.nested h)) (Writes-nested e es fits) in
      term_from names known true Inner (sum_expression (entry_expressions (e ∷ es))) (power_expressions symbols) _ true true
      (Writes-joined true true true _ (later_powers names symbols) _ (each (MoreFactor names known true Inner) (power_expressions symbols)) factor
      (Writes-later names known true Inner symbols good))

  Writes-more_parenthesized : (e : Mono × ℤ) (es : List (Mono × ℤ)) (symbols : List Power) → Each (EntryFits names true) (e ∷ es) →
      Each (PowerFits names true) symbols
      → Writes true true (parenthesized names false (e ∷ es) symbols)
      (MoreTerm names known true Inner (false, product_of (sum_expression (entry_expressions (e ∷ es)) ∷ power_expressions symbols)))
  Writes-more_parenthesized e es symbols fits good =
      Writes-text true true _ _ _ (grouped (sign_text false false) (40 ∷ []) (entries_text names true (e ∷ es)) (41 ∷ [])
      (later_powers names symbols))
      (Writes-joined true true true (sign_text false false) _ _ _ (Writes-before true _ _ (Writes-later_sign false))
      (Writes-parenthesized_term e es symbols fits good))

  Writes-first_parenthesized : (e : Mono × ℤ) (es : List (Mono × ℤ)) (symbols : List Power) → Each (EntryFits names true) (e ∷ es) →
      Each (PowerFits names true) symbols
      → Writes false true (parenthesized names true (e ∷ es) symbols)
      (First names known true Inner (false, product_of (sum_expression (entry_expressions (e ∷ es)) ∷ power_expressions symbols)))
  Writes-first_parenthesized e es symbols fits good =
      Writes-text false true _ _ _ (grouped (sign_text true false) (40 ∷ []) (entries_text names true (e ∷ es)) (41 ∷ [])
      (later_powers names symbols))
      (Writes-joined false true true (sign_text true false) _ _ _ (Writes-before false _ _ (Writes-first_sign false))
      (Writes-parenthesized_term e es symbols fits good))

  -- ---- the terms of a coefficient with symbols

  Writes-more_product : (es : List (Mono × ℤ)) (symbols : List Power) → 0 < length es → Each (EntryFits names true) es →
      Each (PowerFits names true) symbols
      → Writes true true (product_text names false es symbols) (each (MoreTerm names known true Inner) (product_expressions es symbols))
  unfolding product_text
  Writes-more_product es [] some fits good = Writes-later_entries names known true Inner es fits
  Writes-more_product [] (p ∷ ps) some fits good = absurd (omega (arith, some))
  Writes-more_product (e ∷ []) (p ∷ ps) some fits good =
      Writes-as true true _ (MoreTerm names known true Inner (before_symbols (e ∷ []) (p ∷ ps))) _ (λ ls h. to_nothing h)
      (Writes-more_term names known true Inner e.1 (names_in e.0 ++ p ∷ ps) fits.0.small
      (Each-append (PowerFits names true) (names_in e.0) (p ∷ ps) fits.0.powers good))
  Writes-more_product (e ∷ f ∷ es) (p ∷ ps) some fits good =
      Writes-as true true _ (MoreTerm names known true Inner (before_symbols (e ∷ f ∷ es) (p ∷ ps))) _ (λ ls h. to_nothing h)
      (Writes-more_parenthesized e (f ∷ es) (p ∷ ps) fits good)

  Writes-first_product : (es : List (Mono × ℤ)) (symbols : List Power) → 0 < length es → Each (EntryFits names true) es →
      Each (PowerFits names true) symbols
      → Writes false true (product_text names true es symbols) (Sum names known true Inner (product_expressions es symbols))
  unfolding product_text
  Writes-first_product [] symbols some fits good = absurd (omega (arith, some))
  Writes-first_product (e ∷ es) [] some fits good = Writes-first_entries names known true Inner e es fits
  Writes-first_product (e ∷ []) (p ∷ ps) some fits good =
      Writes-as false true _ (First names known true Inner (before_symbols (e ∷ []) (p ∷ ps))) _ (λ ls h. to_nothing h)
      (Writes-first_term names known true Inner e.1 (names_in e.0 ++ p ∷ ps) fits.0.small
      (Each-append (PowerFits names true) (names_in e.0) (p ∷ ps) fits.0.powers good))
  Writes-first_product (e ∷ f ∷ es) (p ∷ ps) some fits good =
      Writes-as false true _ (First names known true Inner (before_symbols (e ∷ f ∷ es) (p ∷ ps))) _ (λ ls h. to_nothing h)
      (Writes-first_parenthesized e (f ∷ es) (p ∷ ps) fits good)

  -- ---- operators

  Writes-more_operators : (es : List (Mono × Polynomial)) → Each (OperatorEntryFits names) es
      → Writes true true (flat_map (operator_entry_text names false) es) (each (MoreTerm names known true Inner) (operator_expressions es))
  Writes-more_operators [] fits = Writes-nothing true
  Writes-more_operators (e ∷ es) fits =
      let all = Writes-joined true true true (operator_entry_text names false e) (flat_map (operator_entry_text names false) es)
      (each (MoreTerm names known true Inner) (operator_entry_expressions e)) (each (MoreTerm names known true Inner) (operator_expressions es))
      (Writes-more_product e.1.terms (symbols_in e.0) fits.0.some fits.0.entries fits.0.symbols) (Writes-more_operators es fits.1) in
      Writes-as true true _ _ _ (λ ls h. each-append (MoreTerm names known true Inner) (operator_entry_expressions e) (operator_expressions es) ls h)
      all

  sum-append : (ts us : List Term) (ls : List Lexeme) → (Sum names known true Inner ts ▸ each (MoreTerm names known true Inner) us) ls →
      Sum names known true Inner (ts ++ us) ls
  sum-append [] us ls h = absurd h.first
  sum-append (t ∷ ts) us ls h =
      let parts = joined_to_right h in
      record {
        front = parts.front;
        back = parts.back;
        parts = parts.parts;
        first = parts.first;
        second = each-append (MoreTerm names known true Inner) ts us parts.back parts.second;
      }

  Writes-entries : (es : List (Mono × Polynomial)) → Each (OperatorEntryFits names) es →
      Writes false true (operator_entries_text names es) (IsSum (declared names) true Inner (sum_expression (operator_expressions es)))
  Writes-entries [] fits = zero_is names known true Inner
  Writes-entries (e ∷ es) fits =
      let all = Writes-joined false true true (operator_entry_text names true e) (flat_map (operator_entry_text names false) es)
      (Sum names known true Inner (operator_entry_expressions e)) (each (MoreTerm names known true Inner) (operator_expressions es))
      (Writes-first_product e.1.terms (symbols_in e.0) fits.0.some fits.0.entries fits.0.symbols) (Writes-more_operators es fits.1) in
      Writes-as false true _ _ _
      (λ ls h. sum_is names known true Inner (operator_expressions (e ∷ es)) ls
      (sum-append (operator_entry_expressions e) (operator_expressions es) ls h)) all

  pub Writes-operator : (p : Operator) → Each (OperatorEntryFits names) p.terms →
      Writes false true (operator_text names p) (IsSum (declared names) true (IsNested (declared names) true (suc depth)) (operator_expression p))
  unfolding operator_text
  Writes-operator p fits = Writes-entries p.terms fits
