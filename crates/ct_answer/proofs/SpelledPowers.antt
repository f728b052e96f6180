-- The texts of powers and terms are spelled by the grammar. Main lemma `Writes-term`.
--     PowerFits names operators p     the name is of the list, its symbol is one where it is written, and the exponent is within the limit
use Rattle.ct_answer.proofs.Base.{◌≡◌, ◌≢◌, ℕ, ◌<◌, ◌≤◌, ◌==◌, Bool, true, false, cond, ℤ, pos, List, [], ◌∷◌, ◌++◌, length, IsTrue, refl, sym, ap}
use Rattle.ct_answer.proofs.Base.{arith, append_assoc, codes, unsigned_abs, append-nil, largest_degree, largest_norm, Naming, IsAlgebra, Expr}
use Rattle.ct_answer.proofs.Base.{declared, Texts, nothing, one, number, ◌▸◌, each, product_of, IsAtom, IsFactor, IsMoreFactor, IsTerm, IsActing}
use Rattle.ct_answer.proofs.Base.{to_nothing, Each}
use Rattle.ct_problem.specs.Grammar.{symbol}
use Rattle.ct_answer.specs.declared.factors.Power.{Power}
use Rattle.ct_answer.specs.Text.{naming_at, base_text, symbol_text, name_text, letter, power_text, later_powers, powers_text, term_text}
use Rattle.ct_answer.proofs.TokensAhead.{IsPlainSign}
use Rattle.ct_answer.proofs.ReadTexts.{Writes, Writes-joined, Writes-as, Writes-text, Writes-before, Writes-nothing, Writes-sign, Writes-word}
use Rattle.ct_answer.proofs.ReadTexts.{Writes-number}
use Rattle.ct_answer.proofs.NamePlaces.{is_word, is_variable, is_acting}
use Rattle.ct_answer.proofs.PrintedExpressions.{base_expression, power_expression, power_expressions, term_expression}
use Rattle.std.specs.Fmt as fmt
use Rattle.ct_token.specs.Lexing as lexing
use Rattle.ct_algebra.specs.Actions as actions
use Rattle.ct_expr.specs.declared.expr.Expr.TheVariants as e
use Rattle.ct_problem.specs.Lexemes as lexeme

pub record PowerFits (names : List Naming) (operators : Bool) (p : Power) : Type 0 where
  pub named : p.name < length names
  pub acting : p.is_symbol ≡ true → IsTrue operators × ((naming_at names p.name).action ≢ actions.Still)
  pub low : p.exponent ≤ largest_degree

pub Each-append : {X : Type 0} (P : X → Type 0) (xs ys : List X) → Each P xs → Each P ys → Each P (xs ++ ys)
Each-append P [] ys first second = second
Each-append P (x ∷ xs) ys first second = (first.0, Each-append P xs ys first.1 second)

-- ---- the signs that are printed

pub star_is_plain : IsPlainSign 42
star_is_plain = record { high = omega arith; no_letter = refl; no_digit = refl; no_dot = refl; printable = refl; no_word = refl }

pub caret_is_plain : IsPlainSign 94
caret_is_plain = record { high = omega arith; no_letter = refl; no_digit = refl; no_dot = refl; printable = refl; no_word = refl }

pub open_bracket_is_plain : IsPlainSign 91
open_bracket_is_plain = record { high = omega arith; no_letter = refl; no_digit = refl; no_dot = refl; printable = refl; no_word = refl }

pub close_bracket_is_plain : IsPlainSign 93
close_bracket_is_plain = record { high = omega arith; no_letter = refl; no_digit = refl; no_dot = refl; printable = refl; no_word = refl }

pub open_parenthesis_is_plain : IsPlainSign 40
open_parenthesis_is_plain = record { high = omega arith; no_letter = refl; no_digit = refl; no_dot = refl; printable = refl; no_word = refl }

pub close_parenthesis_is_plain : IsPlainSign 41
close_parenthesis_is_plain = record { high = omega arith; no_letter = refl; no_digit = refl; no_dot = refl; printable = refl; no_word = refl }

pub plus_is_plain : IsPlainSign 43
plus_is_plain = record { high = omega arith; no_letter = refl; no_digit = refl; no_dot = refl; printable = refl; no_word = refl }

pub minus_is_plain : IsPlainSign 45
minus_is_plain = record { high = omega arith; no_letter = refl; no_digit = refl; no_dot = refl; printable = refl; no_word = refl }

module _ (names : List Naming) (known : IsAlgebra names) (operators : Bool) (InParentheses : Expr → Texts) where
  abbrev pub Atom : Expr → Texts
  Atom = IsAtom (declared names) operators InParentheses

  abbrev pub Factor : Expr → Texts
  Factor = IsFactor (declared names) operators InParentheses

  abbrev pub MoreFactor : Expr → Texts
  MoreFactor = IsMoreFactor (declared names) operators InParentheses

  abbrev pub ATerm : Expr → Texts
  ATerm = IsTerm (declared names) operators InParentheses

  -- ---- powers

  -- a letter and a name in brackets
  Writes-lettered : (w : List ℕ) (k : ℕ) → k < length names → lexing.IsWord w →
      Writes false false ((w ++ 91 ∷ (naming_at names k).text) ++ 93 ∷ []) (symbol w (naming_at names k).text)
  Writes-lettered w k within word =
      let text : List ℕ = (naming_at names k).text in
      let first = Writes-joined false true false w (91 ∷ []) (one (lexeme.Word w)) (one (lexeme.Sign 91)) (Writes-word w word)
      (Writes-sign 91 open_bracket_is_plain) in
      let second = Writes-joined false false true (w ++ 91 ∷ []) text (one (lexeme.Word w) ▸ one (lexeme.Sign 91)) (one (lexeme.Word text)) first
      (Writes-word text (is_word names known k within)) in
      let third = Writes-joined false true false ((w ++ 91 ∷ []) ++ text) (93 ∷ [])
      (one (lexeme.Word w) ▸ one (lexeme.Sign 91) ▸ one (lexeme.Word text)) (one (lexeme.Sign 93)) second
      (Writes-sign 93 close_bracket_is_plain) in
      Writes-text false false (((w ++ 91 ∷ []) ++ text) ++ 93 ∷ []) ((w ++ 91 ∷ text) ++ 93 ∷ []) (symbol w text)
      (ap (λ (t : List ℕ). t ++ 93 ∷ []) (append_assoc w (91 ∷ []) text)) third

  Writes-symbol : (k : ℕ) → k < length names → IsTrue operators → (naming_at names k).action ≢ actions.Still →
      Writes false false (symbol_text (naming_at names k)) (Atom (e.Symbol k))
  Writes-symbol k within allowed moves = by (naming_at names k).action (is_acting names known k within) moves
    where
      by : (a : actions.Action) → IsActing (declared names) a (naming_at names k).text k → a ≢ actions.Still
          → Writes false false (letter a ++ 91 ∷ (naming_at names k).text ++ 93 ∷ []) (Atom (e.Symbol k))
      by actions.Shift acts moves =
          Writes-as false false _ (symbol (codes "S") (naming_at names k).text) (Atom (e.Symbol k))
          (λ ls h. IsAtom.shift (naming_at names k).text k allowed acts refl h)
          (Writes-lettered (codes "S") k within (refl, refl))
      by actions.Derive acts moves =
          Writes-as false false _ (symbol (codes "D") (naming_at names k).text) (Atom (e.Symbol k))
          (λ ls h. IsAtom.derivation (naming_at names k).text k allowed acts refl h)
          (Writes-lettered (codes "D") k within (refl, refl))
      by actions.Still acts moves = absurd (moves refl)

  Writes-name : (k : ℕ) → k < length names → Writes false true (name_text (naming_at names k)) (Atom (e.Name k))
  Writes-name k within =
      Writes-as false true _ (one (lexeme.Word (naming_at names k).text)) (Atom (e.Name k))
      (λ ls h. IsAtom.variable (naming_at names k).text k (is_variable names known k within) refl h)
      (Writes-word (naming_at names k).text (is_word names known k within))

  Writes-base : (p : Power) → PowerFits names operators p → Writes false true (base_text names p) (Atom (base_expression p))
  Writes-base p fits = by p.is_symbol refl
    where
      by : (is_symbol : Bool) → p.is_symbol ≡ is_symbol
          → Writes false true (cond is_symbol (symbol_text (naming_at names p.name)) (name_text (naming_at names p.name)))
          (Atom (cond is_symbol (e.Symbol p.name) (e.Name p.name)))
      by true is = let acts = fits.acting is in Writes-before false _ _ (Writes-symbol p.name fits.named acts.0 acts.1)
      by false is = Writes-name p.name fits.named

  Writes-power : (p : Power) → PowerFits names operators p → Writes false true (power_text names p) (Factor (power_expression p))
  unfolding power_text
  Writes-power p fits = by (p.exponent == 1)
    where
      base : Writes false true (base_text names p) (Atom (base_expression p))
      base = Writes-base p fits

      by : (single : Bool) → Writes false true (base_text names p ++ cond single [] (94 ∷ fmt.decimal p.exponent))
          (Factor (cond single (base_expression p) (e.Power (base_expression p) p.exponent)))
      by true = Writes-text false true _ _ _ (sym (append-nil (base_text names p))) (Writes-as false true _ _ _ (λ ls h. IsFactor.plain h) base)
      by false =
          let low = fits.low in
          let first = Writes-joined false true false (base_text names p) (94 ∷ []) (Atom (base_expression p)) (one (lexeme.Sign 94)) base
          (Writes-sign 94 caret_is_plain) in
          let exponent : Writes false true (fmt.decimal p.exponent) (number largest_degree p.exponent) =
          Writes-as false true _ (one (lexeme.Number p.exponent)) (number largest_degree p.exponent) (λ ls h. (low, h))
          (Writes-number p.exponent (omega (arith, low))) in
          let all = Writes-joined false false true (base_text names p ++ 94 ∷ []) (fmt.decimal p.exponent)
          (Atom (base_expression p) ▸ one (lexeme.Sign 94)) (number largest_degree p.exponent) first exponent in
          Writes-text false true _ _ _ (append_assoc (base_text names p) (94 ∷ []) (fmt.decimal p.exponent))
          (Writes-as false true _ (Atom (base_expression p) ▸ one (lexeme.Sign 94) ▸ number largest_degree p.exponent) _
          (λ ls h. IsFactor.power (base_expression p) p.exponent refl h) all)

  -- ---- products

  pub Writes-later : (ps : List Power) → Each (PowerFits names operators) ps →
      Writes true true (later_powers names ps) (each MoreFactor (power_expressions ps))
  Writes-later [] fits = Writes-nothing true
  Writes-later (p ∷ ps) fits =
      let first = Writes-joined true false true (42 ∷ []) (power_text names p) (one (lexeme.Sign 42)) (Factor (power_expression p))
      (Writes-sign 42 star_is_plain) (Writes-power p fits.0) in
      Writes-joined true true true (42 ∷ power_text names p) (later_powers names ps) (MoreFactor (power_expression p))
      (each MoreFactor (power_expressions ps)) first (Writes-later ps fits.1)

  Writes-whole_number : (n : ℕ) → n ≤ largest_norm → Writes false true (fmt.decimal n) (Factor (e.Whole (pos n)))
  Writes-whole_number n small =
      Writes-as false true _ (one (lexeme.Number n)) (Factor (e.Whole (pos n))) (λ ls h. IsFactor.plain (IsAtom.whole n refl (small, h)))
      (Writes-number n (omega (arith, small)))

  -- a product of its factors
  pub term_from : (first : Expr) (more : List Expr) (P : List ℕ) (b e : Bool) → Writes b e P (Factor first ▸ each MoreFactor more) →
      Writes b e P (ATerm (product_of (first ∷ more)))
  term_from first more P b e w = Writes-as b e P _ _ (λ ls h. record { first = first; more = more; value = refl; spelled = h }) w

  pub Writes-number_alone : (n : ℕ) → n ≤ largest_norm → Writes false true (fmt.decimal n) (ATerm (product_of (e.Whole (pos n) ∷ [])))
  Writes-number_alone n small =
      term_from (e.Whole (pos n)) [] _ false true
      (Writes-as false true _ (Factor (e.Whole (pos n))) _ (λ ls h. to_nothing h) (Writes-whole_number n small))

  pub Writes-term : (c : ℤ) (ps : List Power) → unsigned_abs c ≤ largest_norm → Each (PowerFits names operators) ps →
      Writes false true (term_text names c ps) (ATerm (term_expression (unsigned_abs c) ps))
  unfolding term_text
  Writes-term c [] small fits = Writes-number_alone (unsigned_abs c) small
  Writes-term c (p ∷ ps) small fits = by (unsigned_abs c == 1)
    where
      later : Writes true true (later_powers names (p ∷ ps)) (each MoreFactor (power_expressions (p ∷ ps)))
      later = Writes-later (p ∷ ps) fits

      by : (is_one : Bool) →
          Writes false true (cond is_one (powers_text names (p ∷ ps)) (fmt.decimal (unsigned_abs c) ++ later_powers names (p ∷ ps)))
          (ATerm (product_of (cond is_one (power_expressions (p ∷ ps)) (e.Whole (pos (unsigned_abs c)) ∷ power_expressions (p ∷ ps)))))
      by true =
          term_from (power_expression p) (power_expressions ps) _ false true
          (Writes-joined false true true (power_text names p) (later_powers names ps) (Factor (power_expression p))
          (each MoreFactor (power_expressions ps)) (Writes-power p fits.0) (Writes-later ps fits.1))
      by false =
          term_from (e.Whole (pos (unsigned_abs c))) (power_expressions (p ∷ ps)) _ false true
          (Writes-joined false true true (fmt.decimal (unsigned_abs c)) (later_powers names (p ∷ ps)) (Factor (e.Whole (pos (unsigned_abs c))))
          (each MoreFactor (power_expressions (p ∷ ps))) (Writes-whole_number (unsigned_abs c) small) later)
