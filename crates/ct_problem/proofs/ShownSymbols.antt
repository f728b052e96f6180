-- The next token of an input, by the lexemes that it shows.
--     shows_a_word and others     its symbol
--     spelling-shown, decimal-shown    its letters, and its value
use Rattle.ct_problem.proofs.Base.{◌≡◌, ◌≢◌, ℕ, ◌==◌, Bool, true, false, List, [], ◌∷◌, Option, Some, None, refl, sym, ap, ◌∙◌, arith, rules, tests}
use Rattle.ct_problem.proofs.Base.{bytes_eq, bytes_eq-Decides, Symbol, Token, slice, Input, next, spelling, Lexeme, Word, Number, Sign, Dots, LineEnd}
use Rattle.ct_problem.proofs.Base.{lexeme_of, lexemes, decimal}
use Rattle.ct_token.specs.declared.token.Symbol.TheVariants as symbol
use Rattle.ct_problem.specs.Input as input
use Rattle.ct_problem.proofs.LexemeSteps.{shown, after_first, shown-next, shown-symbol}

-- the symbol of the next token
first_symbol : List Lexeme → Option Symbol
first_symbol [] = None
first_symbol (Word w ∷ ls) = Some symbol.Word
first_symbol (Number n ∷ ls) = Some symbol.Number
first_symbol (Sign s ∷ ls) = Some (symbol.Sign s)
first_symbol (Dots ∷ ls) = Some symbol.Dots
first_symbol (LineEnd ∷ ls) = Some symbol.LineEnd

symbol_of-lexeme : (s : Symbol) (bytes : List ℕ) (ls : List Lexeme) → Some s ≡ first_symbol (lexeme_of s bytes ∷ ls)
unfolding first_symbol
symbol_of-lexeme symbol.Word bytes ls = refl
symbol_of-lexeme symbol.Number bytes ls = refl
symbol_of-lexeme (symbol.Sign s) bytes ls = refl
symbol_of-lexeme symbol.Dots bytes ls = refl
symbol_of-lexeme symbol.LineEnd bytes ls = refl

symbol-shown : (i : Input) → input.symbol i ≡ first_symbol (shown i)
unfolding first_symbol
symbol-shown i = by i.left
  where
    by : (left : List Token) → input.symbol_of left ≡ first_symbol (lexemes i.text left)
    by [] = refl
    by (t ∷ ts) = symbol_of-lexeme t.symbol (slice t.from t.to i.text) (lexemes i.text ts)

module _ (i : Input) (rest : List Lexeme) where
  pub shows_a_word : (w : List ℕ) → shown i ≡ Word w ∷ rest → input.symbol i ≡ Some symbol.Word
  unfolding first_symbol
  shows_a_word w e = symbol-shown i ∙ ap first_symbol e

  pub shows_a_number : (n : ℕ) → shown i ≡ Number n ∷ rest → input.symbol i ≡ Some symbol.Number
  unfolding first_symbol
  shows_a_number n e = symbol-shown i ∙ ap first_symbol e

  pub shows_a_sign : (s : ℕ) → shown i ≡ Sign s ∷ rest → input.symbol i ≡ Some (symbol.Sign s)
  unfolding first_symbol
  shows_a_sign s e = symbol-shown i ∙ ap first_symbol e

  pub shows_dots : shown i ≡ Dots ∷ rest → input.symbol i ≡ Some symbol.Dots
  unfolding first_symbol
  shows_dots e = symbol-shown i ∙ ap first_symbol e

  pub shows_line_end : shown i ≡ LineEnd ∷ rest → input.symbol i ≡ Some symbol.LineEnd
  unfolding first_symbol
  shows_line_end e = symbol-shown i ∙ ap first_symbol e

  pub spelling-shown : (w : List ℕ) → shown i ≡ Word w ∷ rest → spelling i ≡ w
  spelling-shown w e = let same : Word (spelling i) ∷ after_first (shown i) ≡ Word w ∷ rest = sym (shown-symbol i symbol.Word (shows_a_word w e)) ∙ e in cc

  pub decimal-shown : (n : ℕ) → shown i ≡ Number n ∷ rest → decimal (spelling i) ≡ n
  decimal-shown n e = let same : Number (decimal (spelling i)) ∷ after_first (shown i) ≡ Number n ∷ rest = sym (shown-symbol i symbol.Number (shows_a_number n e)) ∙ e in cc

  pub next-shown : (l : Lexeme) → shown i ≡ l ∷ rest → shown (next i) ≡ rest
  next-shown l e = shown-next i ∙ ap after_first e

pub same_number : (n : ℕ) → n == n ≡ true
same_number n = first_of (search (rules, tests), grind (arith, tests))

pub same_word : (w : List ℕ) → bytes_eq w w ≡ true
same_word w = (bytes_eq-Decides w w).1 refl

pub unequal_words : (v w : List ℕ) → v ≢ w → bytes_eq v w ≡ false
unequal_words v w other = by (bytes_eq v w) refl
  where
    by : (b : Bool) → bytes_eq v w ≡ b → bytes_eq v w ≡ false
    by true e = absurd (other ((bytes_eq-Decides v w).0 e))
    by false e = e
