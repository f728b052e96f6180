-- What an input shows of its lexemes: the next one, and those after it.
--     shown i                    the lexemes that are left
--     sees-shown, sees_word-shown, shown-next    the tests of an input and its next, by the lexemes
use Rattle.ct_problem.proofs.Base.{length, suc, ◌≡◌, ℕ, ◌+◌, ◌-◌, ◌*◌, ◌≤◌, ◌==◌, min, fold, Bool, false, List, [], ◌∷◌, Some, refl, sym, ap, ◌∙◌}
use Rattle.ct_problem.proofs.Base.{arith, bytes_eq, Symbol, Token, slice, Input, next, tail, is_sign, is_word, sees, sees_word, spelling, spelling_in}
use Rattle.ct_problem.proofs.Base.{Lexeme, Word, Number, Sign, Dots, LineEnd, lexeme_of, lexemes, decimal, value_of, largest_norm}
use Rattle.ct_token.specs.declared.token.Symbol.TheVariants as symbol
use Rattle.ct_problem.specs.Input as input
use Rattle.ct_problem.proofs.Slices.{slice_of-slice}

abbrev pub shown : Input → List Lexeme
shown i = lexemes i.text i.left

abbrev pub shows_sign : ℕ → List Lexeme → Bool
shows_sign s [] = false
shows_sign s (Sign found ∷ ls) = found == s
shows_sign s (Word w ∷ ls) = false
shows_sign s (Number n ∷ ls) = false
shows_sign s (Dots ∷ ls) = false
shows_sign s (LineEnd ∷ ls) = false

abbrev pub shows_word : List ℕ → List Lexeme → Bool
shows_word w [] = false
shows_word w (Word found ∷ ls) = bytes_eq found w
shows_word w (Sign s ∷ ls) = false
shows_word w (Number n ∷ ls) = false
shows_word w (Dots ∷ ls) = false
shows_word w (LineEnd ∷ ls) = false

abbrev pub after_first : List Lexeme → List Lexeme
after_first [] = []
after_first (l ∷ ls) = ls

sign_of : (s : ℕ) (found : Symbol) (bytes : List ℕ) (ls : List Lexeme) → is_sign s (Some found) ≡ shows_sign s (lexeme_of found bytes ∷ ls)
sign_of s symbol.Word bytes ls = refl
sign_of s symbol.Number bytes ls = refl
sign_of s (symbol.Sign found) bytes ls = refl
sign_of s symbol.Dots bytes ls = refl
sign_of s symbol.LineEnd bytes ls = refl

pub sees-shown : (s : ℕ) (i : Input) → sees s i ≡ shows_sign s (shown i)
unfolding sees
sees-shown s i = by i.left
  where
    by : (left : List Token) → is_sign s (input.symbol_of left) ≡ shows_sign s (lexemes i.text left)
    by [] = refl
    by (t ∷ ts) = sign_of s t.symbol (slice t.from t.to i.text) (lexemes i.text ts)

word_of : (w : List ℕ) (found : Symbol) (bytes : List ℕ) (ls : List Lexeme) → is_word (Some found) bytes w ≡ shows_word w (lexeme_of found bytes ∷ ls)
word_of w symbol.Word bytes ls = refl
word_of w symbol.Number bytes ls = refl
word_of w (symbol.Sign found) bytes ls = refl
word_of w symbol.Dots bytes ls = refl
word_of w symbol.LineEnd bytes ls = refl

pub sees_word-shown : (w : List ℕ) (i : Input) → sees_word w i ≡ shows_word w (shown i)
unfolding sees_word
sees_word-shown w i = by i.left
  where
    by : (left : List Token) → is_word (input.symbol_of left) (spelling_in i.text left) w ≡ shows_word w (lexemes i.text left)
    by [] = refl
    by (t ∷ ts) = rw (slice_of-slice t.from t.to i.text) (word_of w t.symbol (slice t.from t.to i.text) (lexemes i.text ts))

pub shown-next : (i : Input) → shown (next i) ≡ after_first (shown i)
shown-next i = by i.left
  where
    by : (left : List Token) → lexemes i.text (tail left) ≡ after_first (lexemes i.text left)
    by [] = refl
    by (t ∷ ts) = refl

symbol_first : (text : List ℕ) (left : List Token) (s : Symbol) → input.symbol_of left ≡ Some s →
    lexemes text left ≡ lexeme_of s (spelling_in text left) ∷ after_first (lexemes text left)
symbol_first text [] s e = cc
symbol_first text (t ∷ ts) s e =
    let same : t.symbol ≡ s = cc in
    ap (λ (r : Symbol). lexeme_of r (slice t.from t.to text) ∷ lexemes text ts) same
    ∙ ap (λ (bytes : List ℕ). lexeme_of s bytes ∷ lexemes text ts) (sym (slice_of-slice t.from t.to text))

-- the next token's lexeme
pub shown-symbol : (i : Input) (s : Symbol) → input.symbol i ≡ Some s → shown i ≡ lexeme_of s (spelling i) ∷ after_first (shown i)
shown-symbol i s e = symbol_first i.text i.left s e

-- ---- the values of digits

capped : (most n b : ℕ) → min (10 * min n most + (b - 48)) most ≡ min (10 * n + (b - 48)) most
capped most n b = omega arith

fold-capped : (most : ℕ) (ds : List ℕ) (n : ℕ) →
    fold (λ m b. min (10 * m + (b - 48)) most) (min n most) ds ≡ min (fold (λ m b. 10 * m + (b - 48)) n ds) most
fold-capped most [] n = refl
fold-capped most (d ∷ ds) n = ap (λ (m : ℕ). fold (λ m b. min (10 * m + (b - 48)) most) m ds) (capped most n d)
    ∙ fold-capped most ds (10 * n + (d - 48))

-- digits that are within the limit have their whole value
pub value_of-decimal : (limit : ℕ) (ds : List ℕ) → limit ≤ largest_norm → value_of ds ≤ limit → decimal ds ≡ value_of ds
value_of-decimal limit ds low small =
    let cut = fold-capped (largest_norm + 1) ds 0 in
    omega (arith, cut, low, small)

pub value_of-small : (ds : List ℕ) → decimal ds ≤ largest_norm → value_of ds ≡ decimal ds
value_of-small ds small =
    let cut = fold-capped (largest_norm + 1) ds 0 in
    omega (arith, cut, small)

pub length-shown : (i : Input) → length (shown i) ≡ length i.left
length-shown i = by i.left
  where
    by : (left : List Token) → length (lexemes i.text left) ≡ length left
    by [] = refl
    by (t ∷ ts) = ap suc (by ts)
