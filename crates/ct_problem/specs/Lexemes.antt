-- What the tokens of a text say, and sets of lists of that.
--     Lexeme             a word with its letters, a number with its value, a sign, `..` or the end of a line
--     lexemes text ts    what these tokens of a text say
--     Texts              a set of lists of lexemes
--     nothing, one l     the empty list alone; the list of this lexeme alone
--     optional l b       the list of this lexeme alone where b is true, and else the empty list
--     number limit n     the list of this number alone, where it is at most the limit
--     a ▸ b              a list of a, followed by one of b
--     each a xs          a list of a x for each of the values x, one after the other
use Rattle.std.specs.Prelude.{◌≡◌, ◌≤◌, ℕ, ◌+◌, ◌-◌, ◌*◌, fold, Bool, true, false, List, [], ◌∷◌, ◌++◌}
use Rattle.ct_token.specs.declared.token.Symbol.{Symbol}
use Rattle.ct_token.specs.declared.token.Symbol.TheVariants as symbol
use Rattle.ct_token.specs.declared.token.Token.{Token}
use Rattle.ct_token.specs.Lexing.{slice}

pub data Lexeme : Type 0 where
  Word : List ℕ → Lexeme
  Number : ℕ → Lexeme
  Sign : ℕ → Lexeme
  Dots : Lexeme
  LineEnd : Lexeme

-- the whole number that digits write
abbrev pub decimal : List ℕ → ℕ
decimal digits = fold (λ n b. 10 * n + (b - 48)) 0 digits

abbrev pub lexeme_of : Symbol → List ℕ → Lexeme
lexeme_of symbol.Word bytes = Word bytes
lexeme_of symbol.Number bytes = Number (decimal bytes)
lexeme_of (symbol.Sign s) bytes = Sign s
lexeme_of symbol.Dots bytes = Dots
lexeme_of symbol.LineEnd bytes = LineEnd

abbrev pub lexemes : List ℕ → List Token → List Lexeme
lexemes text [] = []
lexemes text (t ∷ ts) = lexeme_of t.symbol (slice t.from t.to text) ∷ lexemes text ts

-- ---- sets of lists

abbrev pub Texts : Type 1
Texts = List Lexeme → Type 0

abbrev pub nothing : Texts
nothing ls = ls ≡ []

abbrev pub one : Lexeme → Texts
one l ls = ls ≡ l ∷ []

abbrev pub optional : Lexeme → Bool → Texts
optional l true = one l
optional l false = nothing

abbrev pub number : ℕ → ℕ → Texts
number limit n ls = (n ≤ limit) × (ls ≡ Number n ∷ [])

pub record Joined (a b : Texts) (ls : List Lexeme) : Type 0 where
  pub front : List Lexeme
  pub back : List Lexeme
  pub parts : ls ≡ front ++ back
  pub first : a front
  pub second : b back

infixl 10 ◌▸◌
abbrev pub ◌▸◌ : Texts → Texts → Texts
a ▸ b = Joined a b

abbrev pub each : {X : Type 0} → (X → Texts) → List X → Texts
each a [] = nothing
each a (x ∷ xs) = a x ▸ each a xs
