-- What the tokens of a text are: pieces of it, one after the other, each spelled as its symbol says, and each as long as it can be.
--     slice from to bytes       the bytes between two places
--     Spells symbol bs          a token of this symbol has these bytes
--     Ends symbol bs            what comes after it, which is no more of it
--     AreTokens bytes at ts     the tokens, none of which begins before the place `at`
--     ScansAreTokens            the tokens that `scan_of` gives are that
use Rattle.std.specs.Prelude.{◌≡◌, ℕ, ◌-◌, ◌<◌, ◌≤◌, ◌==◌, ◌⊎◌, Bool, false, IsTrue, List, [], ◌∷◌, length, take, drop}
use Rattle.std.specs.List.{list_all}
use Rattle.ct_token.specs.declared.token.Symbol.{Symbol}
use Rattle.ct_token.specs.declared.token.Symbol.TheVariants.{Word, Number, Sign, Dots, LineEnd}
use Rattle.ct_token.specs.declared.token.Token.{Token}
use Rattle.ct_token.specs.Lexical.{is_letter, is_digit, is_word_byte, is_printable, scan_of}

abbrev pub slice : ℕ → ℕ → List ℕ → List ℕ
slice from to bytes = take (to - from) (drop from bytes)

-- a printable byte that is no letter and no digit
pub record IsSign (b : ℕ) : Type 0 where
  pub printable : IsTrue (is_printable b)
  pub no_letter : is_letter b ≡ false
  pub no_digit : is_digit b ≡ false

abbrev pub IsWord : List ℕ → Type 0
IsWord [] = ⊥
IsWord (b ∷ bs) = IsTrue (is_letter b) × IsTrue (list_all is_word_byte bs)

abbrev pub IsNumber : List ℕ → Type 0
IsNumber [] = ⊥
IsNumber (b ∷ bs) = IsTrue (list_all is_digit (b ∷ bs))

abbrev pub Spells : Symbol → List ℕ → Type 0
Spells Word bs = IsWord bs
Spells Number bs = IsNumber bs
Spells (Sign s) bs = (bs ≡ s ∷ []) × IsSign s
Spells Dots bs = bs ≡ 46 ∷ 46 ∷ []
Spells LineEnd bs = (bs ≡ 10 ∷ []) ⊎ (bs ≡ 13 ∷ 10 ∷ [])

-- the first byte, if there is one, doesn't pass the test
abbrev pub Stops : (ℕ → Bool) → List ℕ → Type 0
Stops test [] = Unit {0}
Stops test (b ∷ bs) = test b ≡ false

abbrev pub Ends : Symbol → List ℕ → Type 0
Ends Word bs = Stops is_word_byte bs
Ends Number bs = Stops is_digit bs
Ends (Sign s) bs = s ≡ 46 → Stops (λ b. b == 46) bs
Ends Dots bs = Unit {0}
Ends LineEnd bs = Unit {0}

pub record IsToken (bytes : List ℕ) (at : ℕ) (t : Token) : Type 0 where
  pub after : at ≤ t.from
  pub some : t.from < t.to
  pub within : t.to ≤ length bytes
  pub spelled : Spells t.symbol (slice t.from t.to bytes)
  pub whole : Ends t.symbol (drop t.to bytes)

abbrev pub AreTokens : List ℕ → ℕ → List Token → Type 0
AreTokens bytes at [] = Unit {0}
AreTokens bytes at (t ∷ ts) = IsToken bytes at t × AreTokens bytes t.to ts

abbrev pub ScansAreTokens : Type 0
ScansAreTokens = (bytes : List ℕ) (from : ℕ) → AreTokens bytes from (scan_of bytes from).tokens
