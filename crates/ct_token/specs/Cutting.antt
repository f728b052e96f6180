-- How a text is cut: into tokens and the gaps between them, up to its end or to the first byte that can begin neither.
--     Stretch                   a gap or a token, with its bytes
--     IsGap fresh bs after      a blank; or, where nothing but blanks stands before it in its line, a line end or a comment
--     AreStretches fresh ss bs  each stretch is what it says, where the bytes bs follow the last one
--     tokens_at at ss           the tokens, where the first stretch begins at this place
--     CannotBegin b bs          no token and no gap begins with the byte b, where bs follow it
--     IsCut fresh at text s     the scan s has the tokens of a text that begins at this place, and where the first such byte is
--     ScansCutTheText           what `scan_of` gives is that
-- `fresh` says that nothing but blanks stands before in the line. Every byte up to the end of the cut stands in one stretch,
-- so what stands in no token is blank, a comment or the end of a blank line.
use Rattle.std.specs.Prelude.{◌≡◌, ℕ, ◌+◌, ◌==◌, ◌⊎◌, Bool, true, false, IsTrue, List, [], ◌∷◌, ◌++◌, length, drop, Option, Some, None}
use Rattle.std.specs.List.{list_all}
use Rattle.ct_token.specs.declared.token.Symbol.{Symbol}
use Rattle.ct_token.specs.declared.token.Symbol.TheVariants.{Sign, LineEnd}
use Rattle.ct_token.specs.declared.token.Token.{Token}
use Rattle.ct_token.specs.Lexical.{Scanned, scan_of, is_blank, is_inside_line, is_printable, is_line_end}
use Rattle.ct_token.specs.Lexing.{Spells, Ends, Stops}

pub data Stretch : Type 0 where
  Gap : List ℕ → Stretch
  Lexeme : Symbol → List ℕ → Stretch

-- ---- gaps

abbrev pub IsBlank : List ℕ → Type 0
IsBlank bs = (b : ℕ) × (bs ≡ b ∷ []) × IsTrue (is_blank b)

abbrev pub IsLineEnd : List ℕ → Type 0
IsLineEnd bs = (bs ≡ 10 ∷ []) ⊎ (bs ≡ 13 ∷ 10 ∷ [])

-- `#` and all up to the line end, or to the end of the text
pub record IsComment (bs after : List ℕ) : Type 0 where
  pub text : List ℕ
  pub begins : bs ≡ 35 ∷ text
  pub inside : IsTrue (list_all is_inside_line bs)
  pub whole : Stops is_inside_line after

abbrev pub IsGap : Bool → List ℕ → List ℕ → Type 0
IsGap fresh bs after = IsBlank bs ⊎ (IsTrue fresh × (IsLineEnd bs ⊎ IsComment bs after))

-- ---- stretches

abbrev pub bytes_of : List Stretch → List ℕ
bytes_of [] = []
bytes_of (Gap bs ∷ ss) = bs ++ bytes_of ss
bytes_of (Lexeme symbol bs ∷ ss) = bs ++ bytes_of ss

-- a line end or `#`, with which a gap begins where nothing but blanks stands before in the line
abbrev pub begins_gap : Symbol → Bool
begins_gap LineEnd = true
begins_gap (Sign s) = s == 35
begins_gap _ = false

-- these two are tokens only behind another one of their line
pub record IsLexeme (fresh : Bool) (symbol : Symbol) (bs after : List ℕ) : Type 0 where
  pub spelled : Spells symbol bs
  pub whole : Ends symbol after
  pub no_gap : IsTrue (begins_gap symbol) → fresh ≡ false

abbrev pub AreStretches : Bool → List Stretch → List ℕ → Type 0
AreStretches fresh [] rest = Unit {0}
AreStretches fresh (Gap bs ∷ ss) rest = IsGap fresh bs (bytes_of ss ++ rest) × AreStretches fresh ss rest
AreStretches fresh (Lexeme symbol bs ∷ ss) rest = IsLexeme fresh symbol bs (bytes_of ss ++ rest) × AreStretches (is_line_end symbol) ss rest

abbrev pub tokens_at : ℕ → List Stretch → List Token
tokens_at at [] = []
tokens_at at (Gap bs ∷ ss) = tokens_at (at + length bs) ss
tokens_at at (Lexeme symbol bs ∷ ss) = record { symbol = symbol; from = at; to = at + length bs } ∷ tokens_at (at + length bs) ss

-- ---- the end

-- no blank, no printable byte and no line end
pub record CannotBegin (b : ℕ) (bs : List ℕ) : Type 0 where
  pub no_blank : is_blank b ≡ false
  pub not_printable : is_printable b ≡ false
  pub no_line_feed : (b == 10) ≡ false
  pub no_return : b ≡ 13 → Stops (λ c. c == 10) bs

abbrev pub IsEnding : ℕ → List ℕ → Option ℕ → Type 0
IsEnding at [] bad = bad ≡ None
IsEnding at (b ∷ bs) bad = (bad ≡ Some at) × CannotBegin b bs

pub record IsCut (fresh : Bool) (at : ℕ) (text : List ℕ) (s : Scanned) : Type 0 where
  pub stretches : List Stretch
  pub rest : List ℕ
  pub all_bytes : text ≡ bytes_of stretches ++ rest
  pub each : AreStretches fresh stretches rest
  pub tokens : s.tokens ≡ tokens_at at stretches
  pub ending : IsEnding (at + length (bytes_of stretches)) rest s.bad

abbrev pub ScansCutTheText : Type 0
ScansCutTheText = (bytes : List ℕ) (from : ℕ) → IsCut true from (drop from bytes) (scan_of bytes from)
