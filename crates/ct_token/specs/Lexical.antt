-- The lexical grammar (this project's own).
--     piece_of fresh bs    what stands at the beginning of a text: a gap, a token, or a byte that can't stand there
--     scan_of bytes from   the tokens from a place on, up to the first byte that can't stand there, and where that is
-- A word is a letter followed by letters, digits and `_`; a number is a string of digits; `..` is one token, and any other
-- printable byte is a sign. A line ends with a line feed, or with a carriage return and one. A line whose first byte that
-- isn't blank is `#` is a comment, up to its end; comments and blank lines are gaps, with their line ends.
use Rattle.std.specs.Prelude.{ℕ, zero, suc, ◌+◌, ◌-◌, ◌==◌, ◌&&◌, ◌||◌, Bool, true, false, not, nat_le, List, [], ◌∷◌, length, take_while, drop, Option, Some, None, if◌then◌else◌}
use Rattle.ct_token.specs.declared.token.Symbol.{Symbol}
use Rattle.ct_token.specs.declared.token.Symbol.TheVariants.{Word, Number, Sign, Dots, LineEnd}
use Rattle.ct_token.specs.declared.token.Token.{Token}

abbrev pub is_within : ℕ → ℕ → ℕ → Bool
is_within low high b = nat_le low b && nat_le b high

abbrev pub is_blank : ℕ → Bool
is_blank b = b == 32 || b == 9

abbrev pub is_digit : ℕ → Bool
is_digit b = is_within 48 57 b

abbrev pub is_letter : ℕ → Bool
is_letter b = is_within 65 90 b || is_within 97 122 b

abbrev pub is_word_byte : ℕ → Bool
is_word_byte b = is_letter b || (is_digit b || b == 95)

abbrev pub is_printable : ℕ → Bool
is_printable b = is_within 33 126 b

abbrev pub is_inside_line : ℕ → Bool
is_inside_line b = not (b == 10)

-- What stands at the beginning of a text: a gap between tokens, a token, or a byte that can't stand there.
pub data Piece : Type 0 where
  Gap : ℕ → Piece
  Lexeme : Symbol → ℕ → Piece
  Bad : Piece

-- how many bytes a line end at the front takes, if one stands there
abbrev pub line_end_len : List ℕ → ℕ
line_end_len [] = 0
line_end_len (b ∷ []) = if b == 10 then 1 else 0
line_end_len (b ∷ c ∷ bs) = if b == 10 then 1 else (if b == 13 && c == 10 then 2 else 0)

-- A comment, up to its line end.
abbrev pub comment_len : List ℕ → ℕ
comment_len bs = length (take_while is_inside_line bs)

abbrev pub starts_dots : List ℕ → Bool
starts_dots [] = false
starts_dots (b ∷ []) = false
starts_dots (b ∷ c ∷ bs) = b == 46 && c == 46

-- is_fresh: nothing but blanks stands before it in its line
unfoldable pub piece_of : Bool → List ℕ → Piece
piece_of is_fresh [] = Bad
piece_of is_fresh (b ∷ bs) =
    if is_blank b then Gap 1
    else (if is_fresh && b == 35 then Gap (comment_len (b ∷ bs))
    else (if not (line_end_len (b ∷ bs) == 0) then (if is_fresh then Gap (line_end_len (b ∷ bs)) else Lexeme LineEnd (line_end_len (b ∷ bs)))
    else (if is_letter b then Lexeme Word (length (take_while is_word_byte (b ∷ bs)))
    else (if is_digit b then Lexeme Number (length (take_while is_digit (b ∷ bs)))
    else (if starts_dots (b ∷ bs) then Lexeme Dots 2
    else (if is_printable b then Lexeme (Sign b) 1 else Bad))))))

-- the tokens up to the first byte that can't stand there, and where that is
pub record Scanned : Type 0 where
  pub tokens : List Token
  pub bad : Option ℕ

abbrev pub is_line_end : Symbol → Bool
is_line_end LineEnd = true
is_line_end _ = false

abbrev pub fresh_after : Bool → Piece → Bool
fresh_after is_fresh (Gap n) = is_fresh
fresh_after is_fresh (Lexeme symbol n) = is_line_end symbol
fresh_after is_fresh Bad = false

abbrev pub piece_len : Piece → ℕ
piece_len (Gap n) = n
piece_len (Lexeme symbol n) = n
piece_len Bad = 1

abbrev pub with_piece : Piece → ℕ → Scanned → Scanned
with_piece (Gap n) at others = others
with_piece (Lexeme symbol n) at others = record { tokens = record { symbol = symbol; from = at; to = at + n } ∷ others.tokens; bad = others.bad }
with_piece Bad at others = record { tokens = []; bad = Some at }

-- the tokens from this place on, whose first `skip` bytes belong to the piece before
unfoldable pub scanned : Bool → ℕ → ℕ → List ℕ → Scanned
scanned is_fresh at skip [] = record { tokens = []; bad = None }
scanned is_fresh at (suc skip) (b ∷ bs) = scanned is_fresh (at + 1) skip bs
scanned is_fresh at zero (b ∷ bs) =
    with_piece (piece_of is_fresh (b ∷ bs)) at
    (scanned (fresh_after is_fresh (piece_of is_fresh (b ∷ bs))) (at + 1) (piece_len (piece_of is_fresh (b ∷ bs)) - 1) bs)

-- from this place of the text on
unfoldable pub scan_of : List ℕ → ℕ → Scanned
scan_of bytes from = scanned true from 0 (drop from bytes)
