-- The code's pieces and scans, as the lexical grammar has them.
--     view_of, scanned_by    a piece and a scan
--     IsWithin p n           a piece takes some of n bytes, and no more
use Rattle.std.specs.Prelude.{ℕ, ◌<◌, ◌≤◌}
use Rattle.ct_token.specs.Lexical as lexical
use Rattle.ct_token.specs.declared.lexer.Scan.{Scan}
use Rattle.ct_token.specs.declared.lexer.Piece.{Piece}
use Rattle.ct_token.specs.declared.lexer.Piece.TheVariants as found

abbrev pub view_of : Piece → lexical.Piece
view_of (found.Gap n) = lexical.Gap n
view_of (found.Lexeme symbol n) = lexical.Lexeme symbol n
view_of found.Bad = lexical.Bad

abbrev pub scanned_by : Scan → lexical.Scanned
scanned_by s = record { tokens = s.tokens.items; bad = s.bad }

-- a piece takes a byte, and no more than there are
abbrev pub IsWithin : Piece → ℕ → Type 0
IsWithin (found.Gap n) len = (0 < n) × (n ≤ len)
IsWithin (found.Lexeme symbol n) len = (0 < n) × (n ≤ len)
IsWithin found.Bad len = Unit {0}
