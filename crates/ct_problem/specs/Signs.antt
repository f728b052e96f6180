-- The bytes of the signs that the grammar uses.
use Rattle.std.specs.Prelude.{ℕ}

-- +
abbrev pub plus : ℕ
plus = 43

-- -
abbrev pub minus : ℕ
minus = 45

-- *
abbrev pub star : ℕ
star = 42

-- ^
abbrev pub caret : ℕ
caret = 94

-- (
abbrev pub open_parenthesis : ℕ
open_parenthesis = 40

-- )
abbrev pub close_parenthesis : ℕ
close_parenthesis = 41

-- [
abbrev pub open_bracket : ℕ
open_bracket = 91

-- ]
abbrev pub close_bracket : ℕ
close_bracket = 93

-- :
abbrev pub colon : ℕ
colon = 58

-- /
abbrev pub slash : ℕ
slash = 47

-- ;
abbrev pub semicolon : ℕ
semicolon = 59

-- =
abbrev pub equals : ℕ
equals = 61
