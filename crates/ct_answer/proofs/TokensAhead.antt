-- A token's bytes at the start of a text are the first piece of it, where what follows is no more of the token. Main lemmas
-- `word_ahead`, `number_ahead`, `sign_ahead` and `blank_ahead`: the other direction of what a scan makes of a text.
use Rattle.ct_answer.proofs.Base.{◌≡◌, ℕ, suc, ◌+◌, ◌<◌, ◌≤◌, ◌==◌, ◌&&◌, Bool, true, false, List, [], ◌∷◌, ◌++◌, length, IsTrue, refl, ap, ◌∙◌}
use Rattle.ct_answer.proofs.Base.{arith, rules, tests, ne_eqb, nat_le, prefix_len, take_while, list_all, false≢true, is_blank, is_letter, is_digit}
use Rattle.ct_answer.proofs.Base.{is_word_byte, is_printable, line_end_len, starts_dots, Gap, Lexeme, piece_of, Stops, both}
use Rattle.ct_token.specs.declared.token.Symbol.TheVariants.{Word, Number, Sign}
use Rattle.ct_token.proofs.Spellings.{front_length}

-- ---- the tests of bytes

from_letter : (b : ℕ) → is_letter b ≡ true → 65 ≤ b
from_letter b e = by (nat_le 65 b) refl
  where
    by : (t : Bool) → nat_le 65 b ≡ t → 65 ≤ b
    by true h = first_of (search (rules, tests), grind (arith, tests))
    by false h =
        let low : b < 65 = first_of (search (rules, tests), grind (arith, tests)) in
        let no : nat_le 97 b ≡ false = first_of (search (rules, tests), grind (arith, tests)) in
        absurd (false≢true (rw (h, no) at e))

pub digit_bounds : (b : ℕ) → is_digit b ≡ true → (48 ≤ b) × (b ≤ 57)
digit_bounds b e =
    let parts = both (nat_le 48 b) (nat_le b 57) e in
    let low = parts.0 in
    let high = parts.1 in
    (first_of (search (rules, tests), grind (arith, tests)), first_of (search (rules, tests), grind (arith, tests)))

pub is_digit-within : (b : ℕ) → 48 ≤ b → b ≤ 57 → is_digit b ≡ true
is_digit-within b low high =
    let first : nat_le 48 b ≡ true = first_of (search (rules, tests), grind (arith, tests)) in
    let second : nat_le b 57 ≡ true = first_of (search (rules, tests), grind (arith, tests)) in
    rw (first, second) refl

no_letter : (b : ℕ) → b ≤ 57 → is_letter b ≡ false
no_letter b high =
    let first : nat_le 65 b ≡ false = first_of (search (rules, tests), grind (arith, tests)) in
    let second : nat_le 97 b ≡ false = first_of (search (rules, tests), grind (arith, tests)) in
    rw (first, second) refl

-- ---- a byte that begins a token

-- the byte is no blank, no `#` and no line end
record BeginsToken (b : ℕ) : Type 0 where
  no_space : (b == 32) ≡ false
  no_tab : (b == 9) ≡ false
  no_comment : (b == 35) ≡ false
  no_line_feed : (b == 10) ≡ false
  no_return : (b == 13) ≡ false

begins_from : (b : ℕ) → 36 ≤ b → BeginsToken b
begins_from b low = record {
  no_space = ne_eqb b 32 (λ e. omega arith);
  no_tab = ne_eqb b 9 (λ e. omega arith);
  no_comment = ne_eqb b 35 (λ e. omega arith);
  no_line_feed = ne_eqb b 10 (λ e. omega arith);
  no_return = ne_eqb b 13 (λ e. omega arith);
}

no_line_end : (b : ℕ) (bs : List ℕ) → BeginsToken b → line_end_len (b ∷ bs) ≡ 0
no_line_end b [] known = rw (known.no_line_feed) refl
no_line_end b (c ∷ bs) known = rw (known.no_line_feed, known.no_return) refl

no_gap : (b : ℕ) → BeginsToken b → is_blank b ≡ false
no_gap b known = rw (known.no_space, known.no_tab) refl

no_comment_line : (fresh : Bool) (b : ℕ) → BeginsToken b → (fresh && b == 35) ≡ false
no_comment_line true b known = known.no_comment
no_comment_line false b known = refl

-- ---- pieces

module _ (test : ℕ → Bool) where
  -- all that passes at the front
  prefix_len-all : (bs rest : List ℕ) → IsTrue (list_all test bs) → Stops test rest → prefix_len test (bs ++ rest) ≡ length bs
  prefix_len-all [] [] all stops = refl
  prefix_len-all [] (c ∷ rest) all stops = rw stops refl
  prefix_len-all (b ∷ bs) rest all stops =
      let parts = both (test b) (list_all test bs) all in
      let one : 1 + length bs ≡ suc (length bs) = omega arith in
      rw (parts.0) (ap (λ (n : ℕ). 1 + n) (prefix_len-all bs rest parts.1 stops) ∙ one)

  all_ahead : (b : ℕ) (bs rest : List ℕ) → test b ≡ true → IsTrue (list_all test bs) → Stops test rest →
      length (take_while test (b ∷ (bs ++ rest))) ≡ suc (length bs)
  all_ahead b bs rest first all stops = front_length test b (bs ++ rest) first ∙ ap suc (prefix_len-all bs rest all stops)

pub word_ahead : (fresh : Bool) (b : ℕ) (bs rest : List ℕ) → is_letter b ≡ true → IsTrue (list_all is_word_byte bs) → Stops is_word_byte rest
    → piece_of fresh (b ∷ (bs ++ rest)) ≡ Lexeme Word (suc (length bs))
unfolding piece_of
word_ahead fresh b bs rest letter all stops =
    let low = from_letter b letter in
    let known = begins_from b (omega (arith, low)) in
    let first : is_word_byte b ≡ true = rw letter refl in
    let blank = no_gap b known in
    let comment = no_comment_line fresh b known in
    let ends = no_line_end b (bs ++ rest) known in
    let long = all_ahead is_word_byte b bs rest first all stops in
    rw (long, blank, comment, ends, letter) refl

pub number_ahead : (fresh : Bool) (b : ℕ) (bs rest : List ℕ) → is_digit b ≡ true → IsTrue (list_all is_digit bs) → Stops is_digit rest
    → piece_of fresh (b ∷ (bs ++ rest)) ≡ Lexeme Number (suc (length bs))
unfolding piece_of
number_ahead fresh b bs rest digit all stops =
    let bounds = digit_bounds b digit in
    let low = bounds.0 in
    let known = begins_from b (omega (arith, low)) in
    let blank = no_gap b known in
    let comment = no_comment_line fresh b known in
    let ends = no_line_end b (bs ++ rest) known in
    let letter = no_letter b bounds.1 in
    let long = all_ahead is_digit b bs rest digit all stops in
    rw (long, blank, comment, ends, letter, digit) refl

-- a sign other than `#` and `.`
pub record IsPlainSign (s : ℕ) : Type 0 where
  pub high : 36 ≤ s
  pub no_letter : is_letter s ≡ false
  pub no_digit : is_digit s ≡ false
  pub no_dot : (s == 46) ≡ false
  pub printable : is_printable s ≡ true
  pub no_word : is_word_byte s ≡ false

no_dots : (s : ℕ) (rest : List ℕ) → (s == 46) ≡ false → starts_dots (s ∷ rest) ≡ false
no_dots s [] other = refl
no_dots s (c ∷ rest) other = rw other refl

pub sign_ahead : (fresh : Bool) (s : ℕ) (rest : List ℕ) → IsPlainSign s → piece_of fresh (s ∷ rest) ≡ Lexeme (Sign s) 1
unfolding piece_of
sign_ahead fresh s rest plain =
    let known = begins_from s plain.high in
    let blank = no_gap s known in
    let comment = no_comment_line fresh s known in
    let ends = no_line_end s rest known in
    let letter = plain.no_letter in
    let digit = plain.no_digit in
    let dots = no_dots s rest plain.no_dot in
    let printable = plain.printable in
    rw (blank, comment, ends, letter, digit, dots, printable) refl

pub blank_ahead : (fresh : Bool) (rest : List ℕ) → piece_of fresh (32 ∷ rest) ≡ Gap 1
unfolding piece_of
blank_ahead fresh rest = refl
