-- Texts that are read as lists of lexemes, built up from behind. A text that is written in pieces is read piece by piece.
--     Reads text ls               wherever the text stands, up to the end, its scan has these lexemes and no byte that can't stand there
--     Writes begin end text T     some lexemes of the set T are read from the text, whatever stands behind; where `end`, no letter,
--                                 digit or `_` may stand there, and where `begin`, none stands at the front
-- Main lemma `Writes-joined`: pieces one after the other.
use Rattle.ct_answer.proofs.Base.{◌≡◌, ℕ, ◌+◌, ◌-◌, ◌*◌, ◌^◌, ◌<◌, ◌≤◌, ◌==◌, fold, Bool, true, false, ◌||◌, None, List, [], ◌∷◌, ◌++◌, length, take}
use Rattle.ct_answer.proofs.Base.{drop, IsTrue, refl, sym, ap, ap₂, ◌∙◌, subst, arith, append_assoc, length-append, list_all, append-nil, drop-drop}
use Rattle.ct_answer.proofs.Base.{take-append-le, drop-append-le, take_all, drop_all, is_digit, is_word_byte, is_letter, Scanned, Gap, Lexeme}
use Rattle.ct_answer.proofs.Base.{piece_of, scanned, scan_of, is_line_end, with_piece, Stops, IsWord, slice, Texts, nothing, one, ◌▸◌, each, lexemes}
use Rattle.ct_answer.proofs.Base.{lexeme_of, decimal}
use Rattle.std.proofs.lemmas.Fmt.{decimal_is_IsNumeral_wide}
use Rattle.std.specs.Str.Parse.{AllDigits, digits_value_after}
use Rattle.std.specs.Char.{digit_value}
use Rattle.std.proofs.lemmas.Str.Parse.{digit_from_value}
use Rattle.std.proofs.lemmas.Str.{digit_value_digit}
use Rattle.ct_token.specs.declared.token.Symbol.{Symbol}
use Rattle.ct_token.proofs.Scanning.{scanned-piece}
use Rattle.ct_answer.proofs.TokensAhead.{IsPlainSign, word_ahead, number_ahead, sign_ahead, blank_ahead, is_digit-within}
use Rattle.std.specs.Fmt as fmt
use Rattle.ct_token.specs.declared.token.Symbol.TheVariants as symbol
use Rattle.ct_problem.specs.Lexemes as lexeme

-- ---- texts that are read

abbrev pub Reads : List ℕ → List lexeme.Lexeme → Type 0
Reads text ls = (whole : List ℕ) (fresh : Bool) (at : ℕ) → drop at whole ≡ text →
    ((scanned fresh at 0 text).bad ≡ None) × (lexemes whole (scanned fresh at 0 text).tokens ≡ ls)

pub Reads-end : Reads [] []
unfolding scanned
Reads-end whole fresh at e = (refl, refl)

pub Reads-blank : (text : List ℕ) (ls : List lexeme.Lexeme) → Reads text ls → Reads (32 ∷ text) ls
Reads-blank text ls rest whole fresh at e =
    let step : scanned fresh at 0 (32 ∷ text) ≡ scanned fresh (at + 1) 0 text =
    scanned-piece fresh at (32 ∷ text) (Gap 1) (blank_ahead fresh text) (omega arith) (omega arith) in
    let far : drop (at + 1) whole ≡ text = sym (drop-drop 1 at whole) ∙ ap (drop 1) e in
    subst (λ (s : Scanned). (s.bad ≡ None) × (lexemes whole s.tokens ≡ ls)) (sym step) (rest whole fresh (at + 1) far)

-- a token, and what is read behind it
pub Reads-token : (s : Symbol) (bs text : List ℕ) (ls : List lexeme.Lexeme) → 0 < length bs →
    ((fresh : Bool) → piece_of fresh (bs ++ text) ≡ Lexeme s (length bs))
    → Reads text ls → Reads (bs ++ text) (lexeme_of s bs ∷ ls)
Reads-token s bs text ls some piece rest whole fresh at e =
    let n = length bs in
    let within : length bs ≤ length (bs ++ text) = omega (arith, length-append bs text) in
    let same : length bs ≤ length bs = omega arith in
    let back : drop (length bs) (bs ++ text) ≡ text = drop-append-le (length bs) bs text same
    ∙ ap (λ (xs : List ℕ). xs ++ text) (drop_all (length bs) bs same) in
    let front : take (length bs) (bs ++ text) ≡ bs = take-append-le (length bs) bs text same ∙ take_all (length bs) bs same in
    let step : scanned fresh at 0 (bs ++ text)
    ≡ with_piece (Lexeme s (length bs)) at (scanned (is_line_end s) (at + length bs) 0 (drop (length bs) (bs ++ text))) =
    scanned-piece fresh at (bs ++ text) (Lexeme s (length bs)) (piece fresh) some within in
    let steps : scanned fresh at 0 (bs ++ text) ≡ with_piece (Lexeme s (length bs)) at (scanned (is_line_end s) (at + length bs) 0 text) = step
    ∙ ap (λ (t : List ℕ). with_piece (Lexeme s (length bs)) at (scanned (is_line_end s) (at + length bs) 0 t)) back in
    let far : drop (at + length bs) whole ≡ text = sym (drop-drop (length bs) at whole) ∙ ap (drop (length bs)) e ∙ back in
    let size : at + length bs - at ≡ length bs = omega arith in
    let cut : slice at (at + length bs) whole ≡ bs = ap₂ (λ (k : ℕ) (t : List ℕ). take k t) size e ∙ front in
    let others = rest whole (is_line_end s) (at + length bs) far in
    subst (λ (r : Scanned). (r.bad ≡ None) × (lexemes whole r.tokens ≡ lexeme_of s bs ∷ ls)) (sym steps)
    (others.0, ap₂ (λ (b : List ℕ) (more : List lexeme.Lexeme). lexeme_of s b ∷ more) cut others.1)

-- ---- texts in pieces

abbrev pub Before : Bool → List ℕ → Type 0
Before true text = Stops is_word_byte text
Before false text = Unit {0}

pub record Writes (begin end : Bool) (text : List ℕ) (T : Texts) : Type 0 where
  pub shown : List lexeme.Lexeme
  pub spells : T shown
  pub reads : (more : List ℕ) (ls : List lexeme.Lexeme) → Before end more → Reads more ls →
      Before begin (text ++ more) × Reads (text ++ more) (shown ++ ls)

pub Writes-joined : (b m e : Bool) (P Q : List ℕ) (A B : Texts) → Writes b m P A → Writes m e Q B → Writes b e (P ++ Q) (A ▸ B)
Writes-joined b m e P Q A B p q = record {
  shown = p.shown ++ q.shown;
  spells = record { front = p.shown; back = q.shown; parts = refl; first = p.spells; second = q.spells };
  reads = λ more ls ok rest.
      let second = q.reads more ls ok rest in
      let first = p.reads (Q ++ more) (q.shown ++ ls) second.0 second.1 in
      subst (λ (text : List ℕ). Before b text × Reads text ((p.shown ++ q.shown) ++ ls)) (sym (append_assoc P Q more))
      (first.0, subst (λ (xs : List lexeme.Lexeme). Reads (P ++ (Q ++ more)) xs) (sym (append_assoc p.shown q.shown ls)) first.1);
}

pub Writes-as : (b e : Bool) (P : List ℕ) (A B : Texts) → ((ls : List lexeme.Lexeme) → A ls → B ls) → Writes b e P A → Writes b e P B
Writes-as b e P A B same w = record { shown = w.shown; spells = same w.shown w.spells; reads = w.reads }

pub Writes-text : (b e : Bool) (P Q : List ℕ) (A : Texts) → P ≡ Q → Writes b e P A → Writes b e Q A
Writes-text b e P Q A same w = subst (λ (text : List ℕ). Writes b e text A) same w

-- less is asked for at the front
pub Writes-behind : (e : Bool) (P : List ℕ) (A : Texts) → Writes true e P A → Writes false e P A
Writes-behind e P A w = record { shown = w.shown; spells = w.spells; reads = λ more ls ok rest. (tt, (w.reads more ls ok rest).1) }

-- what may stand before anything stands before some
pub Writes-before : (b : Bool) (P : List ℕ) (A : Texts) → Writes b false P A → Writes b true P A
Writes-before b P A w = record { shown = w.shown; spells = w.spells; reads = λ more ls ok rest. w.reads more ls tt rest }

pub Writes-nothing : (b : Bool) → Writes b b [] nothing
Writes-nothing b = record { shown = []; spells = refl; reads = λ more ls ok rest. (ok, rest) }

-- a whole text
pub record IsWhole (text : List ℕ) (T : Texts) : Type 0 where
  pub no_bad : (scan_of text 0).bad ≡ None
  pub stands : T (lexemes text (scan_of text 0).tokens)

pub Writes-whole : (b e : Bool) (P : List ℕ) (T : Texts) → Writes b true P T → IsWhole P T
unfolding scan_of
Writes-whole b e P T w =
    let read : Reads (P ++ []) (w.shown ++ []) = (w.reads [] [] tt Reads-end).1 in
    let plain : Reads P w.shown =
    subst (λ (text : List ℕ). Reads text w.shown) (append-nil P)
    (subst (λ (ls : List lexeme.Lexeme). Reads (P ++ []) ls) (append-nil w.shown) read) in
    let all = plain P true 0 refl in
    record { no_bad = all.0; stands = subst T (sym all.1) w.spells }

-- ---- single tokens

pub Writes-sign : (s : ℕ) → IsPlainSign s → Writes true false (s ∷ []) (one (lexeme.Sign s))
Writes-sign s plain = record {
  shown = lexeme.Sign s ∷ [];
  spells = refl;
  reads = λ more ls ok rest.
      (plain.no_word, Reads-token (symbol.Sign s) (s ∷ []) more ls (omega arith) (λ fresh. sign_ahead fresh s more plain) rest);
}

pub Writes-blank : Writes true false (32 ∷ []) nothing
Writes-blank = record { shown = []; spells = refl; reads = λ more ls ok rest. (refl, Reads-blank more ls rest) }

pub Writes-word : (w : List ℕ) → IsWord w → Writes false true w (one (lexeme.Word w))
Writes-word [] word = absurd word
Writes-word (b ∷ bs) word = record {
  shown = lexeme.Word (b ∷ bs) ∷ [];
  spells = refl;
  reads = λ more ls ok rest. (tt, Reads-token symbol.Word (b ∷ bs) more ls (omega arith) (λ fresh. word_ahead fresh b bs more word.0 word.1 ok) rest);
}

-- ---- numbers

digits_are : (ds : List ℕ) → AllDigits 10 ds → IsTrue (list_all is_digit ds)
digits_are [] all = refl
digits_are (d ∷ ds) all =
    let range = digit_from_value d all.0 in
    let here : is_digit d ≡ true = is_digit-within d (omega (arith, range)) (omega (arith, range)) in
    rw here (digits_are ds all.1)

decimal_is : (ds : List ℕ) (n : ℕ) → AllDigits 10 ds → fold (λ m b. 10 * m + (b - 48)) n ds ≡ digits_value_after 10 n ds
decimal_is [] n all = refl
decimal_is (d ∷ ds) n all =
    let range = digit_from_value d all.0 in
    let e : 10 * n + (d - 48) ≡ n * 10 + digit_value d = omega (arith, digit_value_digit d range) in
    ap (λ (m : ℕ). fold (λ m b. 10 * m + (b - 48)) m ds) e ∙ decimal_is ds (n * 10 + digit_value d) all.1

number_reads : (n : ℕ) (ds more : List ℕ) (ls : List lexeme.Lexeme) → 0 < length ds → AllDigits 10 ds → digits_value_after 10 0 ds ≡ n →
    Stops is_digit more
    → Reads more ls → Reads (ds ++ more) (lexeme.Number n ∷ ls)
number_reads n [] more ls some all value stops rest = absurd (omega (arith, some))
number_reads n (d ∷ ds) more ls some all value stops rest =
    let digits = digits_are ds all.1 in
    let range = digit_from_value d all.0 in
    let here : is_digit d ≡ true = is_digit-within d (omega (arith, range)) (omega (arith, range)) in
    let same : decimal (d ∷ ds) ≡ n = decimal_is (d ∷ ds) 0 all ∙ value in
    subst (λ (k : ℕ). Reads ((d ∷ ds) ++ more) (lexeme.Number k ∷ ls)) same
    (Reads-token symbol.Number (d ∷ ds) more ls (omega arith) (λ fresh. number_ahead fresh d ds more here digits stops) rest)

no_digit : (b : ℕ) → is_word_byte b ≡ false → is_digit b ≡ false
no_digit b e = by (is_letter b) (is_digit b) (b == 95) e
  where
    by : (letter digit under : Bool) → (letter || (digit || under)) ≡ false → digit ≡ false
    by letter false under e = refl
    by true true under e = e
    by false true under e = e

stops_digit : (more : List ℕ) → Stops is_word_byte more → Stops is_digit more
stops_digit [] stops = tt
stops_digit (b ∷ bs) stops = no_digit b stops

pub Writes-number : (n : ℕ) → n < 10 ^ 64 → Writes false true (fmt.decimal n) (one (lexeme.Number n))
Writes-number n small =
    let numeral = decimal_is_IsNumeral_wide n small in
    record {
      shown = lexeme.Number n ∷ [];
      spells = refl;
      reads = λ more ls ok rest. (tt, number_reads n (fmt.decimal n) more ls numeral.0.0 numeral.0.1 numeral.1 (stops_digit more ok) rest);
    }
