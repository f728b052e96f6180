-- What is known of a cursor's tokens: those of a later part of the text are its tokens (`IsCursor-later`), and the bytes of a
-- word are ASCII (`word_spelled`).
use Rattle.ct_problem.proofs.Base.{◌≡◌, ℕ, zero, suc, ◌<◌, Bool, true, false, ◌&&◌, IsTrue, List, [], ◌∷◌, Some, refl, subst, arith, rules, tests}
use Rattle.ct_problem.proofs.Base.{All, list_all, list_any, IsAscii, false≢true, common_steps, IsAscii-from_all, Token, is_letter, is_word_byte}
use Rattle.ct_problem.proofs.Base.{is_line_end, AreTokens, IsToken, IsWord, slice, IsCursor, has_line_end, spelling_in, symbol_of}
use Rattle.ct_problem.proofs.Frame.{slice_of-slice}
use Rattle.ct_token.specs.declared.token.Symbol.TheVariants.{Word}
use Rattle.ct_token.specs.Lexing.{Spells}

-- ---- steps

pub IsCursor-later : (text : List ℕ) (at : ℕ) (left : List Token) → AreTokens text at left → IsCursor text left
IsCursor-later text at [] h = tt
IsCursor-later text at (t ∷ ts) h =
    let first : IsToken text 0 t = record { after = omega arith; some = h.0.some; within = h.0.within; spelled = h.0.spelled; whole = h.0.whole } in
    (first, h.1)

-- ---- words

one_more : (bs : List ℕ) (b : ℕ) → b < 128 → All (λ c. c < 128) bs → All (λ c. c < 128) (b ∷ bs)
one_more bs b here rest zero d below = here
one_more bs b here rest (suc k) d below = rest k d (omega arith)

small : (b : ℕ) → IsTrue (is_word_byte b) → b < 128
small b h = first_of (search (rules, tests), grind (arith, common_steps), grind (arith, tests))

small_letter : (b : ℕ) → IsTrue (is_letter b) → b < 128
small_letter b h = first_of (search (rules, tests), grind (arith, common_steps), grind (arith, tests))

-- the parts of a test of two
pub both_pass : (a b : Bool) → IsTrue (a && b) → IsTrue a × IsTrue b
both_pass true b h = (refl, h)
both_pass false b h = absurd (false≢true h)

all_small : (bs : List ℕ) → IsTrue (list_all is_word_byte bs) → All (λ b. b < 128) bs
all_small [] h = λ k d below. absurd (omega arith)
all_small (b ∷ bs) h = let parts = both_pass (is_word_byte b) (list_all is_word_byte bs) h in one_more bs b (small b parts.0) (all_small bs parts.1)

word_is_ascii : (bs : List ℕ) → IsWord bs → IsAscii bs
word_is_ascii [] h = absurd h
word_is_ascii (b ∷ bs) h = IsAscii-from_all (b ∷ bs) (one_more bs b (small_letter b h.0) (all_small bs h.1))

pub word_spelled : (text : List ℕ) (left : List Token) → IsCursor text left → symbol_of left ≡ Some Word → IsAscii (spelling_in text left)
word_spelled text [] h e = cc
word_spelled text (t ∷ ts) h e =
    let word : t.symbol ≡ Word = cc in
    let spelled : Spells Word (slice t.from t.to text) = subst (λ s. Spells s (slice t.from t.to text)) word h.0.spelled in
    rw (slice_of-slice t.from t.to text) (word_is_ascii _ spelled)

-- ---- line ends

pub has_line_end-any : (left : List Token) → has_line_end left ≡ list_any (λ t. is_line_end t.symbol) left
unfolding has_line_end
has_line_end-any [] = refl
has_line_end-any (t ∷ ts) = rw (has_line_end-any ts) refl
