-- The tokens that a scan gives are tokens of the text. Main lemma `scans_are_tokens`, by induction on the text from a place on:
-- the piece there is spelled as it says (`lexeme_is`), and the others begin past it.
use Rattle.std.proofs.Common.{◌≡◌, ℕ, zero, suc, ◌+◌, ◌-◌, ◌≤◌, Bool, List, [], ◌∷◌, take, drop, refl, sym, ap, ◌∙◌, subst, arith}
use Rattle.std.proofs.lemmas.List.{length-drop, drop-drop}
use Rattle.ct_token.specs.declared.token.Symbol.{Symbol}
use Rattle.ct_token.specs.declared.token.Token.{Token}
use Rattle.ct_token.specs.Lexical.{Piece, Gap, Lexeme, Bad, scanned, scan_of, piece_of, piece_len, fresh_after, with_piece}
use Rattle.ct_token.specs.Lexing.{Spells, Ends, IsToken, AreTokens, ScansAreTokens}
use Rattle.ct_token.proofs.Spellings.{IsPiece, lexeme_is}

-- tokens that begin no earlier than a place begin no earlier than one before it
pub AreTokens-earlier : (bytes : List ℕ) (early late : ℕ) (ts : List Token) → early ≤ late → AreTokens bytes late ts → AreTokens bytes early ts
AreTokens-earlier bytes early late [] le h = tt
AreTokens-earlier bytes early late (t ∷ ts) le h =
    let first = h.0 in
    (record { after = omega (arith, first.after); some = first.some; within = first.within; spelled = first.spelled; whole = first.whole }, h.1)

-- a piece at a place is a token
token_at : (bytes : List ℕ) (at n : ℕ) (symbol : Symbol) → IsPiece symbol n (drop at bytes) →
    IsToken bytes at (record { symbol = symbol; from = at; to = at + n })
token_at bytes at n symbol piece =
    let size : at + n - at ≡ n = omega arith in
    let far : drop n (drop at bytes) ≡ drop (at + n) bytes = drop-drop n at bytes in
    let some = piece.some in
    let within = piece.within in
    record {
      after = omega arith;
      some = omega (arith, some);
      within = omega (arith, length-drop at bytes, some, within);
      spelled = subst (λ (k : ℕ). Spells symbol (take k (drop at bytes))) (sym size) piece.spelled;
      whole = subst (λ (rest : List ℕ). Ends symbol rest) far piece.whole;
    }

-- the text after one more byte
one_on : (bytes bs : List ℕ) (b at : ℕ) → b ∷ bs ≡ drop at bytes → bs ≡ drop (at + 1) bytes
one_on bytes bs b at e = ap (drop 1) e ∙ drop-drop 1 at bytes

scanned_are : (bytes : List ℕ) (is_fresh : Bool) (at skip : ℕ) (text : List ℕ) → text ≡ drop at bytes →
    AreTokens bytes (at + skip) (scanned is_fresh at skip text).tokens
unfolding scanned
scanned_are bytes is_fresh at skip [] e = tt
scanned_are bytes is_fresh at (suc skip) (b ∷ bs) e =
    AreTokens-earlier bytes (at + suc skip) (at + 1 + skip) _ (omega arith) (scanned_are bytes is_fresh (at + 1) skip bs (one_on bytes bs b at e))
scanned_are bytes is_fresh at zero (b ∷ bs) e =
    by (piece_of is_fresh (b ∷ bs)) refl
    (scanned_are bytes (fresh_after is_fresh (piece_of is_fresh (b ∷ bs))) (at + 1) (piece_len (piece_of is_fresh (b ∷ bs)) - 1) bs
    (one_on bytes bs b at e))
  where
    by : (p : Piece) → piece_of is_fresh (b ∷ bs) ≡ p
        → AreTokens bytes (at + 1 + (piece_len p - 1)) (scanned (fresh_after is_fresh p) (at + 1) (piece_len p - 1) bs).tokens
        → AreTokens bytes (at + 0) (with_piece p at (scanned (fresh_after is_fresh p) (at + 1) (piece_len p - 1) bs)).tokens
    by (Gap n) found others = AreTokens-earlier bytes (at + 0) (at + 1 + (n - 1)) _ (omega arith) others
    by (Lexeme symbol n) found others =
        let here : IsPiece symbol n (drop at bytes) = subst (λ (text : List ℕ). IsPiece symbol n text) e (lexeme_is is_fresh b bs symbol n found) in
        let some = here.some in
        let place : at + 0 ≡ at = omega arith in
        rw place (token_at bytes at n symbol here, AreTokens-earlier bytes (at + n) (at + 1 + (n - 1)) _ (omega (arith, some)) others)
    by Bad found others = tt

pub scans_are_tokens : ScansAreTokens
unfolding scan_of
scans_are_tokens bytes from = AreTokens-earlier bytes from (from + 0) _ (omega arith) (scanned_are bytes _ from 0 (drop from bytes) refl)
