-- A scan cuts its text. Main lemma `scans_cut_the_text`, piece by piece: each is a stretch (`gap_is`, `lexeme_is`), and the scan
-- goes on behind it (`scanned-piece`).
use Rattle.std.proofs.Common.{◌≡◌, ℕ, zero, suc, ◌+◌, ◌<◌, ◌≤◌, Bool, true, false, IsTrue, None, Some, List, [], ◌∷◌, ◌++◌, length, take, drop, refl}
use Rattle.std.proofs.Common.{sym, ap, ◌∙◌, subst, arith, append_assoc}
use Rattle.std.proofs.lemmas.List.{take-append-drop, length-drop, length-take-le, length-append}
use Rattle.ct_token.specs.declared.token.Symbol.{Symbol}
use Rattle.ct_token.specs.declared.token.Token.{Token}
use Rattle.ct_token.specs.Lexical as lexical
use Rattle.ct_token.specs.Lexical.{Scanned, Piece, Bad, scanned, scan_of, piece_of, is_line_end}
use Rattle.ct_token.specs.Lexing.{Ends}
use Rattle.ct_token.specs.Cutting.{Gap, Lexeme, IsGap, CannotBegin, begins_gap, bytes_of, tokens_at, IsEnding, IsCut, ScansCutTheText}
use Rattle.ct_token.proofs.Scanning.{scanned-piece}
use Rattle.ct_token.proofs.Spellings.{IsPiece, lexeme_is}
use Rattle.ct_token.proofs.Gaps.{IsGapPiece, gap_is, bad_is, no_gap_begins}

-- the bytes of a stretch and of what comes after it
all_of : (n : ℕ) (text more rest : List ℕ) → drop n text ≡ more ++ rest → text ≡ (take n text ++ more) ++ rest
all_of n text more rest e = sym (take-append-drop n text) ∙ ap (λ (t : List ℕ). take n text ++ t) e ∙ sym (append_assoc (take n text) more rest)

with_gap : (fresh : Bool) (at n : ℕ) (text : List ℕ) (s : Scanned) → IsGapPiece fresh n text → IsCut fresh (at + n) (drop n text) s →
    IsCut fresh at text s
with_gap fresh at n text s piece later =
    let long : length (take n text) ≡ n = length-take-le n text piece.within in
    let place : at + n + length (bytes_of later.stretches) ≡ at + length (take n text ++ bytes_of later.stretches) =
    omega (arith, length-append (take n text) (bytes_of later.stretches), long) in
    record {
      stretches = Gap (take n text) ∷ later.stretches;
      rest = later.rest;
      all_bytes = all_of n text (bytes_of later.stretches) later.rest later.all_bytes;
      each = (subst (IsGap fresh (take n text)) later.all_bytes piece.gap, later.each);
      tokens = later.tokens ∙ ap (λ (k : ℕ). tokens_at (at + k) later.stretches) (sym long);
      ending = subst (λ (k : ℕ). IsEnding k later.rest s.bad) place later.ending;
    }

with_lexeme : (fresh : Bool) (at n : ℕ) (text : List ℕ) (symbol : Symbol) (s : Scanned) → IsPiece symbol n text →
    (IsTrue (begins_gap symbol) → fresh ≡ false)
    → IsCut (is_line_end symbol) (at + n) (drop n text) s
    → IsCut fresh at text (record { tokens = record { symbol = symbol; from = at; to = at + n } ∷ s.tokens; bad = s.bad })
with_lexeme fresh at n text symbol s piece behind later =
    let long : length (take n text) ≡ n = length-take-le n text piece.within in
    let place : at + n + length (bytes_of later.stretches) ≡ at + length (take n text ++ bytes_of later.stretches) =
    omega (arith, length-append (take n text) (bytes_of later.stretches), long) in
    let whole : Ends symbol (bytes_of later.stretches ++ later.rest) = subst (Ends symbol) later.all_bytes piece.whole in
    record {
      stretches = Lexeme symbol (take n text) ∷ later.stretches;
      rest = later.rest;
      all_bytes = all_of n text (bytes_of later.stretches) later.rest later.all_bytes;
      each = (record { spelled = piece.spelled; whole = whole; no_gap = behind }, later.each);
      tokens =
          ap (λ (ts : List Token). record { symbol = symbol; from = at; to = at + n } ∷ ts) later.tokens
          ∙ ap (λ (k : ℕ). record { symbol = symbol; from = at; to = at + k } ∷ tokens_at (at + k) later.stretches) (sym long);
      ending = subst (λ (k : ℕ). IsEnding k later.rest s.bad) place later.ending;
    }

-- a text in which nothing is cut
at_end : (fresh : Bool) (at : ℕ) → IsCut fresh at [] (record { tokens = []; bad = None })
at_end fresh at = record { stretches = []; rest = []; all_bytes = refl; each = tt; tokens = refl; ending = refl }

at_bad : (fresh : Bool) (at b : ℕ) (bs : List ℕ) → CannotBegin b bs → IsCut fresh at (b ∷ bs) (record { tokens = []; bad = Some at })
at_bad fresh at b bs stops =
    let here : at ≡ at + 0 = omega arith in
    record { stretches = []; rest = b ∷ bs; all_bytes = refl; each = tt; tokens = refl; ending = (ap Some here, stops) }

-- with which a gap begins is no token where nothing but blanks stands before it
behind : (fresh : Bool) (b : ℕ) (bs : List ℕ) (symbol : Symbol) (n : ℕ) → piece_of fresh (b ∷ bs) ≡ lexical.Lexeme symbol n →
    IsTrue (begins_gap symbol) → fresh ≡ false
behind false b bs symbol n found begins = refl
behind true b bs symbol n found begins = let no = no_gap_begins b bs symbol n found in cc

-- the text is no longer than k bytes
cut_from : (k : ℕ) (fresh : Bool) (at : ℕ) (text : List ℕ) → length text ≤ k → IsCut fresh at text (scanned fresh at 0 text)
unfolding scanned
cut_from k fresh at [] short = at_end fresh at
cut_from zero fresh at (b ∷ bs) short = absurd (omega arith)
cut_from (suc k) fresh at (b ∷ bs) short =
    by (piece_of fresh (b ∷ bs)) refl (λ next n some. cut_from k next (at + n) (drop n (b ∷ bs)) (omega (arith, length-drop n (b ∷ bs))))
  where
    Later : Type 0
    Later = (next : Bool) (n : ℕ) → 0 < n → IsCut next (at + n) (drop n (b ∷ bs)) (scanned next (at + n) 0 (drop n (b ∷ bs)))

    by : (p : Piece) → piece_of fresh (b ∷ bs) ≡ p → Later → IsCut fresh at (b ∷ bs) (scanned fresh at 0 (b ∷ bs))
    by (lexical.Gap n) found later =
        let piece = gap_is fresh b bs n found in
        subst (IsCut fresh at (b ∷ bs)) (sym (scanned-piece fresh at (b ∷ bs) (lexical.Gap n) found piece.some piece.within))
        (with_gap fresh at n (b ∷ bs) _ piece (later fresh n piece.some))
    by (lexical.Lexeme symbol n) found later =
        let piece = lexeme_is fresh b bs symbol n found in
        subst (IsCut fresh at (b ∷ bs)) (sym (scanned-piece fresh at (b ∷ bs) (lexical.Lexeme symbol n) found piece.some piece.within))
        (with_lexeme fresh at n (b ∷ bs) symbol _ piece (behind fresh b bs symbol n found) (later (is_line_end symbol) n piece.some))
    by Bad found later =
        subst (IsCut fresh at (b ∷ bs)) (sym (scanned-piece fresh at (b ∷ bs) Bad found (omega arith) (omega arith)))
        (at_bad fresh at b bs (bad_is fresh b bs found))

pub scans_cut_the_text : ScansCutTheText
unfolding scan_of
scans_cut_the_text bytes from = cut_from (length (drop from bytes)) true from (drop from bytes) (omega arith)
