-- Scanning a text piece by piece is `scan_of`, which goes byte by byte: it passes over the bytes of a piece that was read
-- (`scanned-skip`). Main lemma `goes_on`, a turn of the scan; `is_done` and `is_bad` are its ends.
use Rattle.std.proofs.Common.{◌≡◌, ℕ, zero, suc, ◌+◌, ◌-◌, ◌<◌, ◌≤◌, Bool, List, [], ◌∷◌, ◌++◌, length, drop, sym, ap, ◌∙◌, append_assoc, arith, Some}
use Rattle.std.proofs.Common.{None}
use Rattle.std.proofs.lemmas.List.{append-nil, length-drop, drop-drop, drop_all}
use Rattle.ct_token.specs.declared.token.Token.{Token}
use Rattle.ct_token.specs.Lexical.{Scanned, Piece, Bad, scanned, piece_of, piece_len, fresh_after, with_piece}

-- what was scanned before, and what is still scanned
abbrev pub with_front : List Token → Scanned → Scanned
with_front front others = record { tokens = front ++ others.tokens; bad = others.bad }

-- bytes that were read before are passed over
pub scanned-skip : (is_fresh : Bool) (at skip : ℕ) (text : List ℕ) → skip ≤ length text →
    scanned is_fresh at skip text ≡ scanned is_fresh (at + skip) 0 (drop skip text)
unfolding scanned
scanned-skip is_fresh at zero text le = let e : at ≡ at + 0 = omega arith in ap (λ (k : ℕ). scanned is_fresh k 0 text) e
scanned-skip is_fresh at (suc skip) [] le = absurd (omega arith)
scanned-skip is_fresh at (suc skip) (b ∷ bs) le =
    let e : at + 1 + skip ≡ at + suc skip = omega arith in
    scanned-skip is_fresh (at + 1) skip bs (omega arith) ∙ ap (λ (k : ℕ). scanned is_fresh k 0 (drop skip bs)) e

-- one piece
pub scanned-piece : (is_fresh : Bool) (at : ℕ) (text : List ℕ) (p : Piece) → piece_of is_fresh text ≡ p → 0 < piece_len p → piece_len p ≤ length text
    → scanned is_fresh at 0 text ≡ with_piece p at (scanned (fresh_after is_fresh p) (at + piece_len p) 0 (drop (piece_len p) text))
unfolding scanned
scanned-piece is_fresh at [] p e some le = absurd (omega arith)
scanned-piece is_fresh at (b ∷ bs) p e some le =
    let step : scanned is_fresh at 0 (b ∷ bs) ≡ with_piece p at (scanned (fresh_after is_fresh p) (at + 1) (piece_len p - 1) bs) =
    ap (λ (q : Piece). with_piece q at (scanned (fresh_after is_fresh q) (at + 1) (piece_len q - 1) bs)) e in
    let more : piece_len p ≡ suc (piece_len p - 1) = omega arith in
    let place : at + 1 + (piece_len p - 1) ≡ at + piece_len p = omega arith in
    let rest : drop (piece_len p - 1) bs ≡ drop (piece_len p) (b ∷ bs) = ap (λ (k : ℕ). drop k (b ∷ bs)) (sym more) in
    let skipped : scanned (fresh_after is_fresh p) (at + 1) (piece_len p - 1) bs ≡ scanned (fresh_after is_fresh p) (at + piece_len p) 0
    (drop (piece_len p) (b ∷ bs)) =
    scanned-skip (fresh_after is_fresh p) (at + 1) (piece_len p - 1) bs (omega arith)
    ∙ ap (λ (k : ℕ). scanned (fresh_after is_fresh p) k 0 (drop (piece_len p - 1) bs)) place
    ∙ ap (λ (t : List ℕ). scanned (fresh_after is_fresh p) (at + piece_len p) 0 t) rest in
    step ∙ ap (λ (o : Scanned). with_piece p at o) skipped

-- a turn of the scan: at is the place of the rest of the text
pub goes_on : (front : List Token) (is_fresh : Bool) (at : ℕ) (text : List ℕ) (p : Piece) (total : Scanned) → piece_of is_fresh (drop at text) ≡ p →
    0 < piece_len p → at + piece_len p ≤ length text
    → with_front front (scanned is_fresh at 0 (drop at text)) ≡ total
    → with_front front (with_piece p at (scanned (fresh_after is_fresh p) (at + piece_len p) 0 (drop (at + piece_len p) text))) ≡ total
goes_on front is_fresh at text p total e some le so_far =
    let room : piece_len p ≤ length (drop at text) = omega (arith, length-drop at text) in
    let one = scanned-piece is_fresh at (drop at text) p e some room in
    let far : drop (piece_len p) (drop at text) ≡ drop (at + piece_len p) text = drop-drop (piece_len p) at text in
    ap (λ (t : List ℕ). with_front front (with_piece p at (scanned (fresh_after is_fresh p) (at + piece_len p) 0 t))) (sym far)
    ∙ ap (with_front front) (sym one) ∙ so_far

pub after_token : (front : List Token) (t : Token) (others : Scanned) →
    with_front (front ++ t ∷ []) others ≡ with_front front (record { tokens = t ∷ others.tokens; bad = others.bad })
after_token front t others = ap (λ (ts : List Token). let s : Scanned = record { tokens = ts; bad = others.bad } in s)
    (append_assoc front (t ∷ []) others.tokens)

pub is_done : (front : List Token) (is_fresh : Bool) (at : ℕ) (text : List ℕ) (total : Scanned) → length text ≤ at
    → with_front front (scanned is_fresh at 0 (drop at text)) ≡ total → total ≡ record { tokens = front; bad = None }
unfolding scanned
is_done front is_fresh at text total le so_far =
    let none : drop at text ≡ [] = drop_all at text le in
    let end : with_front front (scanned is_fresh at 0 (drop at text)) ≡ record { tokens = front; bad = None } =
    rw none (ap (λ (ts : List Token). let s : Scanned = record { tokens = ts; bad = None } in s) (append-nil front)) in
    sym so_far ∙ end

pub is_bad : (front : List Token) (is_fresh : Bool) (at : ℕ) (text : List ℕ) (total : Scanned) → at < length text →
    piece_of is_fresh (drop at text) ≡ Bad
    → with_front front (scanned is_fresh at 0 (drop at text)) ≡ total → total ≡ record { tokens = front; bad = Some at }
is_bad front is_fresh at text total lt e so_far =
    let stop = goes_on front is_fresh at text Bad total e (omega arith) (omega arith) so_far in
    sym stop ∙ ap (λ (ts : List Token). let s : Scanned = record { tokens = ts; bad = Some at } in s) (append-nil front)
