-- A read that copies a prefix of what is left into a piece consumes just these bytes, and ends at the end alone.
-- Main lemma: `left-read`, which the proof of `MemSource`'s `read` cites.
-- The piece then is what was copied before its old rest, so its first bytes are the first of what was left.
use Rattle.std.proofs.Common.{◌≡◌, ◌<◌, ◌≤◌, ◌+◌, ◌++◌, [], length, take, drop, min, arith, ℕ, List, sym, ◌∙◌, ap}
use Rattle.std.proofs.Math.Seq.{take-append_seam}
use Rattle.std.proofs.lemmas.List.{take-append-drop, drop-drop, drop_all, length-take-le, length-append, length-drop}

-- the first bytes of the piece and what is left then are what was left
append-copied :
    (rest copied tail : List ℕ) (n : ℕ) →
    copied ≡ take n rest →
    n ≤ length rest →
    rest ≡ take n (copied ++ tail) ++ drop n rest
append-copied rest copied tail n same within =
    let front : take n (copied ++ tail) ≡ take n rest =
    rw same (let size : length (take n rest) ≡ n = length-take-le n rest within in ap (λ (k : ℕ). take k (take n rest ++ tail)) (sym size)
    ∙ take-append_seam (take n rest) tail) in
    rw front (sym (take-append-drop n rest))

-- what is left falls by what was read, and no byte is read only at the end
pub left-read :
    (bytes copied piece : List ℕ) (at n step : ℕ) →
    0 < step →
    copied ≡ take n (drop at bytes) →
    n ≡ min (min (length (drop at bytes)) (length piece)) step →
    (drop at bytes ≡ take n (copied ++ drop n piece) ++ drop (at + n) bytes) ×
    (n ≡ 0 → 0 < length (copied ++ drop n piece) → drop (at + n) bytes ≡ [])
left-read bytes copied piece at n step steps same count =
    let fits : n ≤ length (drop at bytes) = omega (arith, count) in
    let length_copied : length copied ≡ n = ap length same ∙ length-take-le n (drop at bytes) fits in
    let length_piece : length (copied ++ drop n piece) ≡ length piece =
    omega (arith, count, length_copied, length-append copied (drop n piece), length-drop n piece) in
    rw (← drop-drop n at bytes) (
      append-copied (drop at bytes) copied (drop n piece) n same fits,
      λ none room. drop_all n (drop at bytes) (omega (arith, steps, count, none, room, length_piece)),
    )
