-- A text has no more lexemes than bytes, and a report that stands in one has no more cofactors. Main lemma `cofactors_fit`.
use Rattle.ct_problem.proofs.Base.{ℕ, ◌+◌, ◌-◌, ◌<◌, ◌≤◌, nat_le, List, [], ◌∷◌, length, drop, IsTrue, ap, arith, codes, length-append, leb-true}
use Rattle.ct_problem.proofs.Base.{length-drop, largest_norm, Naming, scan_of, AreTokens, Token, scans_are_tokens, Expr, Report, ReportStandsFor}
use Rattle.ct_problem.proofs.Base.{cofactors, Lexeme, Word, Texts, ◌▸◌, lexemes, Names, most_bytes, is_plain, input_of_scan}
use Rattle.ct_problem.proofs.Frame.{joined_to_right}
use Rattle.ct_problem.proofs.Cursors.{both_pass}
use Rattle.ct_problem.proofs.LexemeStarts.{begun-length}
use Rattle.ct_problem.proofs.LexemeSteps.{length-shown}

-- ---- tokens

tokens_fit : (bytes : List ℕ) (at : ℕ) (ts : List Token) → AreTokens bytes at ts → length ts ≤ length bytes - at
tokens_fit bytes at [] h = omega arith
tokens_fit bytes at (t ∷ ts) h =
    let first = h.0 in
    omega (arith, first.after, first.some, first.within, tokens_fit bytes t.to ts h.1)

lexemes_fit : (bytes : List ℕ) (from : ℕ) → length (lexemes bytes (scan_of bytes from).tokens) ≤ length (drop from bytes)
lexemes_fit bytes from =
    omega (
      arith,
      length-shown (input_of_scan bytes (scan_of bytes from)),
      tokens_fit bytes from (scan_of bytes from).tokens (scans_are_tokens bytes from),
      length-drop from bytes,
    )

-- ---- plain texts

plain_is_short : (bytes : List ℕ) → IsTrue (is_plain bytes) → length bytes ≤ most_bytes
unfolding is_plain
plain_is_short bytes plain = leb-true (length bytes) most_bytes (both_pass (nat_le (length bytes) most_bytes) _ plain).0

-- ---- cofactors

module _ {a b : Texts} {ls : List Lexeme} (h : (a ▸ b) ls) where
  front_fits : length h.front ≤ length ls
  front_fits = let parts = ap length h.parts in omega (arith, parts, length-append h.front h.back)

  back_fits : length h.back ≤ length ls
  back_fits = let parts = ap length h.parts in omega (arith, parts, length-append h.front h.back)

a_lexeme_each : (names : Names) (place : ℕ) (xs : List Expr) (ls : List Lexeme) → cofactors names place xs ls → length xs ≤ length ls
a_lexeme_each names place [] ls h = omega arith
a_lexeme_each names place (x ∷ xs) ls h =
    let some = begun-length (Word (codes "cofactor")) h.front (joined_to_right (joined_to_right h.first)) in
    let parts = ap length h.parts in
    omega (arith, parts, length-append h.front h.back, some, a_lexeme_each names (place + 1) xs h.back h.second)

pub cofactors_fit : (variables : List Naming) (count : ℕ) (bytes : List ℕ) (from : ℕ) (r : Report) → ReportStandsFor variables count bytes from r →
    count < largest_norm
cofactors_fit variables count bytes from r s =
    let h = s.lines in
    let each = a_lexeme_each _ 1 r.cofactors h.first.back h.first.second in
    omega (arith, s.a_cofactor_each, each, back_fits h.first, front_fits h, lexemes_fit bytes from, plain_is_short (drop from bytes) s.plain)
