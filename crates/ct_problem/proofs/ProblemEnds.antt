-- A problem ends within its text. Main lemma `end_within`.
use Rattle.ct_problem.proofs.Base.{ℕ, ◌≤◌, List, [], ◌∷◌, ◌++◌, length, Option, subst, arith, Command, scan_of, AreTokens, Token, scans_are_tokens}
use Rattle.ct_problem.proofs.Base.{IsEnd, StandsFor, Reading}

module _ (bytes : List ℕ) where
  token_within : (lines : List Token) (t : Token) (more : List Token) (at : ℕ) → AreTokens bytes at (lines ++ t ∷ more) → t.to ≤ length bytes
  token_within [] t more at h = h.0.within
  token_within (u ∷ us) t more at h = token_within us t more u.to h.1

  end_by : (lines end rest : List Token) (bad : Option ℕ) (at : ℕ) → AreTokens bytes 0 (lines ++ (end ++ rest)) → IsEnd bytes end rest bad at →
      at ≤ length bytes
  end_by lines [] rest bad at tokens ends = omega (arith, ends.2)
  end_by lines (t ∷ ts) rest bad at tokens ends = omega (arith, ends.1, token_within lines t (ts ++ rest) 0 tokens)

  pub end_within : (command : Command) (p : Reading) (at : ℕ) → StandsFor command bytes p at → at ≤ length bytes
  end_within command p at s =
      end_by s.lines s.end s.rest (scan_of bytes 0).bad at (subst (AreTokens bytes 0) s.tokens (scans_are_tokens bytes 0)) s.ends
