-- Plain texts, byte by byte.
use Rattle.ct_problem.proofs.Base.{◌≡◌, ℕ, suc, ◌+◌, ◌<◌, ◌≤◌, List, [], ◌∷◌, length, drop, get_or, Option, Some, None, refl, sym, ap, ◌∙◌, arith}
use Rattle.ct_problem.proofs.Base.{drop-cons, drop_all, Line, line_after, after_all}

module _ {x : Option Line} (line : Line) (text : List ℕ) (at : ℕ) where
  pub one_byte : (o : Option Line) → at < length text → o ≡ line_after line (get_or text at 0) → x ≡ after_all (Some line) (drop at text) →
      x ≡ after_all o (drop (at + 1) text)
  unfolding after_all
  one_byte o below here e =
      let next : suc at ≡ at + 1 = omega arith in
      e
      ∙ ap (after_all (Some line)) (drop-cons text at 0 below)
      ∙ ap (λ n. after_all (line_after line (get_or text at 0)) (drop n text)) next
      ∙ ap (λ l. after_all l (drop (at + 1) text)) (sym here)

  pub no_byte : length text ≤ at → x ≡ after_all (Some line) (drop at text) → Some line ≡ x
  unfolding after_all
  no_byte done e = sym (e ∙ ap (after_all (Some line)) (drop_all at text done))

-- a line that is broken stays so
pub after_all-None : (bs : List ℕ) → after_all None bs ≡ None
unfolding after_all
after_all-None [] = refl
after_all-None (b ∷ bs) = after_all-None bs
