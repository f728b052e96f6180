-- What a rule of the reader takes from its input: lexemes that stand for what it gives, in a set of lists.
--     Spells p L        the lexemes that p takes are of the set L x for the value x that it gives
--     taken             a lexeme is taken
use Rattle.ct_problem.proofs.Base.{◌≡◌, ℕ, true, false, List, [], ◌∷◌, ◌++◌, Ok, refl, sym, ap, ◌∙◌, subst, rules, tests, arith, false≢true}
use Rattle.ct_problem.proofs.Base.{bytes_eq-Decides, Input, Outcome, Parser, next, Lexeme, Word, Number, Sign, Dots, LineEnd, Texts, one}
use Rattle.ct_problem.proofs.LexemeSteps.{shown, shows_sign, shows_word, after_first, shown-next}
use Rattle.ct_problem.proofs.Following.{Follows, Ok-same, Settled, Follows-next, ends_line, passed}

pub record Spelled (L : Texts) (i j : Input) : Type 0 where
  pub used : List Lexeme
  pub parts : shown i ≡ used ++ shown j
  pub spells : L used
  pub follows : Follows i j

abbrev pub Spells : {A : Type 0} → Parser A → (A → Texts) → Type 0
Spells {A} p L = (i j : Input) (x : A) → p i ≡ Ok (x, j) → Spelled (L x) i j

pub Spelled-mapped : {L M : Texts} {i j : Input} → ((ls : List Lexeme) → L ls → M ls) → Spelled L i j → Spelled M i j
Spelled-mapped h s = record { used = s.used; parts = s.parts; spells = h s.used s.spells; follows = s.follows }

module _ {A : Type 0} (L : A → Texts) where
  pub moved : (i : Input) (b c : A) (k j : Input) → ◌≡◌ {A = Outcome A} (Ok (b, k)) (Ok (c, j)) → Spelled (L b) i k → Spelled (L c) i j
  moved i b c k j e s =
      let same = Ok-same e in
      subst (λ (m : Input). Spelled (L c) i m) same.1 (subst (λ (d : A). Spelled (L d) i k) same.0 s)

-- ---- the steps on lexemes

-- a lexeme is taken
pub taken_so : (l : Lexeme) (i : Input) → shown i ≡ l ∷ after_first (shown i) → (Settled i → Settled (next i)) → Spelled (one l) i (next i)
taken_so l i e settles = record { used = l ∷ []; parts = e ∙ ap (λ ls. l ∷ ls) (sym (shown-next i)); spells = refl; follows = Follows-next i settles }

-- the same, where it doesn't end a line
pub taken : (l : Lexeme) (i : Input) → ends_line l ≡ false → shown i ≡ l ∷ after_first (shown i) → Spelled (one l) i (next i)
taken l i plain e = taken_so l i e (passed i l (after_first (shown i)) e plain)

pub shows_sign-gives : (s : ℕ) (ls : List Lexeme) → shows_sign s ls ≡ true → ls ≡ Sign s ∷ after_first ls
shows_sign-gives s [] h = absurd (false≢true h)
shows_sign-gives s (Sign found ∷ ls) h = let same : found ≡ s = first_of (search (rules, tests), grind (arith, tests)) in
    ap (λ (n : ℕ). Sign n ∷ ls) same
shows_sign-gives s (Word w ∷ ls) h = absurd (false≢true h)
shows_sign-gives s (Number n ∷ ls) h = absurd (false≢true h)
shows_sign-gives s (Dots ∷ ls) h = absurd (false≢true h)
shows_sign-gives s (LineEnd ∷ ls) h = absurd (false≢true h)

pub shows_word-gives : (w : List ℕ) (ls : List Lexeme) → shows_word w ls ≡ true → ls ≡ Word w ∷ after_first ls
shows_word-gives w [] h = absurd (false≢true h)
shows_word-gives w (Word found ∷ ls) h = let same : found ≡ w = (bytes_eq-Decides found w).0 h in ap (λ (n : List ℕ). Word n ∷ ls) same
shows_word-gives w (Sign s ∷ ls) h = absurd (false≢true h)
shows_word-gives w (Number n ∷ ls) h = absurd (false≢true h)
shows_word-gives w (Dots ∷ ls) h = absurd (false≢true h)
shows_word-gives w (LineEnd ∷ ls) h = absurd (false≢true h)
