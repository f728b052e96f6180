-- What is read as the last line of a problem is spelled so. Main lemma `last_is`.
use Rattle.ct_problem.proofs.Base.{◌≡◌, ℕ, Bool, true, false, cond, List, [], ◌∷◌, ◌++◌, length, Option, Some, None, Ok, IsTrue, refl, sym, ap, ◌∙◌}
use Rattle.ct_problem.proofs.Base.{codes, false≢true, Command, Telescope, Check, Reduce, Test, Close, Member, Gen, Demo, Symbol, Token, is_line_end}
use Rattle.ct_problem.proofs.Base.{slice, Missing, Input, ◌>>=◌, ◌>>◌, pure, skip, syntax, spelling_in, fresh_line, fresh_by, has_line_end, sees_word}
use Rattle.ct_problem.proofs.Base.{is_word, IsEnd, MayFollow, Lexeme, Word, lexeme_of, lexemes, fault_if, Reading, lacks, has_needs, ending}
use Rattle.ct_problem.proofs.Base.{ending_by, nothing_left, trailing_by, behind_end, last_line}
use Rattle.ct_problem.proofs.Frame.{Ok-same, sees_word-shown, Settled, shows_word-gives, test_failed}
use Rattle.ct_token.specs.declared.token.Symbol.TheVariants as symbol
use Rattle.ct_problem.proofs.NewNames.{not_false}

-- the cursor at these tokens
at : List ℕ → List Token → Option ℕ → Input
at text left bad = record { text = text; left = left; bad = bad }

-- ---- what comes behind

module _ (text : List ℕ) (x y : ℕ) (m : Input) where
  fresh_is : (b : Bool) (left : List Token) (bad : Option ℕ) → has_line_end left ≡ b →
      (fresh_by b bad >> (λ i. trailing_by i.left i) >> pure x) (at text left bad) ≡ Ok (y, m) → (x ≡ y) × ((left ≡ []) × (bad ≡ None))
  unfolding at has_line_end
  fresh_is true [] bad e h = absurd (false≢true e)
  fresh_is true (t ∷ ts) bad e h = cc
  fresh_is false [] None e h = ((Ok-same h).0, (refl, refl))
  fresh_is false [] (Some b) e h = cc
  fresh_is false (t ∷ ts) None e h = cc
  fresh_is false (t ∷ ts) (Some b) e h = cc

  nothing_is : (left : List Token) (bad : Option ℕ) → (nothing_left >> pure x) (at text left bad) ≡ Ok (y, m) → (x ≡ y) × ((left ≡ []) × (bad ≡ None))
  unfolding nothing_left fresh_line at
  nothing_is left bad h = fresh_is (has_line_end left) left bad refl h

  behind_is : (command : Command) (left : List Token) (bad : Option ℕ) → (behind_end command >> pure x) (at text left bad) ≡ Ok (y, m) →
      (x ≡ y) × MayFollow command left bad
  behind_is Check left bad h = ((Ok-same h).0, tt)
  behind_is Telescope left bad h = nothing_is left bad h
  behind_is Reduce left bad h = nothing_is left bad h
  behind_is Test left bad h = nothing_is left bad h
  behind_is Close left bad h = nothing_is left bad h
  behind_is Member left bad h = nothing_is left bad h
  behind_is Gen left bad h = nothing_is left bad h
  behind_is Demo left bad h = nothing_is left bad h

-- ---- the end of the line

record Ending (command : Command) (text : List ℕ) (left : List Token) (bad : Option ℕ) (place : ℕ) : Type 0 where
  end : List Token
  rest : List Token
  parts : left ≡ end ++ rest
  ends : IsEnd text end rest bad place
  behind : MayFollow command rest bad

module _ (command : Command) (text : List ℕ) (bad : Option ℕ) (place : ℕ) (m : Input) where
  ending_of : (t : Token) (ts : List Token) (s : Symbol) → t.symbol ≡ s →
      (ending_by (Some s) >>= (λ x. behind_end command >> pure x)) (at text (t ∷ ts) bad) ≡ Ok (place, m) → Ending command text (t ∷ ts) bad place
  unfolding at
  ending_of t ts symbol.LineEnd e h =
      let b = behind_is text t.to place m command ts bad h in
      record {
        end = t ∷ [];
        rest = ts;
        parts = refl;
        ends = (ap (λ (s : Symbol). lexeme_of s (slice t.from t.to text) ∷ []) e, sym b.0);
        behind = b.1;
      }
  ending_of t ts symbol.Word e h = cc
  ending_of t ts symbol.Number e h = cc
  ending_of t ts (symbol.Sign s) e h = cc
  ending_of t ts symbol.Dots e h = cc

  ending_is : (left : List Token) → (left ≡ [] → bad ≡ None) → (ending >>= (λ x. behind_end command >> pure x)) (at text left bad) ≡ Ok (place, m) →
      Ending command text left bad place
  unfolding ending at
  ending_is [] none h =
      let b = behind_is text (length text) place m command [] bad h in
      record { end = []; rest = []; parts = refl; ends = (refl, none refl, sym b.0); behind = b.1 }
  ending_is (t ∷ ts) none h = ending_of t ts t.symbol refl h

-- ---- the last line

pub record Last (command : Command) (p : Reading) (text : List ℕ) (left : List Token) (bad : Option ℕ) (place : ℕ) : Type 0 where
  pub needs : IsTrue (has_needs command p)
  pub word : Token
  pub is_word : lexemes text (word ∷ []) ≡ Word (codes "end") ∷ []
  pub end : List Token
  pub rest : List Token
  pub parts : left ≡ word ∷ (end ++ rest)
  pub ends : IsEnd text end rest bad place
  pub behind : MayFollow command rest bad

a_word : (o : Option Symbol) (spelled word : List ℕ) → is_word o spelled word ≡ true → o ≡ Some symbol.Word
a_word (Some symbol.Word) spelled word h = refl
a_word (Some symbol.Number) spelled word h = absurd (false≢true h)
a_word (Some (symbol.Sign s)) spelled word h = absurd (false≢true h)
a_word (Some symbol.Dots) spelled word h = absurd (false≢true h)
a_word (Some symbol.LineEnd) spelled word h = absurd (false≢true h)
a_word None spelled word h = absurd (false≢true h)

no_line_end : (s : Symbol) → s ≡ symbol.Word → is_line_end s ≡ false
no_line_end s e = ap is_line_end e

module _ (command : Command) (p : Reading) (text : List ℕ) (bad : Option ℕ) (place : ℕ) (m : Input) where
  after_word : (t : Token) (ts : List Token) → Settled (at text (t ∷ ts) bad) → sees_word (codes "end") (at text (t ∷ ts) bad) ≡ true
      → (fault_if (lacks command p) Missing >> (skip >> (ending >>= (λ x. behind_end command >> pure x)))) (at text (t ∷ ts) bad) ≡ Ok (place, m) →
      Last command p text (t ∷ ts) bad place
  unfolding at lacks sees_word has_line_end
  after_word t ts settled begins h =
      let test = test_failed (lacks command p) Missing (skip >> (ending >>= (λ x. behind_end command >> pure x))) (at text (t ∷ ts) bad) m place h in
      let head = shows_word-gives (codes "end") (lexemes text (t ∷ ts)) (sym (sees_word-shown (codes "end") (at text (t ∷ ts) bad)) ∙ begins) in
      let first : lexeme_of t.symbol (slice t.from t.to text) ≡ Word (codes "end") = cc in
      let word : Some t.symbol ≡ Some symbol.Word = a_word (Some t.symbol) (spelling_in text (t ∷ ts)) (codes "end") begins in
      let is : t.symbol ≡ symbol.Word = cc in
      let e = ending_is command text bad place m ts
      (λ none. settled.whole (λ empty. cc) (ap (λ (us : List Token). has_line_end (t ∷ us)) none ∙ last t is)) test.1 in
      record {
        needs = not_false (has_needs command p) test.0;
        word = t;
        is_word = ap (λ (l : Lexeme). l ∷ []) first;
        end = e.end;
        rest = e.rest;
        parts = ap (λ (us : List Token). t ∷ us) e.parts;
        ends = e.ends;
        behind = e.behind;
      }
    where
      last : (t : Token) → t.symbol ≡ symbol.Word → has_line_end (t ∷ []) ≡ false
      last t is = rw (no_line_end t.symbol is) refl

  last_of : (left : List Token) → Settled (at text left bad) → (b : Bool) → sees_word (codes "end") (at text left bad) ≡ b
      → (cond b (fault_if (lacks command p) Missing) syntax >> (skip >> (ending >>= (λ x. behind_end command >> pure x)))) (at text left bad) ≡
      Ok (place, m) → Last command p text left bad place
  unfolding at sees_word
  last_of [] settled true begins h = absurd (false≢true begins)
  last_of (t ∷ ts) settled true begins h = after_word t ts settled begins h
  last_of left settled false begins h = cc

  pub last_is : (left : List Token) → Settled (record { text = text; left = left; bad = bad }) →
      last_line command p (record { text = text; left = left; bad = bad }) ≡ Ok (place, m) → Last command p text left bad place
  unfolding last_line at
  last_is left settled h = last_of left settled (sees_word (codes "end") (at text left bad)) refl h
