-- Tokens that are the last line of a problem are read as that line. Main lemma `end_taken`.
use Rattle.ct_problem.proofs.Base.{◌≡◌, ℕ, not, Bool, true, false, cond, List, [], ◌∷◌, ◌++◌, length, Option, Some, None, Ok, IsTrue, refl, ap, ◌∙◌}
use Rattle.ct_problem.proofs.Base.{codes, Command, Telescope, Check, Reduce, Test, Close, Member, Gen, Demo, Symbol, Token, slice, Missing, Input}
use Rattle.ct_problem.proofs.Base.{Parser, ◌>>=◌, ◌>>◌, and_then, pure, skip, syntax, fresh_line, has_line_end, sees_word, IsEnd, MayFollow, Lexeme}
use Rattle.ct_problem.proofs.Base.{Word, LineEnd, lexeme_of, lexemes, fault_if, Reading, lacks, has_needs, ending, ending_by, nothing_left}
use Rattle.ct_problem.proofs.Base.{behind_end, last_line}
use Rattle.ct_problem.proofs.Frame.{shows_word, sees_word-shown, same_word}
use Rattle.ct_token.specs.declared.token.Symbol.TheVariants as symbol
use Rattle.ct_problem.proofs.SpelledEnds.{Last}

-- the cursor at these tokens
at : List ℕ → List Token → Option ℕ → Input
at text left bad = record { text = text; left = left; bad = bad }

-- this is read here
pub record Read {A : Type 0} (p : Parser A) (i : Input) (x : A) : Type 0 where
  pub left : Input
  pub reads : p i ≡ Ok (x, left)

-- ---- what comes behind

module _ (text : List ℕ) (x : ℕ) where
  nothing_read : (left : List Token) (bad : Option ℕ) → (left ≡ []) × (bad ≡ None) → Read (nothing_left >> pure x) (at text left bad) x
  unfolding nothing_left fresh_line has_line_end at
  nothing_read [] None h = record { left = at text [] None; reads = refl }
  nothing_read [] (Some b) h = cc
  nothing_read (t ∷ ts) bad h = cc

  behind_read : (command : Command) (left : List Token) (bad : Option ℕ) → MayFollow command left bad →
      Read (behind_end command >> pure x) (at text left bad) x
  unfolding at
  behind_read Check left bad h = record { left = at text left bad; reads = refl }
  behind_read Telescope left bad h = nothing_read left bad h
  behind_read Reduce left bad h = nothing_read left bad h
  behind_read Test left bad h = nothing_read left bad h
  behind_read Close left bad h = nothing_read left bad h
  behind_read Member left bad h = nothing_read left bad h
  behind_read Gen left bad h = nothing_read left bad h
  behind_read Demo left bad h = nothing_read left bad h

-- ---- the end of the line

-- a line end alone is a token
line_end_is : (text : List ℕ) (t : Token) → lexemes text (t ∷ []) ≡ LineEnd ∷ [] → t.symbol ≡ symbol.LineEnd
line_end_is text t e = by t.symbol e
  where
    by : (s : Symbol) → lexeme_of s (slice t.from t.to text) ∷ [] ≡ LineEnd ∷ [] → s ≡ symbol.LineEnd
    by symbol.Word h = cc
    by symbol.Number h = cc
    by (symbol.Sign n) h = cc
    by symbol.Dots h = cc
    by symbol.LineEnd h = refl

module _ (command : Command) (text : List ℕ) (bad : Option ℕ) (place : ℕ) where
  abbrev after_end : ℕ → Parser ℕ
  after_end x = behind_end command >> pure x

  ending_read : (end rest : List Token) → IsEnd text end rest bad place → MayFollow command rest bad →
      Read (ending >>= after_end) (at text (end ++ rest) bad) place
  unfolding ending at
  ending_read [] (t ∷ ts) ends behind = cc
  ending_read [] [] ends behind =
      let r = behind_read text (length text) command [] bad behind in
      record { left = r.left; reads = rw ends.2 r.reads }
  ending_read (t ∷ u ∷ us) rest ends behind = cc
  ending_read (t ∷ []) rest ends behind =
      let r = behind_read text t.to command rest bad behind in
      record {
        left = r.left;
        reads = ap (λ (s : Symbol). and_then (ending_by (Some s) (at text (t ∷ rest) bad)) after_end)
            (line_end_is text t ends.0) ∙ rw ends.1 r.reads;
      }

-- ---- the last line

not_true : (b : Bool) → IsTrue b → not b ≡ false
not_true b h = ap not h

module _ (command : Command) (p : Reading) (text : List ℕ) (left : List Token) (bad : Option ℕ) (place : ℕ) where
  abbrev last_by : Bool → Bool → Parser ℕ
  last_by is_end lacking = cond is_end (fault_if lacking Missing) syntax >> (skip >> (ending >>= after_end command text bad place))

  pub end_taken : Last command p text left bad place → Read (last_line command p) (record { text = text; left = left; bad = bad }) place
  unfolding last_line lacks at
  end_taken l =
      let i = at text left bad in
      let sees : sees_word (codes "end") i ≡ true = sees_word-shown (codes "end") i
      ∙ ap (λ (ts : List Token). shows_word (codes "end") (lexemes text ts)) l.parts ∙ word l.word (l.end ++ l.rest) l.is_word in
      let r = ending_read command text bad place l.end l.rest l.ends l.behind in
      record {
        left = r.left;
        reads =
            ap (λ (b : Bool). last_by b (lacks command p) i) sees
            ∙ ap (λ (b : Bool). last_by true b i) (not_true (has_needs command p) l.needs)
            ∙ ap (λ (ts : List Token). last_by true false (at text ts bad)) l.parts
            ∙ r.reads;
      }
    where
      word : (t : Token) (ts : List Token) → lexemes text (t ∷ []) ≡ Word (codes "end") ∷ [] → shows_word (codes "end") (lexemes text (t ∷ ts)) ≡ true
      word t ts e = let first : lexeme_of t.symbol (slice t.from t.to text) ≡ Word (codes "end") = cc in
          ap (λ (l : Lexeme). shows_word (codes "end") (l ∷ lexemes text ts)) first ∙ same_word (codes "end")
