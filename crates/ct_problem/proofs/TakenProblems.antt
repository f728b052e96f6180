-- A text that stands for a problem is read as that problem. Main lemma `problem_taken`; `read_problem` cites `gives_none`.
use Rattle.ct_problem.proofs.Base.{◌≡◌, ◌≢◌, ℕ, nat_lt, Bool, false, cond, List, [], ◌∷◌, ◌++◌, length, drop, Option, Some, None, Result, Ok, Err}
use Rattle.ct_problem.proofs.Base.{IfErr, refl, sym, ap, ap₂, ◌∙◌, subst, arith, codes, length-append, drop-append_seam, append_assoc, Command}
use Rattle.ct_problem.proofs.Base.{scan_of, Token, Naming, ReadFault, Bad, NoMemory, Problem, StandsFor, StandsForNone, IsEnd, Input, Outcome, Parser}
use Rattle.ct_problem.proofs.Base.{◌>>=◌, and_then, pure, Definition, Lexeme, Word, LineEnd, lexemes, most_bytes, Reading, head, body, last_line}
use Rattle.ct_problem.proofs.Base.{problem, problem_of, input_of_scan, too_long, Gives}
use Rattle.ct_problem.proofs.Frame.{lexemes-append, shown, IsFresh, Taken}
use Rattle.std.proofs.Common.{le-ltb}
use Rattle.ct_problem.specs.ReadProblem.{value_of}
use Rattle.ct_problem.proofs.SpelledEnds.{Last}
use Rattle.ct_problem.proofs.TakenEnds.{end_taken}
use Rattle.ct_problem.proofs.LexemeSteps.{length-shown}
use Rattle.ct_problem.proofs.LineStarts.{AfterLines, End, fresh_before}
use Rattle.ct_problem.proofs.ProblemRules.{problem_lines_rule}

-- ---- the last word

record LastWord (text : List ℕ) (ts : List Token) (w : List ℕ) : Type 0 where
  before : List Token
  word : Token
  parts : ts ≡ before ++ word ∷ []
  is_word : lexemes text (word ∷ []) ≡ Word w ∷ []

last_word : (text : List ℕ) (ts : List Token) (w : List ℕ) (front : List Lexeme) → lexemes text ts ≡ front ++ Word w ∷ [] → LastWord text ts w
last_word text [] w [] e = cc
last_word text [] w (l ∷ front) e = cc
last_word text (t ∷ []) w [] e = record { before = []; word = t; parts = refl; is_word = e }
last_word text (t ∷ u ∷ us) w [] e = cc
last_word text (t ∷ ts) w (l ∷ front) e =
    let r = last_word text ts w front cc in
    record { before = t ∷ r.before; word = r.word; parts = ap (λ us. t ∷ us) r.parts; is_word = r.is_word }

-- ends of a list that are as long as each other
same_end : (a b c d : List Token) → a ++ b ≡ c ++ d → length b ≡ length d → b ≡ d
same_end a b c d e as_long =
    let whole = ap length e in
    let size : length a ≡ length c = omega (arith, whole, as_long, length-append a b, length-append c d) in
    sym (drop-append_seam a b) ∙ ap (drop (length a)) e ∙ ap (λ n. drop n (c ++ d)) size ∙ drop-append_seam c d

-- a line may be stepped to before the last word
line_end_fresh : (bad : Option ℕ) (ls : List Lexeme) → IsFresh bad (LineEnd ∷ ls)
line_end_fresh None ls = tt
line_end_fresh (Some at) ls = refl

end_fresh : (bytes : List ℕ) (end rest : List Token) (bad : Option ℕ) (at : ℕ) → IsEnd bytes end rest bad at →
    IsFresh bad (lexemes bytes (end ++ rest))
end_fresh bytes [] rest bad at ends = subst (λ (b : Option ℕ). IsFresh b (lexemes bytes rest)) (sym ends.1) tt
end_fresh bytes (t ∷ ts) rest bad at ends =
    subst (IsFresh bad) (sym (lexemes-append bytes (t ∷ ts) rest ∙ ap (λ ls. ls ++ lexemes bytes rest) ends.0))
    (line_end_fresh bad (lexemes bytes rest))

-- ---- the whole

then_then : {A B C : Type 0} (o : Outcome A) (f : A → Parser B) (g : B → Parser C) → and_then o (λ x. f x >>= g) ≡ and_then (and_then o f) g
then_then (Ok r) f g = refl
then_then (Err e) f g = refl

module _ (command : Command) (bytes : List ℕ) where
  start : Input
  start = input_of_scan bytes (scan_of bytes 0)

  module _ (p : Reading) (at : ℕ) (s : StandsFor command bytes p at) where
    behind : List Token
    behind = s.end ++ s.rest

    front : List Lexeme
    front = s.says.spelled.front

    says : lexemes bytes s.lines ≡ front ++ Word (codes "end") ∷ []
    unfolding front
    says = s.says.spelled.parts ∙ ap (λ ls. front ++ ls) s.says.spelled.second

    after : List Lexeme
    after = Word (codes "end") ∷ lexemes bytes behind

    split : shown start ≡ front ++ after
    unfolding start behind after
    split = ap (lexemes bytes) s.tokens ∙ lexemes-append bytes s.lines behind ∙ ap (λ ls. ls ++ lexemes bytes behind) says
        ∙ append_assoc front (Word (codes "end") ∷ []) (lexemes bytes behind)

    may_follow : AfterLines (scan_of bytes 0).bad 8 after
    unfolding after behind
    may_follow = record {
      from = record { key = End; low = omega arith; back = lexemes bytes behind; parts = refl };
      fresh = fresh_before (scan_of bytes 0).bad (Word (codes "end") ∷ []) (lexemes bytes behind)
          (end_fresh bytes s.end s.rest (scan_of bytes 0).bad at s.ends);
    }

    lines_taken : Taken (head >>= (λ names. body names.0 names.1)) start p after
    unfolding start front
    lines_taken = (problem_lines_rule (scan_of bytes 0).bad).whole p tt start front after refl split (s.says.names, s.says.spelled.first) may_follow

    last_left : (t : Taken (head >>= (λ names. body names.0 names.1)) start p after) → Last command p bytes t.left.left (scan_of bytes 0).bad at
    unfolding start after behind
    last_left t =
        let w = last_word bytes s.lines (codes "end") front says in
        let shows = ap length t.shows in
        let size : length t.left.left ≡ length (w.word ∷ behind) =
        omega (arith, shows, length-shown t.left, length-shown (record { text = bytes; left = behind; bad = None })) in
        record {
          needs = s.needs;
          word = w.word;
          is_word = w.is_word;
          end = s.end;
          rest = s.rest;
          parts = same_end t.follows.front t.left.left w.before (w.word ∷ behind) (sym t.follows.parts ∙ s.tokens ∙ ap (λ ts. ts ++ behind) w.parts
              ∙ append_assoc w.before (w.word ∷ []) behind) size;
          ends = s.ends;
          behind = s.behind;
        }

    problem_read : value_of (problem command start) ≡ Ok (p, at)
    unfolding problem start
    problem_read =
        let t = lines_taken in
        let r = end_taken command p bytes t.left.left (scan_of bytes 0).bad at (last_left t) in
        let here : t.left ≡ record { text = bytes; left = t.left.left; bad = (scan_of bytes 0).bad } =
        ap₂ (λ (text : List ℕ) (bad : Option ℕ). record { text = text; left = t.left.left; bad = bad }) t.follows.same_text t.follows.same_bad
        in
        let f : Reading → Parser (Reading × ℕ) = λ q. last_line command q >>= (λ end. pure (q, end)) in
        ap value_of (
        then_then (head start) (λ (names : List Naming × List Definition). body names.0 names.1) f
        ∙ ap (λ o. and_then o f) t.reads
        ∙ ap (λ o. and_then o (λ end. pure (p, end))) (ap (last_line command p) here ∙ r.reads))

    pub problem_taken : problem_of command bytes ≡ Ok (p, at)
    unfolding problem_of start
    problem_taken =
        let short = s.short in
        let within : nat_lt most_bytes (length bytes) ≡ false = le-ltb most_bytes (length bytes) short in
        ap (λ (long : Bool). cond long (Err too_long) (value_of (problem command start))) within ∙ problem_read

  -- where the text isn't read, it stands for nothing
  pub gives_none : (r : Result Problem ReadFault) → Gives (problem_of command bytes) r → IfErr r (λ e. e ≢ NoMemory → StandsForNone command bytes)
  gives_none (Ok p) h = tt
  gives_none (Err NoMemory) h = λ other. absurd (other refl)
  gives_none (Err (Bad e)) h = λ other p at s. let read = sym h ∙ problem_taken p at s in cc
