-- A text that is read stands for the problem that it is read as. Main lemma `problem_spelled`; `read_problem` cites `gives_spelled`.
use Rattle.ct_problem.proofs.Base.{◌≡◌, ℕ, ◌≤◌, Bool, true, false, cond, List, [], ◌∷◌, ◌++◌, length, nat_lt, IsTrue, Option, None, Result, Ok, Err}
use Rattle.ct_problem.proofs.Base.{IfOk, refl, sym, ap, ◌∙◌, subst, codes, ltb-false, append_assoc, Command, scan_of, Token, Naming, ReadFault}
use Rattle.ct_problem.proofs.Base.{Problem, Input, Outcome, fresh_line, ◌>>=◌, and_then, pure, Says, StandsFor, IsEnd, MayFollow, Definition, Word}
use Rattle.ct_problem.proofs.Base.{one, ◌▸◌, lexemes, most_bytes, Reading, has_needs, head, body, last_line, problem, problem_of, input_of_scan}
use Rattle.ct_problem.proofs.Base.{too_long, reading_of, Gives}
use Rattle.ct_problem.proofs.Frame.{Ok-same, Goes_on, Settled, lexemes-append, used-taken, fresh_line-settles, joined, Spelled, first_read}
use Rattle.ct_problem.specs.GrammarProblem as grammar
use Rattle.ct_problem.specs.ReadProblem.{value_of}
use Rattle.ct_problem.proofs.SpelledEnds.{Last, last_is}
use Rattle.ct_problem.proofs.ProblemRules.{Before, problem_lines_rule}

-- the tokens of a problem that is read, up to this place
pub record IsRead (command : Command) (p : Reading) (i : Input) (at : ℕ) : Type 0 where
  pub needs : IsTrue (has_needs command p)
  pub lines : List Token
  pub end : List Token
  pub rest : List Token
  pub parts : i.left ≡ lines ++ (end ++ rest)
  pub says : Says p (lexemes i.text lines)
  pub ends : IsEnd i.text end rest i.bad at
  pub behind : MayFollow command rest i.bad

tokens_are : (command : Command) (p : Reading) (i k : Input) (at : ℕ) (s : Spelled (Before p) i k) → Last command p i.text k.left i.bad at →
    IsRead command p i at
tokens_are command p i k at s l =
    let front = s.follows.front in
    let said : s.used ≡ lexemes i.text front = used-taken i k s.used s.follows s.parts in
    let spelled : lexemes i.text (front ++ l.word ∷ []) ≡ s.used ++ Word (codes "end") ∷ [] =
    lexemes-append i.text front (l.word ∷ []) ∙ ap (λ ls. lexemes i.text front ++ ls) l.is_word
    ∙ ap (λ ls. ls ++ Word (codes "end") ∷ []) (sym said) in
    record {
      needs = l.needs;
      lines = front ++ l.word ∷ [];
      end = l.end;
      rest = l.rest;
      parts = s.follows.parts ∙ ap (λ ts. front ++ ts) l.parts ∙ sym (append_assoc front (l.word ∷ []) (l.end ++ l.rest));
      says = record {
        names = s.spells.0;
        spelled = subst (grammar.lines p ▸ one (Word (codes "end"))) (sym spelled)
            (joined s.used (Word (codes "end") ∷ []) s.spells.1 refl);
      };
      ends = l.ends;
      behind = l.behind;
    }

-- the first line is stepped to
head_settles : (i j : Input) (h : List Naming × List Definition) → head i ≡ Ok (h, j) → Settled i
unfolding head
head_settles i j h e = let f = first_read fresh_line _ i j h e in record { whole = λ _. (fresh_line-settles i f.left f.value f.first).1 }

pub problem_is : (command : Command) (i j : Input) (r : Reading × ℕ) → problem command i ≡ Ok (r, j) → IsRead command r.0 i r.1
unfolding problem
problem_is command i j r e =
    let f = first_read head (λ names. body names.0 names.1 >>= (λ p. last_line command p >>= (λ end. pure (p, end)))) i j r e in
    let g = first_read (body f.value.0 f.value.1) (λ p. last_line command p >>= (λ end. pure (p, end))) f.left j r f.second in
    let h = first_read (last_line command g.value) (λ end. pure (g.value, end)) g.left j r g.second in
    let both = Ok-same h.second in
    let whole : (head >>= (λ names. body names.0 names.1)) i ≡ Ok (g.value, g.left) =
    ap (λ (o : Outcome (List Naming × List Definition)). and_then o (λ names. body names.0 names.1)) f.first ∙ g.first in
    let going = ((problem_lines_rule None).sound i g.left g.value whole).1 in
    let settled : Settled g.left = going.follows.settles (head_settles i f.left f.value f.first) in
    let last = last_is command g.value g.left.text g.left.bad h.value h.left g.left.left settled h.first in
    let some : Goes_on g.left = λ none. cc (none, last.parts) in
    let s = going.spelled some in
    let here : Last command g.value i.text g.left.left i.bad h.value =
    subst (λ (t : List ℕ). Last command g.value t g.left.left i.bad h.value) s.follows.same_text
    (subst (λ (b : Option ℕ). Last command g.value g.left.text g.left.left b h.value) s.follows.same_bad last) in
    subst (λ (q : Reading × ℕ). IsRead command q.0 i q.1) both.0
    (tokens_are command g.value i g.left h.value s here)

pub problem_spelled : (command : Command) (bytes : List ℕ) (r : Reading × ℕ) → problem_of command bytes ≡ Ok r → StandsFor command bytes r.0 r.1
unfolding problem_of
problem_spelled command bytes r e = by (nat_lt most_bytes (length bytes)) refl e
  where
    read : length bytes ≤ most_bytes → (o : Outcome (Reading × ℕ)) → problem command (input_of_scan bytes (scan_of bytes 0)) ≡ o → value_of o ≡ Ok r →
        StandsFor command bytes r.0 r.1
    read short (Err e) same h = cc
    read short (Ok q) same h =
        let value : q.0 ≡ r = cc in
        let p = problem_is command (input_of_scan bytes (scan_of bytes 0)) q.1 q.0 same in
        subst (λ (s : Reading × ℕ). StandsFor command bytes s.0 s.1) value (record {
          short = short;
          needs = p.needs;
          lines = p.lines;
          end = p.end;
          rest = p.rest;
          tokens = p.parts;
          says = p.says;
          ends = p.ends;
          behind = p.behind;
        })

    by : (long : Bool) → nat_lt most_bytes (length bytes) ≡ long →
        cond long (Err too_long) (value_of (problem command (input_of_scan bytes (scan_of bytes 0)))) ≡ Ok r → StandsFor command bytes r.0 r.1
    by true e h = cc
    by false e h = read (ltb-false most_bytes (length bytes) e) (problem command (input_of_scan bytes (scan_of bytes 0))) refl h

pub gives_spelled : (command : Command) (bytes : List ℕ) (r : Result Problem ReadFault) → Gives (problem_of command bytes) r →
    IfOk r (λ p. StandsFor command bytes (reading_of p) p.end)
gives_spelled command bytes (Ok p) h = problem_spelled command bytes (reading_of p, p.end) h
gives_spelled command bytes (Err e) h = tt
