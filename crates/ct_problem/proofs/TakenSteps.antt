-- The ends of lines, `..` and numbers are read as what they stand for.
--     IsFresh bad rest      where the step to a line meets no byte that begins no token
--     Takes-coming          a rule that asks something of the number that comes next
use Rattle.ct_problem.proofs.Base.{◌≡◌, ℕ, ◌≤◌, ◌==◌, Bool, true, false, cond, ◌||◌, List, [], ◌∷◌, ◌++◌, Option, Some, None, Ok, IsTrue, refl, ap}
use Rattle.ct_problem.proofs.Base.{◌∙◌, arith, rules, tests, nat_lt, Symbol, Token, is_line_end, slice, largest_norm, NumberTooLarge, Input, Outcome}
use Rattle.ct_problem.proofs.Base.{Parser, ◌>>=◌, ◌>>◌, and_then, pure, syntax, skip, next, has_line_end, fresh_line, fresh_by, line_end, line_end_by}
use Rattle.ct_problem.proofs.Base.{dots, dots_by, spelling, fault_if, coming_number, Lexeme, Word, Number, Sign, Dots, LineEnd, Texts, nothing, one}
use Rattle.ct_problem.proofs.Base.{lexeme_of, lexemes}
use Rattle.ct_token.specs.declared.token.Symbol.TheVariants as symbol
use Rattle.ct_problem.specs.Number as digits
use Rattle.ct_problem.proofs.LexemeSteps.{shown, value_of-small}
use Rattle.ct_problem.proofs.Following.{Follows-then, Follows-next, fresh_line-settles}
use Rattle.ct_problem.proofs.ShownSymbols.{shows_a_number, shows_dots, shows_line_end, decimal-shown, next-shown, same_number}
use Rattle.ct_problem.proofs.Taking.{Taken-same, Takes-pure, Taken-next, Takes, anywhere, headed}

-- ---- lines

-- a line ends there
abbrev pub has_end : List Lexeme → Bool
has_end [] = false
has_end (LineEnd ∷ ls) = true
has_end (Word w ∷ ls) = has_end ls
has_end (Number n ∷ ls) = has_end ls
has_end (Sign s ∷ ls) = has_end ls
has_end (Dots ∷ ls) = has_end ls

-- where lines may be stepped to: in the text before the byte that begins no token
abbrev pub IsFresh : Option ℕ → Texts
IsFresh None rest = Unit {0}
IsFresh (Some at) rest = IsTrue (has_end rest)

end_of : (s : Symbol) (bytes : List ℕ) (ls : List Lexeme) (b : Bool) → b ≡ has_end ls → is_line_end s || b ≡ has_end (lexeme_of s bytes ∷ ls)
end_of symbol.Word bytes ls b e = e
end_of symbol.Number bytes ls b e = e
end_of (symbol.Sign s) bytes ls b e = e
end_of symbol.Dots bytes ls b e = e
end_of symbol.LineEnd bytes ls b e = refl

ends_in : (text : List ℕ) (left : List Token) → has_line_end left ≡ has_end (lexemes text left)
unfolding has_line_end
ends_in text [] = refl
ends_in text (t ∷ ts) = end_of t.symbol (slice t.from t.to text) (lexemes text ts) (has_line_end ts) (ends_in text ts)

pub has_line_end-shown : (i : Input) → has_line_end i.left ≡ has_end (shown i)
has_line_end-shown i = ends_in i.text i.left

fresh_is : (bad : Option ℕ) (rest : List Lexeme) (i : Input) → IsFresh bad rest → fresh_by (has_end rest) bad i ≡ Ok (tt, i)
fresh_is None rest i h = by (has_end rest)
  where
    by : (b : Bool) → fresh_by b None i ≡ Ok (tt, i)
    by true = refl
    by false = refl
fresh_is (Some at) rest i h = ap (λ (b : Bool). fresh_by b (Some at) i) h

module _ (bad : Option ℕ) where
  -- ---- the ends of lines

  pub Takes-fresh_line : Takes bad fresh_line tt nothing (IsFresh bad)
  unfolding fresh_line
  Takes-fresh_line i used rest here e u after =
      Taken-same
      (ap (λ (b : Bool). fresh_by b i.bad i) (has_line_end-shown i ∙ ap has_end (e ∙ ap (λ ls. ls ++ rest) u))
      ∙ ap (λ (o : Option ℕ). fresh_by (has_end rest) o i) here ∙ fresh_is bad rest i after) (Takes-pure bad tt anywhere i used rest here e u tt)

  pub Takes-line_end : Takes bad line_end tt (one LineEnd) (IsFresh bad)
  unfolding line_end
  Takes-line_end i used rest here e u after =
      let head = headed bad i used rest LineEnd e u in
      let t = Takes-fresh_line (next i) [] rest here (next-shown i rest LineEnd head) refl after in
      record {
        left = t.left;
        reads = ap (λ (o : Option Symbol). line_end_by o i) (shows_line_end i rest head) ∙ t.reads;
        shows = t.shows;
        follows = Follows-then i (next i) t.left (Follows-next i (λ s. record { whole = λ _. (fresh_line-settles (next i) t.left tt t.reads).1 }))
            t.follows;
      }

  -- ---- `..`

  pub Takes-dots : Takes bad dots tt (one Dots) anywhere
  unfolding dots
  Takes-dots i used rest here e u after =
      let head = headed bad i used rest Dots e u in
      Taken-next bad dots i tt Dots rest head refl (ap (λ (o : Option Symbol). dots_by o i) (shows_dots i rest head))

  -- ---- numbers

  digits_read : (i : Input) (n : ℕ) (rest : List Lexeme) → shown i ≡ Number n ∷ rest → n ≤ largest_norm → digits.digits i ≡ Ok (n, i)
  unfolding digits.digits
  digits_read i n rest head low =
      let written = decimal-shown i rest n head in
      let value : digits.value_of (spelling i) ≡ n = value_of-small (spelling i) (omega (arith, written, low)) ∙ written in
      ap (λ (o : Option Symbol). digits.digits_by o i) (shows_a_number i rest n head) ∙ ap (λ (m : ℕ). let o : Outcome ℕ = Ok (m, i) in o) value

  -- the number that comes next stays
  pub coming_read : (i : Input) (n : ℕ) (rest : List Lexeme) → shown i ≡ Number n ∷ rest → n ≤ largest_norm → coming_number i ≡ Ok (n, i)
  unfolding coming_number
  coming_read i n rest head low =
      let within : nat_lt largest_norm n ≡ false = first_of (search (rules, tests), grind (arith, tests)) in
      ap (λ o. and_then o (λ m. fault_if (nat_lt largest_norm m) NumberTooLarge >> pure m)) (digits_read i n rest head low)
      ∙ ap (λ (b : Bool). (fault_if b NumberTooLarge >> pure n) i) within

  -- a rule that asks something of the number that comes next
  pub Takes-coming : (n : ℕ) (f : ℕ → Parser ℕ) → n ≤ largest_norm → ((i : Input) → f n i ≡ Ok (n, next i)) →
      Takes bad (coming_number >>= f) n (one (Number n)) anywhere
  Takes-coming n f low does i used rest here e u after =
      let head = headed bad i used rest (Number n) e u in
      Taken-next bad (coming_number >>= f) i n (Number n) rest head refl (ap (λ o. and_then o f) (coming_read i n rest head low) ∙ does i)

  pub Takes-exactly : (n : ℕ) → n ≤ largest_norm → Takes bad (digits.exactly n) tt (one (Number n)) anywhere
  unfolding digits.exactly
  Takes-exactly n low i used rest here e u after =
      let head = headed bad i used rest (Number n) e u in
      Taken-next bad (digits.exactly n) i tt (Number n) rest head refl
      (ap (λ o. and_then o (λ m. cond (m == n) skip syntax)) (digits_read i n rest head low)
      ∙ ap (λ (b : Bool). cond b skip syntax i) (same_number n))
