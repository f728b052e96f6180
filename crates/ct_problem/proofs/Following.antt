-- A cursor that comes after another: the same text, up to the same place, of whose tokens some were taken.
--     Follows i j       j comes after i
--     Settled j         where tokens are left and no line ends, the text goes on to its end: so it is behind a step to a line
--                       (`fresh_line-settles`), and stays so past what doesn't end a line (`passed`)
--     used-taken        the lexemes that were taken are those of the tokens that were
use Rattle.ct_problem.proofs.Base.{Outcome, ◌≡◌, ℕ, Bool, true, false, List, [], ◌∷◌, ◌++◌, Option, Some, None, Ok, refl, sym, ap, ◌∙◌, append_assoc}
use Rattle.ct_problem.proofs.Base.{append_cancel_right, Token, false≢true, is_line_end, slice, Symbol, Input, next, tail, has_line_end, fresh_line}
use Rattle.ct_problem.proofs.Base.{fresh_by, Lexeme, Word, Number, Sign, Dots, LineEnd, lexeme_of, lexemes}
use Rattle.ct_token.specs.declared.token.Symbol.TheVariants as symbol
use Rattle.ct_problem.proofs.LexemeSteps.{shown}

-- tokens are left
abbrev pub Goes_on : Input → Type 0
Goes_on j = j.left ≡ [] → ⊥

pub record Settled (j : Input) : Type 0 where
  pub whole : Goes_on j → has_line_end j.left ≡ false → j.bad ≡ None

pub record Follows (i j : Input) : Type 0 where
  pub same_text : j.text ≡ i.text
  pub same_bad : j.bad ≡ i.bad
  pub front : List Token
  pub parts : i.left ≡ front ++ j.left
  pub settles : Settled i → Settled j

pub Follows-same : (i : Input) → Follows i i
Follows-same i = record { same_text = refl; same_bad = refl; front = []; parts = refl; settles = λ s. s }

pub Follows-then : (i j k : Input) → Follows i j → Follows j k → Follows i k
Follows-then i j k f g = record {
  same_text = g.same_text ∙ f.same_text;
  same_bad = g.same_bad ∙ f.same_bad;
  front = f.front ++ g.front;
  parts = f.parts ∙ ap (λ ts. f.front ++ ts) g.parts ∙ sym (append_assoc f.front g.front k.left);
  settles = λ s. g.settles (f.settles s);
}

-- where tokens are left later, they were before
pub goes_on_before : (i j : Input) → Follows i j → Goes_on j → Goes_on i
goes_on_before i j f left none = left (by f.front (sym f.parts ∙ none))
  where
    by : (front : List Token) → front ++ j.left ≡ [] → j.left ≡ []
    by [] e = e
    by (t ∷ ts) e = cc

-- the same value and the same cursor
pub Ok-same : {A : Type 0} {x y : A} {i j : Input} → ◌≡◌ {A = Outcome A} (Ok (x, i)) (Ok (y, j)) → (x ≡ y) × (i ≡ j)
Ok-same {A} {x} {y} {i} {j} e =
    let pairs : ◌≡◌ {A = A × Input} (x, i) (y, j) = cc in (ap (λ (r : A × Input). r.0) pairs, ap (λ (r : A × Input). r.1) pairs)

-- ---- steps

pub Follows-next : (i : Input) → (Settled i → Settled (next i)) → Follows i (next i)
Follows-next i settles = by i.left settles
  where
    by : (left : List Token) → (Settled (record i { left = left }) → Settled (record i { left = tail left })) →
        Follows (record i { left = left }) (record i { left = tail left })
    by [] s = record { same_text = refl; same_bad = refl; front = []; parts = refl; settles = s }
    by (t ∷ ts) s = record { same_text = refl; same_bad = refl; front = t ∷ []; parts = refl; settles = s }

abbrev pub ends_line : Lexeme → Bool
ends_line LineEnd = true
ends_line (Word w) = false
ends_line (Number n) = false
ends_line (Sign s) = false
ends_line Dots = false

symbol_ends : (s : Symbol) (bytes : List ℕ) → is_line_end s ≡ ends_line (lexeme_of s bytes)
symbol_ends symbol.Word bytes = refl
symbol_ends symbol.Number bytes = refl
symbol_ends (symbol.Sign s) bytes = refl
symbol_ends symbol.Dots bytes = refl
symbol_ends symbol.LineEnd bytes = refl

pub passed : (i : Input) (l : Lexeme) (rest : List Lexeme) → shown i ≡ l ∷ rest → ends_line l ≡ false → Settled i → Settled (next i)
unfolding has_line_end
passed i l rest head plain s = record { whole = by i.left head s.whole }
  where
    by : (left : List Token) → lexemes i.text left ≡ l ∷ rest → ((left ≡ [] → ⊥) → has_line_end left ≡ false → i.bad ≡ None) → (tail left ≡ [] → ⊥) →
        has_line_end (tail left) ≡ false → i.bad ≡ None
    by [] e whole some none = cc
    by (t ∷ ts) e whole some none =
        let first : lexeme_of t.symbol (slice t.from t.to i.text) ≡ l = cc in
        let other : is_line_end t.symbol ≡ false = symbol_ends t.symbol (slice t.from t.to i.text) ∙ ap ends_line first ∙ plain in
        whole (λ empty. cc) (rw other none)

-- past a lexeme that doesn't end a line
pub Follows-past : (i : Input) (l : Lexeme) (rest : List Lexeme) → shown i ≡ l ∷ rest → ends_line l ≡ false → Follows i (next i)
Follows-past i l rest head plain = Follows-next i (passed i l rest head plain)

fresh_of : (i j : Input) (x : Unit {0}) (b : Bool) (o : Option ℕ) → has_line_end i.left ≡ b → i.bad ≡ o → fresh_by b o i ≡ Ok (x, j) →
    (i ≡ j) × (has_line_end i.left ≡ false → i.bad ≡ None)
fresh_of i j x true o e f h = ((Ok-same h).1, λ none. absurd (false≢true (sym none ∙ e)))
fresh_of i j x false None e f h = ((Ok-same h).1, λ none. f)
fresh_of i j x false (Some at) e f h = cc

-- a step to a line takes nothing
pub fresh_line-settles : (i j : Input) (x : Unit {0}) → fresh_line i ≡ Ok (x, j) → (i ≡ j) × (has_line_end i.left ≡ false → i.bad ≡ None)
unfolding fresh_line
fresh_line-settles i j x h = fresh_of i j x (has_line_end i.left) i.bad refl refl h

-- ---- lexemes

pub lexemes-append : (text : List ℕ) (front back : List Token) → lexemes text (front ++ back) ≡ lexemes text front ++ lexemes text back
lexemes-append text [] back = refl
lexemes-append text (t ∷ front) back = rw (lexemes-append text front back) refl

pub used-taken : (i j : Input) (used : List Lexeme) (f : Follows i j) → shown i ≡ used ++ shown j → used ≡ lexemes i.text f.front
used-taken i j used f e =
    let left : shown j ≡ lexemes i.text j.left = ap (λ text. lexemes text j.left) f.same_text in
    let whole : lexemes i.text f.front ++ lexemes i.text j.left ≡ used ++ lexemes i.text j.left =
    sym (lexemes-append i.text f.front j.left) ∙ ap (lexemes i.text) (sym f.parts) ∙ e ∙ ap (λ ls. used ++ ls) left in
    sym (append_cancel_right (lexemes i.text f.front) used (lexemes i.text j.left) whole)
