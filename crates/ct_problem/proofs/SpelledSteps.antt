-- What is read as the end of a line, as `..` or as a number is spelled so.
--     line_end-gives      the end of a line, or of the text
--     Coming i j n        a number of this value comes next, and stays
--     Spells-coming       a rule that asks something of such a number
use Rattle.ct_problem.proofs.Base.{◌≡◌, ℕ, ◌≤◌, ◌==◌, Bool, true, false, cond, List, [], ◌∷◌, Option, Some, None, Ok, Err, refl, sym, ap, ◌∙◌, subst}
use Rattle.ct_problem.proofs.Base.{arith, rules, tests, nat_lt, ltb-false, Symbol, Token, largest_norm, BadKind, NumberTooLarge, Input, Outcome}
use Rattle.ct_problem.proofs.Base.{Parser, ◌>>=◌, ◌>>◌, and_then, pure, syntax, skip, next, line_end, line_end_by, has_line_end, dots, dots_by}
use Rattle.ct_problem.proofs.Base.{spelling, fault_if, coming_number, Number, Dots, LineEnd, one, decimal}
use Rattle.ct_token.specs.declared.token.Symbol.TheVariants as symbol
use Rattle.ct_problem.specs.Input as input
use Rattle.ct_problem.specs.Number as digits
use Rattle.ct_problem.proofs.LexemeSteps.{shown, after_first, shown-symbol, value_of-decimal}
use Rattle.ct_problem.proofs.Spelling.{Spelled, Spells, Spelled-mapped, moved, taken, taken_so}
use Rattle.ct_problem.proofs.Following.{fresh_line-settles, Ok-same}

-- ---- the ends of lines

pub data LineEnded (i j : Input) : Type 0 where
  ended : Spelled (one LineEnd) i j → (has_line_end j.left ≡ false → j.bad ≡ None) → LineEnded i j
  at_end : i ≡ j → i.left ≡ [] → LineEnded i j

none_left : (left : List Token) → input.symbol_of left ≡ None → left ≡ []
none_left [] e = refl
none_left (t ∷ ts) e = cc

line_end_of : (i j : Input) (x : Unit {0}) → (o : Option Symbol) → input.symbol i ≡ o → line_end_by o i ≡ Ok (x, j) → LineEnded i j
line_end_of i j x (Some symbol.LineEnd) e h =
    let fresh = fresh_line-settles (next i) j x h in
    LineEnded.ended
    (subst (λ (k : Input). Spelled (one LineEnd) i k) fresh.0
    (taken_so LineEnd i (shown-symbol i symbol.LineEnd e) (λ s. record { whole = λ _. fresh.1 })))
    (subst (λ (k : Input). has_line_end k.left ≡ false → k.bad ≡ None) fresh.0 fresh.1)
line_end_of i j x (Some symbol.Word) e h = cc
line_end_of i j x (Some symbol.Number) e h = cc
line_end_of i j x (Some (symbol.Sign s)) e h = cc
line_end_of i j x (Some symbol.Dots) e h = cc
line_end_of i j x None e h = LineEnded.at_end (Ok-same h).1 (none_left i.left e)

pub line_end-gives : (i j : Input) (x : Unit {0}) → line_end i ≡ Ok (x, j) → LineEnded i j
unfolding line_end
line_end-gives i j x e = line_end_of i j x (input.symbol i) refl e

-- ---- `..`

dots_of : (i j : Input) (x : Unit {0}) → (o : Option Symbol) → input.symbol i ≡ o → dots_by o i ≡ Ok (x, j) → Spelled (one Dots) i j
dots_of i j x (Some symbol.Dots) e h = moved (λ (_ : Unit {0}). one Dots) i tt x (next i) j h (taken Dots i refl (shown-symbol i symbol.Dots e))
dots_of i j x (Some symbol.Word) e h = cc
dots_of i j x (Some symbol.Number) e h = cc
dots_of i j x (Some (symbol.Sign s)) e h = cc
dots_of i j x (Some symbol.LineEnd) e h = cc
dots_of i j x None e h = cc

pub Spells-dots : Spells dots (λ _. one Dots)
unfolding dots
Spells-dots i j x e = dots_of i j x (input.symbol i) refl e

-- ---- numbers

-- digits of this value come next
record Digits (i j : Input) (n : ℕ) : Type 0 where
  stays : i ≡ j
  is_number : input.symbol i ≡ Some symbol.Number
  value : digits.value_of (spelling i) ≡ n

digits_of : (i j : Input) (n : ℕ) → (o : Option Symbol) → input.symbol i ≡ o → digits.digits_by o i ≡ Ok (n, j) → Digits i j n
digits_of i j n (Some symbol.Number) e h =
    let both = Ok-same h in record { stays = both.1; is_number = e; value = both.0 }
digits_of i j n (Some symbol.Word) e h = cc
digits_of i j n (Some (symbol.Sign s)) e h = cc
digits_of i j n (Some symbol.Dots) e h = cc
digits_of i j n (Some symbol.LineEnd) e h = cc
digits_of i j n None e h = cc

digits-gives : (i j : Input) (n : ℕ) → digits.digits i ≡ Ok (n, j) → Digits i j n
unfolding digits.digits
digits-gives i j n h = digits_of i j n (input.symbol i) refl h

-- past the digits that come next
past_digits : (i : Input) (n : ℕ) → Digits i i n → n ≤ largest_norm → Spelled (one (Number n)) i (next i)
past_digits i n d small =
    let shows = shown-symbol i symbol.Number d.is_number in
    let low : largest_norm ≤ largest_norm = omega arith in
    let within : digits.value_of (spelling i) ≤ largest_norm = rw (d.value) small in
    let exact : decimal (spelling i) ≡ n = value_of-decimal largest_norm (spelling i) low within ∙ d.value in
    taken (Number n) i refl (shows ∙ ap (λ (m : ℕ). Number m ∷ after_first (shown i)) exact)

pub record Coming (i : Input) (n : ℕ) : Type 0 where
  pub is_number : input.symbol i ≡ Some symbol.Number
  pub value : digits.value_of (spelling i) ≡ n
  pub small : n ≤ largest_norm

-- what the first of two rules read, and what the second did then
pub record First {A B : Type 0} (p : Parser A) (f : A → Parser B) (i j : Input) (y : B) : Type 0 where
  pub value : A
  pub left : Input
  pub first : p i ≡ Ok (value, left)
  pub second : f value left ≡ Ok (y, j)

pub first_read : {A B : Type 0} (p : Parser A) (f : A → Parser B) (i j : Input) (y : B) → (p >>= f) i ≡ Ok (y, j) → First p f i j y
first_read {A} p f i j y e = by (p i) refl e
  where
    by : (o : Outcome A) → p i ≡ o → and_then o f ≡ Ok (y, j) → First p f i j y
    by (Err fault) read e = cc
    by (Ok r) read e = record { value = r.0; left = r.1; first = read; second = e }

-- a test that failed
pub test_failed : {A : Type 0} (b : Bool) (kind : BadKind) (p : Parser A) (i j : Input) (x : A) → (fault_if b kind >> p) i ≡ Ok (x, j) →
    (b ≡ false) × (p i ≡ Ok (x, j))
test_failed true kind p i j x e = cc
test_failed false kind p i j x e = (refl, e)

coming-gives : (i k : Input) (n : ℕ) → coming_number i ≡ Ok (n, k) → (i ≡ k) × Coming i n
unfolding coming_number
coming-gives i k n e =
    let r = first_read digits.digits (λ m. fault_if (nat_lt largest_norm m) NumberTooLarge >> pure m) i k n e in
    let d = digits-gives i r.left r.value r.first in
    let t = test_failed (nat_lt largest_norm r.value) NumberTooLarge (pure r.value) r.left k n r.second in
    let both = Ok-same t.1 in
    let same : r.value ≡ n = both.0 in
    let small : r.value ≤ largest_norm = ltb-false largest_norm r.value t.0 in (
      d.stays ∙ both.1,
      record { is_number = d.is_number; value = d.value ∙ same; small = subst (λ (m : ℕ). m ≤ largest_norm) same small },
    )

pub Spells-coming : (P : ℕ → Type 0) (f : ℕ → Parser ℕ) →
    ((n : ℕ) (i j : Input) (x : ℕ) → n ≤ largest_norm → f n i ≡ Ok (x, j) → P n × ((n ≡ x) × (next i ≡ j)))
    → Spells (coming_number >>= f) (λ n ls. P n × one (Number n) ls)
Spells-coming P f is i j x e =
    let r = first_read coming_number f i j x e in
    let c = coming-gives i r.left r.value r.first in
    let a = is r.value i j x c.1.small (subst (λ (k : Input). f r.value k ≡ Ok (x, j)) (sym c.0) r.second) in
    let digits = past_digits i r.value (record { stays = refl; is_number = c.1.is_number; value = c.1.value }) c.1.small in
    subst (λ (k : Input). Spelled (λ ls. P x × one (Number x) ls) i k) a.1.1
    (subst (λ (m : ℕ). Spelled (λ ls. P m × one (Number m) ls) i (next i)) a.1.0
    (Spelled-mapped (λ ls u. (a.0, u)) digits))

pub Spells-exactly : (n : ℕ) → n ≤ largest_norm → Spells (digits.exactly n) (λ _. one (Number n))
unfolding digits.exactly
Spells-exactly n small i j x e =
    let r = first_read digits.digits (λ m. cond (m == n) skip syntax) i j x e in
    let d = digits-gives i r.left r.value r.first in
    by r.value (r.value == n) refl (subst (λ (k : Input). Digits i k r.value) (sym d.stays) d)
    (subst (λ (k : Input). cond (r.value == n) skip syntax k ≡ Ok (x, j)) (sym d.stays) r.second)
  where
    by : (m : ℕ) (same : Bool) → m == n ≡ same → Digits i i m → cond {A = Parser (Unit {0})} same skip syntax i ≡ Ok (x, j) →
        Spelled (one (Number n)) i j
    by m true e d h =
        let equal : m ≡ n = first_of (search (rules, tests), grind (arith, tests)) in
        moved (λ (_ : Unit {0}). one (Number n)) i tt x (next i) j h (past_digits i n (subst (λ (k : ℕ). Digits i i k) equal d) small)
    by m false e d h = cc
