-- What a rule reads from, and the steps that every rule is made of.
--     Input                     a text, its tokens that are left, and where the first byte stands behind them that begins none
--     fault_of kind i           a fault of this kind at the next token; at the end of the text its kind is Unfinished
--     Parser A                  a rule: what it reads and what is left then, or the fault that it meets
--     p >>= f, p >> q, f <$> p  one rule after the other: the first fault decides
--     pure a, look f            the rule that reads nothing; the one that reads nothing and says what comes
--     fault kind, syntax        the rules that meet a fault at the next token
--     skip                      the step past a token
--     eat, expect               the same for a token that may come next, or has to
--     fresh_line                the step to a line: it meets a fault at a byte of the line that begins no token and no gap
--     line_end, dots            the rules of these tokens; the last line may lack its end
--     Reads c r new             what a function that reads may answer to a rule's outcome c: what was read, with the cursor
--                               where the rule left it, or the rule's fault, or out of memory
--     ReadsBy f c r new         the same of a result that is seen through f
--     bad_of e                  the fault of a text that a fault of the code is, or none where memory ran out
use Rattle.std.specs.Prelude.{◌≡◌, ℕ, ◌-◌, Bool, false, ◌||◌, if◌then◌else◌, ◌==◌, List, [], ◌∷◌, length, take, drop, min, Option, Some, None, Result, Ok, Err}
use Rattle.std.specs.Str.{bytes_eq}
use Rattle.ct_checked.specs.Checked as checked
use Rattle.ct_checked.specs.Checked.{AnswersAs}
use Rattle.ct_token.specs.declared.token.Symbol.{Symbol}
use Rattle.ct_token.specs.declared.token.Symbol.TheVariants.{Word, Sign, Dots, LineEnd}
use Rattle.ct_token.specs.declared.token.Token.{Token}
use Rattle.ct_token.specs.Lexical.{is_line_end}
use Rattle.ct_problem.specs.declared.fault.BadInput.{BadInput}
use Rattle.ct_problem.specs.declared.fault.BadKind.{BadKind}
use Rattle.ct_problem.specs.declared.fault.BadKind.TheVariants.{BadByte, Unfinished, Syntax}
use Rattle.ct_problem.specs.declared.fault.ReadFault.{ReadFault}
use Rattle.ct_problem.specs.declared.fault.ReadFault.TheVariants.{Bad, NoMemory}

pub record Input : Type 0 where
  pub text : List ℕ
  pub left : List Token
  pub bad : Option ℕ

-- ---- the next token

abbrev pub symbol_of : List Token → Option Symbol
symbol_of [] = None
symbol_of (t ∷ ts) = Some t.symbol

abbrev pub symbol : Input → Option Symbol
symbol i = symbol_of i.left

abbrev pub tail : List Token → List Token
tail [] = []
tail (t ∷ ts) = ts

abbrev pub next : Input → Input
next i = record i { left = tail i.left }

unfoldable pub slice_of : ℕ → ℕ → List ℕ → List ℕ
slice_of from to text = let rest = drop (min from (length text)) text in take (min (to - from) (length rest)) rest

abbrev pub spelling_in : List ℕ → List Token → List ℕ
spelling_in text [] = []
spelling_in text (t ∷ ts) = slice_of t.from t.to text

abbrev pub spelling : Input → List ℕ
spelling i = spelling_in i.text i.left

-- where it begins; at the end, how long the text is
abbrev pub place_in : List ℕ → List Token → ℕ
place_in text [] = length text
place_in text (t ∷ ts) = t.from

abbrev pub place : Input → ℕ
place i = place_in i.text i.left

abbrev pub is_sign : ℕ → Option Symbol → Bool
is_sign sign (Some (Sign found)) = found == sign
is_sign sign _ = false

unfoldable pub sees : ℕ → Input → Bool
sees sign i = is_sign sign (symbol i)

abbrev pub is_word : Option Symbol → List ℕ → List ℕ → Bool
is_word (Some Word) spelled word = bytes_eq spelled word
is_word _ spelled word = false

unfoldable pub sees_word : List ℕ → Input → Bool
sees_word word i = is_word (symbol i) (spelling i) word

-- ---- faults

abbrev pub kind_at : List Token → BadKind → BadKind
kind_at [] kind = Unfinished
kind_at (t ∷ ts) kind = kind

unfoldable pub fault_of : BadKind → Input → BadInput
fault_of kind i = record { kind = kind_at i.left kind; offset = place i }

-- ---- rules

abbrev pub Outcome : Type 0 → Type 0
Outcome A = Result (A × Input) BadInput

abbrev pub Parser : Type 0 → Type 0
Parser A = Input → Outcome A

abbrev pub and_then : {A B : Type 0} → Outcome A → (A → Parser B) → Outcome B
and_then outcome f = checked.◌>>=◌ outcome (λ p. f p.0 p.1)

infixl 10 ◌>>=◌
abbrev pub ◌>>=◌ : {A B : Type 0} → Parser A → (A → Parser B) → Parser B
p >>= f = λ i. and_then (p i) f

infixl 10 ◌>>◌
abbrev pub ◌>>◌ : {A B : Type 0} → Parser A → Parser B → Parser B
p >> q = p >>= (λ _. q)

abbrev pub pure : {A : Type 0} → A → Parser A
pure a = λ i. Ok (a, i)

infixr 11 ◌<$>◌
abbrev pub ◌<$>◌ : {A B : Type 0} → (A → B) → Parser A → Parser B
f <$> p = p >>= (λ x. pure (f x))

abbrev pub look : {A : Type 0} → (Input → A) → Parser A
look f = λ i. Ok (f i, i)

-- a fault at a place of its own
abbrev pub fault_at : {A : Type 0} → BadKind → ℕ → Parser A
fault_at kind at = λ i. Err (record { kind = kind; offset = at })

abbrev pub fault : {A : Type 0} → BadKind → Parser A
fault kind = λ i. Err (fault_of kind i)

abbrev pub syntax : {A : Type 0} → Parser A
syntax = fault Syntax

-- ---- the steps

abbrev pub peek : Parser (Option Symbol)
peek = look symbol

abbrev pub skip : Parser (Unit {0})
skip = λ i. Ok (tt, next i)

-- past the next token, where it passed a test
abbrev pub past : Bool → Input → Input
past found i = if found then next i else i

unfoldable pub eat : ℕ → Parser Bool
eat sign = λ i. Ok (sees sign i, past (sees sign i) i)

unfoldable pub eat_word : List ℕ → Parser Bool
eat_word word = λ i. Ok (sees_word word i, past (sees_word word i) i)

-- where a test has to be passed
abbrev pub required : Bool → Parser (Unit {0})
required found = if found then pure tt else syntax

unfoldable pub expect : ℕ → Parser (Unit {0})
expect sign = eat sign >>= required

unfoldable pub expect_word : List ℕ → Parser (Unit {0})
expect_word word = eat_word word >>= required

-- ---- lines

-- a line ends before the tokens do
unfoldable pub has_line_end : List Token → Bool
has_line_end [] = false
has_line_end (t ∷ ts) = is_line_end t.symbol || has_line_end ts

abbrev pub fresh_by : Bool → Option ℕ → Parser (Unit {0})
fresh_by false (Some at) = fault_at BadByte at
fresh_by _ _ = pure tt

unfoldable pub fresh_line : Parser (Unit {0})
fresh_line = λ i. fresh_by (has_line_end i.left) i.bad i

abbrev pub line_end_by : Option Symbol → Parser (Unit {0})
line_end_by (Some LineEnd) = skip >> fresh_line
line_end_by None = pure tt
line_end_by _ = syntax

unfoldable pub line_end : Parser (Unit {0})
line_end = λ i. line_end_by (symbol i) i

abbrev pub dots_by : Option Symbol → Parser (Unit {0})
dots_by (Some Dots) = skip
dots_by _ = syntax

-- `..`
unfoldable pub dots : Parser (Unit {0})
dots = λ i. dots_by (symbol i) i

-- ---- what a function that reads ensures

abbrev pub bad_of : ReadFault → Option BadInput
bad_of (Bad e) = Some e
bad_of NoMemory = None

abbrev pub ReadsBy : {A B : Type 0} → (B → A) → Outcome A → Result B ReadFault → Input → Type 0
ReadsBy f outcome r new = AnswersAs bad_of (λ b. (f b, new)) outcome r

abbrev pub Reads : {A : Type 0} → Outcome A → Result A ReadFault → Input → Type 0
Reads outcome r new = ReadsBy (λ a. a) outcome r new
