-- What is known of a text that is declared: it is a word, since tokens are spelled as their symbols say, and differs from the
-- texts before it. Main lemmas `words_are` and `is_new_gives`.
use Rattle.ct_problem.proofs.Base.{◌≡◌, ◌≢◌, ℕ, suc, ◌+◌, ◌<◌, ◌||◌, not, Bool, true, false, cond, List, [], ◌∷◌, ◌++◌, length, Option, Some, None}
use Rattle.ct_problem.proofs.Base.{IsTrue, nat_lt, refl, sym, ◌∙◌, subst, arith, rules, tests, codes, position, prefix_len, list_all, is_none}
use Rattle.ct_problem.proofs.Base.{bytes_eq, false≢true, bytes_eq-Decides, Symbol, Token, slice, Naming, are_word_bytes, IsOtherText, Lexeme, Texts}
use Rattle.ct_problem.proofs.Base.{◌▸◌, lexeme_of, lexemes, Names, is_named, is_new, is_unknown, is_letter_of_symbol, known, known_by, Each}
use Rattle.ct_token.specs.declared.token.Symbol.TheVariants.{Word, Number, Sign, Dots, LineEnd}
use Rattle.ct_token.specs.Lexical as lexical
use Rattle.ct_token.specs.Lexing as lexing
use Rattle.ct_ore.specs.Naming.{IsWord}
use Rattle.ct_problem.specs.Lexemes as lexeme
use Rattle.ct_problem.proofs.Cursors.{both_pass}

-- ---- words

word_bytes : (bs : List ℕ) → IsTrue (list_all lexical.is_word_byte bs) → IsTrue (are_word_bytes bs)
word_bytes [] h = h
word_bytes (b ∷ bs) h = let parts = both_pass (lexical.is_word_byte b) (list_all lexical.is_word_byte bs) h in rw (parts.0) (word_bytes bs parts.1)

word_of : (bs : List ℕ) → lexing.IsWord bs → IsWord bs
word_of [] h = h
word_of (b ∷ bs) h = rw (h.0) (word_bytes bs h.1)

-- what a lexeme knows of its letters
abbrev pub IsSpelled : Lexeme → Type 0
IsSpelled (lexeme.Word w) = IsWord w
IsSpelled (lexeme.Number n) = Unit {0}
IsSpelled (lexeme.Sign s) = Unit {0}
IsSpelled lexeme.Dots = Unit {0}
IsSpelled lexeme.LineEnd = Unit {0}

-- the first of some tokens
pub words_are : (text : List ℕ) (at : ℕ) (front back : List Token) → lexing.AreTokens text at (front ++ back) → Each IsSpelled (lexemes text front)
words_are text at [] back tokens = tt
words_are text at (t ∷ front) back tokens = (by t.symbol (slice t.from t.to text) tokens.0.spelled, words_are text t.to front back tokens.1)
  where
    by : (s : Symbol) (bytes : List ℕ) → lexing.Spells s bytes → IsSpelled (lexeme_of s bytes)
    by Word bytes spelled = word_of bytes spelled
    by Number bytes spelled = tt
    by (Sign s) bytes spelled = tt
    by Dots bytes spelled = tt
    by LineEnd bytes spelled = tt

both_parts : (xs ys : List Lexeme) → Each IsSpelled (xs ++ ys) → Each IsSpelled xs × Each IsSpelled ys
both_parts [] ys h = (tt, h)
both_parts (x ∷ xs) ys h = let rest = both_parts xs ys h.1 in ((h.0, rest.0), rest.1)

module _ {a b : Texts} {ls : List Lexeme} (h : (a ▸ b) ls) (words : Each IsSpelled ls) where
  pub words_before : Each IsSpelled h.front
  words_before = (both_parts h.front h.back (subst (Each IsSpelled) h.parts words)).0

  pub words_behind : Each IsSpelled h.back
  words_behind = (both_parts h.front h.back (subst (Each IsSpelled) h.parts words)).1

-- ---- new texts

pub unequal : (xs ys : List ℕ) → bytes_eq xs ys ≡ false → xs ≢ ys
unequal xs ys e same = let yes = (bytes_eq-Decides xs ys).1 same in false≢true (sym e ∙ yes)

-- no element passes a test that finds none
first_not : (test : Naming → Bool) (n : Naming) (ns : List Naming) → is_none (position test (n ∷ ns)) ≡ true →
    (test n ≡ false) × (is_none (position test ns) ≡ true)
first_not test n ns e = by (test n) refl (nat_lt (prefix_len (λ m. not (test m)) ns) (length ns)) refl e
  where
    by : (here : Bool) → test n ≡ here → (rest : Bool) → nat_lt (prefix_len (λ m. not (test m)) ns) (length ns) ≡ rest
        → is_none (let o : Option ℕ = cond (nat_lt (cond (not here) (1 + prefix_len (λ m. not (test m)) ns) 0) (suc (length ns))) (Some (cond (not here) (1 + prefix_len (λ m. not (test m)) ns) 0)) None in o) ≡ true
        → (test n ≡ false) × (is_none (position test ns) ≡ true)
    by true e1 rest e2 none =
        let below : nat_lt 0 (suc (length ns)) ≡ true = first_of (search (rules, tests), grind (arith, tests)) in
        absurd (false≢true (rw below at none))
    by false e1 false e2 none = (e1, rw e2 refl)
    by false e1 true e2 none =
        let below : prefix_len (λ m. not (test m)) ns < length ns = first_of (search (rules, tests), grind (arith, tests)) in
        let more : nat_lt (1 + prefix_len (λ m. not (test m)) ns) (suc (length ns)) ≡ true = first_of (search (rules, tests), grind (arith, tests)) in
        absurd (false≢true (rw more at none))

other_text : (text : List ℕ) (found : List Naming) → is_none (position (is_named text) found) ≡ true → IsOtherText text found
other_text text [] none = tt
other_text text (n ∷ ns) none =
    let parts = first_not (is_named text) n ns none in
    (λ same. unequal text n.text parts.0 (sym same), other_text text ns parts.1)

-- what is known of a new text
pub record IsNew (found : List Naming) (text : List ℕ) : Type 0 where
  pub word : IsWord text
  pub no_shift : text ≢ codes "S"
  pub no_derivation : text ≢ codes "D"
  pub other : IsOtherText text found

neither : (b c : Bool) → IsTrue (not (b || c)) → (b ≡ false) × (c ≡ false)
neither true c h = absurd (false≢true h)
neither false true h = absurd (false≢true h)
neither false false h = (refl, refl)

no_variable : (o p : Option ℕ) → IsTrue (is_unknown (known_by o p)) → is_none o ≡ true
no_variable None p h = refl
no_variable (Some at) p h = absurd (false≢true h)

pub is_new_gives : (text : List ℕ) (names : Names) → IsWord text → IsTrue (is_new text names) → IsNew names.variables text
unfolding is_new known
is_new_gives text names word e =
    let parts = both_pass (not (is_letter_of_symbol text)) (is_unknown (known text names)) e in
    let unlike = neither (bytes_eq text (codes "S")) (bytes_eq text (codes "D")) parts.0 in
    record {
      word = word;
      no_shift = unequal text (codes "S") unlike.0;
      no_derivation = unequal text (codes "D") unlike.1;
      other = other_text text names.variables (no_variable (position (is_named text) names.variables) (position (bytes_eq text) names.lets) parts.1);
    }

pub not_false : (b : Bool) → not b ≡ false → b ≡ true
not_false true h = refl
not_false false h = absurd (false≢true (sym h))
