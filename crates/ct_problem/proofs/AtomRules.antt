-- The rules of atoms. Main lemma `atom_rule`.
--     Enclosed bad inner L     a rule of what stands in parentheses, with them, where the opening one comes next
use Rattle.ct_problem.proofs.Base.{◌≡◌, ◌≢◌, ℕ, ◌==◌, ◌≤◌, Bool, true, false, cond, List, ◌∷◌, ◌++◌, ◌⊎◌, inl, inr, Option, Some, None, Ok, IsTrue}
use Rattle.ct_problem.proofs.Base.{pos, refl, sym, ap, ◌∙◌, arith, rules, tests, codes, bytes_eq, slice_get, false≢true, bytes_eq-Decides, Symbol}
use Rattle.ct_problem.proofs.Base.{Action, Shift, Derive, largest_norm, Expr, WrongKind, ZeroDenominator, Known, Variable, Let, Unknown, Input}
use Rattle.ct_problem.proofs.Base.{Outcome, Parser, ◌>>=◌, ◌>>◌, pure, fault, syntax, skip, next, expect, sees_word, spelling, Names, known, acts_as}
use Rattle.ct_problem.proofs.Base.{fault_if, name_by, name, acting_by, acting_word, acting, symbol_by, letter, word_by, word, whole, divisor}
use Rattle.ct_problem.proofs.Base.{constant, atom_by, atom, Lexeme, Word, Number, Sign, Texts, one, number, ◌▸◌, IsAtom, IsActing, IsVariable}
use Rattle.ct_problem.proofs.Frame.{Ok-same, joined_nothing, joined_to_left, joined_to_right, on_second, replaced, replaced_both, to_nothing, shown}
use Rattle.ct_problem.proofs.Frame.{shows_sign, shows_word, sees_word-shown, shown-symbol, shows_a_word, shows_a_number, shows_a_sign, spelling-shown}
use Rattle.ct_problem.proofs.Frame.{test_failed, unequal_words, taken, moved, Spelled-mapped, shows_word-gives, Taken, Taken-next, Taken-same, Takes}
use Rattle.ct_problem.proofs.Frame.{anywhere, Takes-next, Takes-skip}
use Rattle.ct_token.specs.declared.token.Symbol.TheVariants as symbol
use Rattle.ct_expr.specs.declared.expr.Expr.TheVariants as e
use Rattle.ct_problem.specs.Grammar as grammar
use Rattle.ct_problem.specs.Input as input
use Rattle.ct_problem.proofs.KnownNames.{known-variable, variable-known}
use Rattle.ct_problem.proofs.LexemeStarts.{AfterAtom}
use Rattle.ct_problem.proofs.Rules.{before, any, Rule, Read, Read-joined, Read-mapped, at_once, coming_rule, passes, reads, ends_by, Split, Made}
use Rattle.ct_problem.proofs.Rules.{Image, makes, binds, result}
use Rattle.ct_problem.proofs.RuleChoices.{sign_rule, Meant, meant_rule, sign_test, or_else}

pub record Enclosed (bad : Option ℕ) (inner : Parser Expr) (L : Expr → Texts) : Type 0 where
  pub sound : (i j : Input) (x : Expr) → input.symbol i ≡ Some (symbol.Sign 40) → inner i ≡ Ok (x, j) → Read (L x) i j
  pub whole : (x : Expr) → Takes bad inner x (L x) anywhere
  pub opens : (x : Expr) (ls : List Lexeme) → L x ls → (back : List Lexeme) × (ls ≡ Sign 40 ∷ back)

-- a word that is none of this text
other_word : (w : List ℕ) (i : Input) → input.symbol i ≡ Some symbol.Word → sees_word w i ≡ false → spelling i ≢ w
other_word w i here e same =
    let shows : shows_word w (shown i) ≡ bytes_eq (spelling i) w = ap (shows_word w) (shown-symbol i symbol.Word here) in
    false≢true (sym e ∙ sees_word-shown w i ∙ shows ∙ (bytes_eq-Decides (spelling i) w).1 same)

-- ---- numbers

some : (n : ℕ) → n == 0 ≡ false → n ≢ 0
some n none zero = first_of (search (rules, tests), grind (arith, tests))

no_zero : (n : ℕ) → n ≢ 0 → n == 0 ≡ false
no_zero n some = first_of (search (rules, tests), grind (arith, tests))

-- the number behind `/`
abbrev Divides : ℕ → Type 0
Divides d = (d ≢ 0) × (d ≤ largest_norm)

abbrev Divisor : ℕ → Texts
Divisor d ls = Divides d × one (Number d) ls

-- what stands behind a number
abbrev Behind : ℕ → Expr → Texts
Behind n x ls = (one (Sign 47) ▸ Image (λ d. e.Ratio (pos n) (pos d)) Divisor x) ls ⊎ Made (e.Whole (pos n)) x ls

module _ (bad : Option ℕ) where
  whole_rule : Rule bad any whole (number largest_norm) anywhere
  unfolding whole
  whole_rule =
      coming_rule (λ n. n ≤ largest_norm) (λ n. skip >> pure n) (λ n small. small) (λ n i j x small h. (small, Ok-same h)) (λ n i small. refl)

  divisor_rule : Rule bad any divisor Divisor anywhere
  unfolding divisor
  divisor_rule =
      coming_rule Divides (λ n. fault_if (n == 0) ZeroDenominator >> (skip >> pure n)) (λ n d. d.1) (λ n i j x small h.
      let t = test_failed (n == 0) ZeroDenominator (skip >> pure n) i j x h in
      ((some n t.0, small), Ok-same t.1))
      (λ n i d. ap (λ (b : Bool). (fault_if b ZeroDenominator >> (skip >> pure n)) i) (no_zero n d.0))

  constant_rule : Rule bad any constant (Split (number largest_norm) Behind) AfterAtom
  unfolding constant
  constant_rule =
      binds whole_rule (λ n. or_else (λ is_ratio. cond is_ratio (divisor >>= (λ d. pure (e.Ratio (pos n) (pos d)))) (pure (e.Whole (pos n))))
      (sign_test 47) (before (λ rest a. tt) (makes (λ d. e.Ratio (pos n) (pos d)) divisor_rule)) (result (e.Whole (pos n)))
      (λ x used rest m a. ap (λ ls. shows_sign 47 (ls ++ rest)) m.1 ∙ a)) (λ n x back rest h a. tt)

  module _ (names : Names) where
    -- ---- symbols

    -- the symbol of the name of these letters
    record Acts (action : Action) (letters : List ℕ) (x : Expr) : Type 0 where
      at : ℕ
      acting : IsActing names action letters at
      value : x ≡ e.Symbol at

    acting_rule : (action : Action) → Rule bad any (acting names action) (Meant (Acts action)) anywhere
    unfolding acting
    acting_rule action =
        meant_rule (Acts action) (acting_word names action) (λ letters. acting_by names action (known letters names)) (λ i. refl) refl (λ s. refl)
        refl refl refl (λ letters i j x h. is letters i j x (known letters names) refl h) does
      where
        acts_if : (letters : List ℕ) (i j : Input) (x : Expr) (at : ℕ) → known letters names ≡ Variable at → (acts : Bool) →
            acts_as action (slice_get names.variables at) ≡ acts
            → cond {A = Parser Expr} acts (skip >> pure (e.Symbol at)) (fault WrongKind) i ≡ Ok (x, j) → Acts action letters x × (next i ≡ j)
        acts_if letters i j x at found true acts h =
            let both = Ok-same h in
            let acting : IsActing names action letters at = record { first = variable-known letters at names found; acts = acts } in
            (record { at = at; acting = acting; value = sym both.0 }, both.1)
        acts_if letters i j x at found false acts h = cc

        is : (letters : List ℕ) (i j : Input) (x : Expr) (k : Known) → known letters names ≡ k → acting_by names action k i ≡ Ok (x, j) →
            Acts action letters x × (next i ≡ j)
        is letters i j x (Variable at) found h = acts_if letters i j x at found (acts_as action (slice_get names.variables at)) refl h
        is letters i j x (Let at) found h = cc
        is letters i j x Unknown found h = cc

        does : (letters : List ℕ) (i : Input) (x : Expr) → Acts action letters x → acting_by names action (known letters names) i ≡ Ok (x, next i)
        does letters i x a =
            ap (λ (k : Known). acting_by names action k i) (known-variable letters a.at names a.acting.first)
            ∙ ap (λ (b : Bool). cond b (skip >> pure (e.Symbol a.at)) (fault WrongKind) i) a.acting.acts
            ∙ ap (λ (y : Expr). let o : Outcome Expr = Ok (y, next i) in o) (sym a.value)

    -- a symbol behind its letter
    abbrev Bracketed : Action → Expr → Texts
    Bracketed action x = one (Sign 91) ▸ (Meant (Acts action) x ▸ one (Sign 93))

    bracketed_rule : (action : Action) →
        Rule bad any (expect 91 >> (acting names action >>= (λ found. expect 93 >> pure found))) (Bracketed action) anywhere
    bracketed_rule action =
        passes (sign_rule 91) (reads (λ x. x) (acting_rule action) (λ x. ends_by (sign_rule 93) x (tt, refl) (λ y known. sym known.1)))

    symbol_read : (action : Action) (w : List ℕ) (i j : Input) (x : Expr) → sees_word w i ≡ true → symbol_by names action i ≡ Ok (x, j) →
        Read (one (Word w) ▸ Bracketed action x) i j
    unfolding symbol_by
    symbol_read action w i j x sees h =
        let head = shows_word-gives w (shown i) (sym (sees_word-shown w i) ∙ sees) in
        Read-joined i (next i) j (at_once (taken (Word w) i refl head)) ((bracketed_rule action).sound (next i) j x h).1

    -- the lexemes of a symbol
    symbol_spelled : (action : Action) (w : List ℕ) (x : Expr) (ls : List Lexeme) (h : (one (Word w) ▸ Bracketed action x) ls) →
        grammar.symbol w h.second.second.first.letters ls
    symbol_spelled action w x ls h =
        let k = h.second.second in
        joined_to_left (joined_to_left (replaced h (replaced h.second (replaced_both k k.first.spelled k.second))))

    module _ (operators : Bool) (inner : Parser Expr) (InParentheses : Expr → Texts) (enclosed : Enclosed bad inner InParentheses) where
      -- ---- what is read as an atom is spelled so

      abbrev Atom : Expr → Texts
      Atom = IsAtom names operators InParentheses

      constant_is : (x : Expr) (ls : List Lexeme) → Split (number largest_norm) Behind x ls → Atom x ls
      constant_is x ls s = by s.spelled.second
        where
          by : Behind s.item x s.spelled.back → Atom x ls
          by (inl h) =
              let d = h.second in
              IsAtom.ratio s.item d.item (sym d.value) d.spelled.0.0
              (joined_to_left (replaced s.spelled (replaced h (d.spelled.0.1, d.spelled.1))))
          by (inr m) = IsAtom.whole s.item (sym m.0) (joined_nothing (replaced s.spelled m.1))

      name_read : (i j : Input) (x : Expr) → input.symbol i ≡ Some symbol.Word → spelling i ≢ codes "S" → spelling i ≢ codes "D" →
          name names i ≡ Ok (x, j) → Read (Atom x) i j
      unfolding name
      name_read i j x is_word no_shift no_derivation h = by (known (spelling i) names) refl h
        where
          by : (k : Known) → known (spelling i) names ≡ k → name_by names k i ≡ Ok (x, j) → Read (Atom x) i j
          by (Variable at) found h =
              let named : IsVariable names (spelling i) at =
              record { no_shift = no_shift; no_derivation = no_derivation; first = variable-known (spelling i) at names found } in
              at_once (moved Atom i (e.Name at) x (next i) j h
              (Spelled-mapped (λ ls u. IsAtom.variable (spelling i) at named refl u)
              (taken (Word (spelling i)) i refl (shown-symbol i symbol.Word is_word))))
          by (Let at) found h = cc
          by Unknown found h = cc

      word_read : (i j : Input) (x : Expr) → input.symbol i ≡ Some symbol.Word → word names operators i ≡ Ok (x, j) → Read (Atom x) i j
      unfolding word letter
      word_read i j x is_word h = by operators refl (sees_word (codes "S") i) refl (sees_word (codes "D") i) refl h
        where
          by : (o : Bool) → operators ≡ o → (s : Bool) → sees_word (codes "S") i ≡ s → (d : Bool) → sees_word (codes "D") i ≡ d
              → word_by names operators o (cond s (Some Shift) (cond d (Some Derive) None)) i ≡ Ok (x, j) → Read (Atom x) i j
          by true allowed true is_shift d is_derivation h =
              Read-mapped (λ ls k. let m = k.second.second.first in
              IsAtom.shift m.letters m.means.at allowed m.means.acting m.means.value (symbol_spelled Shift (codes "S") x ls k))
              (symbol_read Shift (codes "S") i j x is_shift h)
          by false barred true is_shift d is_derivation h = cc
          by true allowed false is_shift true is_derivation h =
              Read-mapped (λ ls k. let m = k.second.second.first in
              IsAtom.derivation m.letters m.means.at allowed m.means.acting m.means.value (symbol_spelled Derive (codes "D") x ls k))
              (symbol_read Derive (codes "D") i j x is_derivation h)
          by false barred false is_shift true is_derivation h = cc
          by o same false is_shift false is_derivation h =
              name_read i j x is_word (other_word (codes "S") i is_word is_shift) (other_word (codes "D") i is_word is_derivation) h

      atom_read : (i j : Input) (x : Expr) → (o : Option Symbol) → input.symbol i ≡ o → atom_by names operators inner o i ≡ Ok (x, j) →
          Read (Atom x) i j
      atom_read i j x (Some symbol.Number) same h = Read-mapped (constant_is x) (constant_rule.sound i j x h).1
      atom_read i j x (Some symbol.Word) same h = word_read i j x same h
      atom_read i j x (Some (symbol.Sign s)) same h = by (s == 40) refl h
        where
          by : (b : Bool) → s == 40 ≡ b → cond b inner syntax i ≡ Ok (x, j) → Read (Atom x) i j
          by true is_open h =
              let open_sign : s ≡ 40 = first_of (search (rules, tests), grind (arith, tests)) in
              Read-mapped (λ ls u. IsAtom.nested u) (enclosed.sound i j x (same ∙ ap (λ (n : ℕ). Some (symbol.Sign n)) open_sign) h)
          by false other h = cc
      atom_read i j x (Some symbol.Dots) same h = cc
      atom_read i j x (Some symbol.LineEnd) same h = cc
      atom_read i j x None same h = cc

      -- ---- the lexemes of an atom are read so

      abbrev word_as : Input → Option Action → Outcome Expr
      word_as i o = word_by names operators operators o i

      -- the letter that a word is
      letter_is : (w : List ℕ) (i : Input) (rest : List Lexeme) → shown i ≡ Word w ∷ rest →
          letter i ≡ cond (bytes_eq w (codes "S")) (Some Shift) (cond (bytes_eq w (codes "D")) (Some Derive) None)
      unfolding letter
      letter_is w i rest head =
          ap (λ (b : Bool). cond b (Some Shift) (cond (sees_word (codes "D") i) (Some Derive) None)) (seen (codes "S"))
          ∙ ap (λ (b : Bool). cond (bytes_eq w (codes "S")) (Some Shift) (cond b (Some Derive) None)) (seen (codes "D"))
        where
          seen : (v : List ℕ) → sees_word v i ≡ bytes_eq w v
          seen v = sees_word-shown v i ∙ ap (shows_word v) head

      word_taken : (w : List ℕ) (i : Input) (rest : List Lexeme) (o : Option Action) → shown i ≡ Word w ∷ rest →
          ◌≡◌ {A = Option Action} (cond (bytes_eq w (codes "S")) (Some Shift) (cond (bytes_eq w (codes "D")) (Some Derive) None)) o →
          atom names operators inner i ≡ word_as i o
      unfolding atom word
      word_taken w i rest o head is =
          ap (λ (s : Option Symbol). atom_by names operators inner s i) (shows_a_word i rest w head) ∙ ap (word_as i) (letter_is w i rest head ∙ is)

      symbol_taken : (action : Action) (w letters : List ℕ) (at : ℕ) (x : Expr) (i : Input) (used rest : List Lexeme) → i.bad ≡ bad →
          shown i ≡ used ++ rest
          → ◌≡◌ {A = Option Action} (cond (bytes_eq w (codes "S")) (Some Shift) (cond (bytes_eq w (codes "D")) (Some Derive) None)) (Some action) →
          IsTrue operators → IsActing names action letters at → x ≡ e.Symbol at → grammar.symbol w letters used →
          Taken (atom names operators inner) i x rest
      unfolding symbol_by
      symbol_taken action w letters at x i used rest here h is allowed acts value u =
          let k = joined_to_right (joined_to_right u) in
          let name : Meant (Acts action) x k.second.second.front =
          record { letters = letters; means = record { at = at; acting = acts; value = value }; spelled = k.second.second.first } in
          let text = replaced k (replaced k.second (replaced_both k.second.second name k.second.second.second)) in
          let head = h ∙ ap (λ ls. ls ++ rest) (k.parts ∙ ap (λ xs. xs ++ k.back) k.first) in
          Taken-same (word_taken w i (k.back ++ rest) (Some action) head is ∙ ap (λ (b : Bool). word_by names operators b (Some action) i) allowed)
          (Takes-next bad (Takes-skip bad (Word w) refl) ((bracketed_rule action).whole x tt) i used rest here h text tt)

      name_taken : (letters : List ℕ) (at : ℕ) (x : Expr) (i : Input) (rest : List Lexeme) → IsVariable names letters at → x ≡ e.Name at →
          shown i ≡ Word letters ∷ rest → Taken (atom names operators inner) i x rest
      unfolding name
      name_taken letters at x i rest v value head =
          let is = ap (λ (b : Bool). cond b (Some Shift) (cond (bytes_eq letters (codes "D")) (Some Derive) None))
          (unequal_words letters (codes "S") v.no_shift)
          ∙ ap (λ (b : Bool). cond {A = Option Action} b (Some Derive) None) (unequal_words letters (codes "D") v.no_derivation) in
          let named = ap (λ (w : List ℕ). known w names) (spelling-shown i rest letters head) ∙ known-variable letters at names v.first in
          Taken-next bad (atom names operators inner) i x (Word letters) rest head refl
          (word_taken letters i rest None head is ∙ ap (λ (k : Known). name_by names k i) named
          ∙ ap (λ (y : Expr). let o : Outcome Expr = Ok (y, next i) in o) (sym value))

      number_taken : (n : ℕ) (x : Expr) (i : Input) (used rest back : List Lexeme) → i.bad ≡ bad → shown i ≡ used ++ rest →
          shown i ≡ Number n ∷ back → Split (number largest_norm) Behind x used → AfterAtom rest → Taken (atom names operators inner) i x rest
      unfolding atom
      number_taken n x i used rest back here h head s after =
          Taken-same (ap (λ (o : Option Symbol). atom_by names operators inner o i) (shows_a_number i back n head))
          (constant_rule.whole x tt i used rest here h s after)

      atom_taken : (x : Expr) → Takes bad (atom names operators inner) x (Atom x) AfterAtom
      unfolding atom
      atom_taken x i used rest here h (IsAtom.whole n value u) after =
          number_taken n x i used rest rest here h (h ∙ ap (λ ls. ls ++ rest) u.1)
          (record { item = n; spelled = on_second (λ xs none. inr (sym value, none)) (to_nothing u) }) after
      atom_taken x i used rest here h (IsAtom.ratio n d value some u) after =
          let k = joined_to_right u in
          let ratio : Image (λ m. e.Ratio (pos n) (pos m)) Divisor x k.second.back =
          record { item = d; value = sym value; spelled = ((some, k.second.second.0), k.second.second.1) } in
          number_taken n x i used rest (k.back ++ rest) here h (h ∙ ap (λ ls. ls ++ rest) (k.parts ∙ ap (λ xs. xs ++ k.back) k.first.1))
          (record { item = n; spelled = replaced k (inl (replaced k.second ratio)) }) after
      atom_taken x i used rest here h (IsAtom.variable letters at v value u) after =
          name_taken letters at x i rest v value (h ∙ ap (λ ls. ls ++ rest) u)
      atom_taken x i used rest here h (IsAtom.shift letters at allowed acts value u) after =
          symbol_taken Shift (codes "S") letters at x i used rest here h refl allowed acts value u
      atom_taken x i used rest here h (IsAtom.derivation letters at allowed acts value u) after =
          symbol_taken Derive (codes "D") letters at x i used rest here h refl allowed acts value u
      atom_taken x i used rest here h (IsAtom.nested u) after =
          let first = enclosed.opens x used u in
          Taken-same (ap (λ (o : Option Symbol). atom_by names operators inner o i)
          (shows_a_sign i (first.0 ++ rest) 40 (h ∙ ap (λ ls. ls ++ rest) first.1))) (enclosed.whole x i used rest here h u tt)

      pub atom_rule : Rule bad any (atom names operators inner) Atom AfterAtom
      unfolding atom
      atom_rule = record { sound = λ i j x h. (tt, atom_read i j x (input.symbol i) refl h); whole = λ x known. atom_taken x }
