-- Rules that the next lexeme decides.
--     choice_rule   one of several lexemes decides between rules
--     decides       a test of the next lexeme decides between two rules
--     or_else       the same, where the text tells by which of the two
--     word_rule, sign_rule    a lexeme that has to come
--     meant_rule    a word that stands for a value by its letters
use Rattle.ct_problem.proofs.Base.{Input, Syntax, and_then, eat, eat_word, expect, expect_word, past, required, skip, ◌≡◌, ℕ, Bool, true, false, List}
use Rattle.ct_problem.proofs.Base.{[], ◌∷◌, ◌++◌, ◌⊎◌, inl, inr, Option, Some, None, Ok, refl, sym, ap, ◌∙◌, subst, Symbol, Parser, ◌>>=◌, peek}
use Rattle.ct_problem.proofs.Base.{syntax, next, spelling, Lexeme, Word, Sign, Texts, one, ◌▸◌, ◌>>◌, BadKind, cond, fault_if, look, sees, sees_word}
use Rattle.ct_problem.proofs.Frame.{anywhere, joined_nothing, on_second, same_number, same_word, to_nothing, headed, shown, shown-symbol, shows_sign}
use Rattle.ct_problem.proofs.Frame.{shows_word, shows_a_word, spelling-shown, Spelled, taken, Taken, Taken-next, Takes-fault_if, Takes-next}
use Rattle.ct_problem.proofs.Frame.{Takes-skip, sees_word-shown, shows_word-gives, shows_sign-gives, test_failed, Taken-same, after_first, ends_line}
use Rattle.ct_problem.proofs.Frame.{sees-shown, Spelled-mapped}
use Rattle.ct_token.specs.declared.token.Symbol.TheVariants as symbol
use Rattle.ct_problem.specs.Input as input
use Rattle.ct_problem.proofs.Rules.{like, never, result, same_rule, any, at_once, Rule, step, Read, Read-mapped, Read-joined}

-- ---- one of several lexemes

-- what is seen of a lexeme that comes next
pub record Seen (l : Lexeme) : Type 0 where
  pub sees : Input → Bool
  pub shows : List Lexeme → Bool
  pub same : (i : Input) → sees i ≡ shows (shown i)
  pub gives : (ls : List Lexeme) → shows ls ≡ true → ls ≡ l ∷ after_first ls
  pub own : (ls : List Lexeme) → shows (l ∷ ls) ≡ true
  pub plain : ends_line l ≡ false

abbrev pub word_seen : (w : List ℕ) → Seen (Word w)
word_seen w = record {
  sees = sees_word w;
  shows = shows_word w;
  same = sees_word-shown w;
  gives = shows_word-gives w;
  own = λ ls. same_word w;
  plain = refl;
}

abbrev pub sign_seen : (s : ℕ) → Seen (Sign s)
sign_seen s = record {
  sees = sees s;
  shows = shows_sign s;
  same = sees-shown s;
  gives = shows_sign-gives s;
  own = λ ls. same_number s;
  plain = refl;
}

module _ {V : Type 0} where
  -- the first of these that passes a test
  abbrev pub chosen : List V → (V → Bool) → Option V
  chosen [] f = None
  chosen (v ∷ vs) f = cond (f v) (Some v) (chosen vs f)

  passed_by : (vs : List V) (f : V → Bool) (v : V) → chosen vs f ≡ Some v → f v ≡ true
  passed_by [] f v e = cc
  passed_by (u ∷ vs) f v e = by (f u) refl e (passed_by vs f v)
    where
      by : (b : Bool) → f u ≡ b → ◌≡◌ {A = Option V} (cond b (Some u) (chosen vs f)) (Some v) → (chosen vs f ≡ Some v → f v ≡ true) → f v ≡ true
      by true here h more = let same : u ≡ v = cc in subst (λ (x : V). f x ≡ true) same here
      by false here h more = more h

  none_chosen : (vs : List V) (f : V → Bool) → ((v : V) → f v ≡ false) → chosen vs f ≡ None
  none_chosen [] f never = refl
  none_chosen (v ∷ vs) f never = ap (λ (b : Bool). cond {A = Option V} b (Some v) (chosen vs f)) (never v) ∙ none_chosen vs f never

  -- one of these lexemes, for which there is room, and what stands behind it
  pub record Chosen {A : Type 0} (l : V → Lexeme) (full : V → Bool) (M : V → A → Texts) (x : A) (ls : List Lexeme) : Type 0 where
    pub choice : V
    pub room : full choice ≡ false
    pub spelled : (one (l choice) ▸ M choice x) ls

  module _ {bad : Option ℕ} {A : Type 0} {l : V → Lexeme} (seen : (v : V) → Seen (l v)) (vs : List V)
      (own : (v : V) (rest : List Lexeme) → chosen vs (λ u. (seen u).shows (l v ∷ rest)) ≡ Some v) (full : V → Bool) (kind : BadKind)
      (p : V → Parser A) (g : Option V → Parser A) (which : Input → Option V) (first : (i : Input) → which i ≡ chosen vs (λ u. (seen u).sees i))
      (some : (v : V) (i : Input) → g (Some v) i ≡ (fault_if (full v) kind >> (skip >> p v)) i)
      {M : V → A → Texts} {N : A → Texts} {F : Texts} (each : (v : V) → Rule bad any (p v) (M v) F) (none : Rule bad any (g None) N F)
      (other : (v : V) (x : A) (used rest : List Lexeme) → N x used → F rest → (seen v).shows (used ++ rest) ≡ false) where
    which_shown : (i : Input) (ls : List Lexeme) → shown i ≡ ls → which i ≡ chosen vs (λ u. (seen u).shows ls)
    which_shown i ls e =
        let same : ◌≡◌ {A = V → Bool} (λ u. (seen u).sees i) (λ u. (seen u).shows (shown i)) = λ k u. (seen u).same i k in
        first i ∙ ap (chosen vs) same ∙ ap (λ (ms : List Lexeme). chosen vs (λ u. (seen u).shows ms)) e

    chosen_read : (i j : Input) (x : A) (o : Option V) → which i ≡ o → g o i ≡ Ok (x, j) → Read (λ ls. Chosen l full M x ls ⊎ N x ls) i j
    chosen_read i j x None s e = Read-mapped (λ ls n. inr n) (none.sound i j x e).1
    chosen_read i j x (Some v) s e =
        let t = test_failed (full v) kind (skip >> p v) i j x (sym (some v i) ∙ e) in
        let begins = passed_by vs (λ u. (seen u).shows (shown i)) v (sym (which_shown i (shown i) refl) ∙ s) in
        let lexeme = at_once (taken (l v) i (seen v).plain ((seen v).gives (shown i) begins)) in
        Read-mapped (λ ls h. inl (record { choice = v; room = t.0; spelled = h }))
        (Read-joined i (next i) j lexeme ((each v).sound (next i) j x t.1).1)

    chosen_taken : (x : A) (i : Input) (used rest : List Lexeme) → i.bad ≡ bad → shown i ≡ used ++ rest → F rest → Chosen l full M x used ⊎ N x used →
        Taken (look which >>= g) i x rest
    chosen_taken x i used rest here e after (inl c) =
        let v = c.choice in
        let h = c.spelled in
        let head : shown i ≡ l v ∷ (h.back ++ rest) = e ∙ ap (λ ls. ls ++ rest) (h.parts ∙ ap (λ ls. ls ++ h.back) h.first) in
        let begins : which i ≡ Some v = which_shown i (l v ∷ (h.back ++ rest)) head ∙ own v (h.back ++ rest) in
        Taken-same (ap (λ (o : Option V). g o i) begins ∙ some v i)
        (Takes-fault_if bad kind c.room (Takes-next bad (Takes-skip bad (l v) (seen v).plain) ((each v).whole x tt)) i used rest here e h after)
    chosen_taken x i used rest here e after (inr n) =
        let begins : which i ≡ None = which_shown i (used ++ rest) e
        ∙ none_chosen vs (λ u. (seen u).shows (used ++ rest)) (λ v. other v x used rest n after) in
        Taken-same (ap (λ (o : Option V). g o i) begins) (none.whole x tt i used rest here e n after)

    pub choice_rule : Rule bad any (look which >>= g) (λ x ls. Chosen l full M x ls ⊎ N x ls) F
    choice_rule = record {
      sound = λ i j x e. (tt, chosen_read i j x (which i) refl e);
      whole = λ x known i used rest here e u after. chosen_taken x i used rest here e after u;
    }

-- ---- a test of the next lexeme

-- a test, which takes the lexeme where it passes
pub record Test {l : Lexeme} (q : Parser Bool) (seen : Seen l) : Type 0 where
  pub does : (i : Input) → q i ≡ Ok (seen.sees i, past (seen.sees i) i)

pub word_test : (w : List ℕ) → Test (eat_word w) (word_seen w)
unfolding eat_word
word_test w = record { does = λ i. refl }

pub sign_test : (s : ℕ) → Test (eat s) (sign_seen s)
unfolding eat
sign_test s = record { does = λ i. refl }

-- the test decides between two rules
module _ {bad : Option ℕ} {A : Type 0} {q : Parser Bool} {l : Lexeme} {seen : Seen l} {M N L : A → Texts} {F : Texts} (f : Bool → Parser A)
    (test : Test q seen)
    (yes : Rule bad any (f true) M F) (no : Rule bad any (f false) N F) (to_yes : (x : A) (ls : List Lexeme) → (one l ▸ M x) ls → L x ls)
    (to_no : (x : A) (ls : List Lexeme) → N x ls → L x ls) (which : (x : A) (ls : List Lexeme) → L x ls → (one l ▸ M x) ls ⊎ N x ls)
    (other : (x : A) (used rest : List Lexeme) → N x used → F rest → seen.shows (used ++ rest) ≡ false) where
  taken_by : Option (Unit {0}) → Parser A
  taken_by (Some _) = skip >> f true
  taken_by None = f false

  pub decides : Rule bad any (q >>= f) L F
  unfolding taken_by
  decides =
      same_rule (λ i. ap (λ o. and_then o f) (test.does i) ∙ by i (seen.sees i)) (like there back (λ rest a. a)
      (choice_rule (λ _. seen) (tt ∷ []) (λ _ ls. ap (λ (b : Bool). cond {A = Option (Unit {0})} b (Some tt) None) (seen.own ls))
      (λ _. false) Syntax (λ _. f true) taken_by (λ i. cond (seen.sees i) (Some tt) None) (λ i. refl) (λ _ i. refl) (λ _. yes) no (λ _. other)))
    where
      by : (i : Input) (b : Bool) → f b (past b i) ≡ taken_by (cond b (Some tt) None) i
      by i true = refl
      by i false = refl

      there : (x : A) (ls : List Lexeme) → Chosen (λ (_ : Unit {0}). l) (λ _. false) (λ _. M) x ls ⊎ N x ls → L x ls
      there x ls (inl c) = to_yes x ls c.spelled
      there x ls (inr n) = to_no x ls n

      chosen_by : (x : A) (ls : List Lexeme) → (one l ▸ M x) ls ⊎ N x ls → Chosen (λ (_ : Unit {0}). l) (λ _. false) (λ _. M) x ls ⊎ N x ls
      chosen_by x ls (inl h) = inl (record { choice = tt; room = refl; spelled = h })
      chosen_by x ls (inr n) = inr n

      back : (x : A) (ls : List Lexeme) → L x ls → Chosen (λ (_ : Unit {0}). l) (λ _. false) (λ _. M) x ls ⊎ N x ls
      back x ls u = chosen_by x ls (which x ls u)

pub or_else : {bad : Option ℕ} {A : Type 0} {q : Parser Bool} {l : Lexeme} {seen : Seen l} {M N : A → Texts} {F : Texts} →
    (f : Bool → Parser A) → Test q seen → Rule bad any (f true) M F → Rule bad any (f false) N F
    → ((x : A) (used rest : List Lexeme) → N x used → F rest → seen.shows (used ++ rest) ≡ false) →
    Rule bad any (q >>= f) (λ x ls. (one l ▸ M x) ls ⊎ N x ls) F
or_else f test first second other = decides f test first second (λ x ls h. inl h) (λ x ls h. inr h) (λ x ls h. h) other

-- a test that has to pass
expected : {bad : Option ℕ} {q : Parser Bool} {l : Lexeme} {seen : Seen l} → Test q seen → Rule bad any (q >>= required) (λ _. one l) anywhere
expected test =
    decides required test (result tt) (never {L = λ _ _. ⊥} (λ i j x e. cc) (λ x ls h. h)) (λ x ls h. joined_nothing (on_second (λ xs m. m.1) h))
    (λ x ls h. absurd h) (λ x ls h. inl (on_second (λ xs none. (refl, none)) (to_nothing h))) (λ x used rest h a. absurd h)

pub word_rule : {bad : Option ℕ} (w : List ℕ) → Rule bad any (expect_word w) (λ _. one (Word w)) anywhere
unfolding expect_word
word_rule w = expected (word_test w)

pub sign_rule : {bad : Option ℕ} (s : ℕ) → Rule bad any (expect s) (λ _. one (Sign s)) anywhere
unfolding expect
sign_rule s = expected (sign_test s)

-- ---- words with a meaning

-- a word that means the value
pub record Meant {A : Type 0} (P : List ℕ → A → Type 0) (x : A) (ls : List Lexeme) : Type 0 where
  pub letters : List ℕ
  pub means : P letters x
  pub spelled : one (Word letters) ls

-- what is read of the letters of the next word, which is taken
module _ {A : Type 0} (P : List ℕ → A → Type 0) (f : Option Symbol → Parser A) (g : List ℕ → Parser A) (word : (i : Input) →
    f (Some symbol.Word) i ≡ g (spelling i) i)
    (number : f (Some symbol.Number) ≡ syntax) (sign : (s : ℕ) → f (Some (symbol.Sign s)) ≡ syntax) (two_dots : f (Some symbol.Dots) ≡ syntax)
    (ends : f (Some symbol.LineEnd) ≡ syntax)
    (empty : f None ≡ syntax) (is : (letters : List ℕ) (i j : Input) (x : A) → g letters i ≡ Ok (x, j) → P letters x × (next i ≡ j))
    (does : (letters : List ℕ) (i : Input) (x : A) → P letters x → g letters i ≡ Ok (x, next i)) where
  barred : (p : Parser A) (i j : Input) (x : A) → p ≡ syntax → p i ≡ Ok (x, j) → ⊥
  barred p i j x e h = let no : syntax i ≡ Ok (x, j) = sym (ap (λ (q : Parser A). q i) e) ∙ h in cc

  meant : (i j : Input) (x : A) (o : Option Symbol) → input.symbol i ≡ o → f o i ≡ Ok (x, j) → Spelled (Meant P x) i j
  meant i j x (Some symbol.Word) e h =
      let m = is (spelling i) i j x (sym (word i) ∙ h) in
      subst (Spelled (Meant P x) i) m.1
      (Spelled-mapped (λ ls u. record { letters = spelling i; means = m.0; spelled = u })
      (taken (Word (spelling i)) i refl (shown-symbol i symbol.Word e)))
  meant i j x (Some symbol.Number) e h = absurd (barred _ i j x number h)
  meant i j x (Some (symbol.Sign s)) e h = absurd (barred _ i j x (sign s) h)
  meant i j x (Some symbol.Dots) e h = absurd (barred _ i j x two_dots h)
  meant i j x (Some symbol.LineEnd) e h = absurd (barred _ i j x ends h)
  meant i j x None e h = absurd (barred _ i j x empty h)

  pub meant_rule : {bad : Option ℕ} → Rule bad any (peek >>= f) (Meant P) anywhere
  meant_rule {bad} = step (λ i j x e. meant i j x (input.symbol i) refl e) (λ x i used rest here e u after.
      let head = headed bad i used rest (Word u.letters) e u.spelled in
      Taken-next bad (peek >>= f) i x (Word u.letters) rest head refl
      (ap (λ (o : Option Symbol). f o i) (shows_a_word i rest u.letters head) ∙ word i
      ∙ ap (λ (w : List ℕ). g w i) (spelling-shown i rest u.letters head) ∙ does u.letters i x u.means))
