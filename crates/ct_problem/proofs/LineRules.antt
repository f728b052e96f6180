-- The rules of lines.
use Rattle.ct_problem.proofs.Base.{append_assoc, ◌≡◌, ℕ, ◌<◌, Bool, true, false, Option, Ok, List, ◌++◌, refl, sym, ap, ◌∙◌, arith, codes, TooMany}
use Rattle.ct_problem.proofs.Base.{Names, Input, ◌>>◌, pure, fault_if, sees_word, Lexeme, nothing, one, header, value, keyed, part, zero, suc, ◌≤◌}
use Rattle.ct_problem.proofs.Base.{cond, [], ◌∷◌, length, ◌⊎◌, inl, inr, append-nil, Parser, ◌>>=◌, eat_word, Word, Texts, ◌▸◌, each, values}
use Rattle.ct_problem.proofs.Rules.{Split, any, Rule, Read, Read-mapped, like, binds, result, same_rule, Made, grouped, reads_before, passes}
use Rattle.ct_problem.proofs.Rules.{ends_with, exactly_rule, line_end_rule}
use Rattle.ct_problem.proofs.Frame.{Taken-same, Takes-pure, anywhere, IsFresh, from_nothing, joined_to_left, joined_to_right, nothing_joined}
use Rattle.ct_problem.proofs.Frame.{replaced, shows_word, sees_word-shown}
use Rattle.ct_problem.specs.Lines as read
use Rattle.ct_problem.specs.ReportLines as rules
use Rattle.ct_problem.proofs.LexemeStarts.{ends_sum}
use Rattle.ct_problem.proofs.LineStarts.{Key, word_of, rank_of, AfterLines, fresh_before, other_word}
use Rattle.ct_problem.proofs.RuleChoices.{word_rule, sign_rule, word_test, decides}
use Rattle.ct_problem.proofs.RuleLists.{More, whole_list}
use Rattle.ct_problem.proofs.ExpressionRules.{expression_rule}

module _ {bad : Option ℕ} where
  pub header_rule : (kind : List ℕ) → Rule bad any (read.header kind) (λ _. header kind) (IsFresh bad)
  unfolding read.header
  header_rule kind = grouped
      (grouped (passes (word_rule (codes "mgfun")) (passes (word_rule kind) (passes (exactly_rule 1 (omega arith)) line_end_rule))))

  module _ (names : Names) where
    pub value_rule : (operators : Bool) → Rule bad any (read.value names operators) (value names operators) (IsFresh bad)
    unfolding read.value
    value_rule operators =
        reads_before (λ x. x) (expression_rule bad names operators) (λ x. ends_with x (tt, refl) (λ y k. sym k.1))
        (λ x back rest u a. ends_sum (back ++ rest) (rest, ap (λ ls. ls ++ rest) u))

    pub keyed_rule : (key : List ℕ) (operators : Bool) → Rule bad any (rules.keyed names key operators) (keyed names key operators) (IsFresh bad)
    unfolding rules.keyed
    keyed_rule key operators = passes (word_rule key) (value_rule operators)

    pub part_rule : (key text : List ℕ) (operators : Bool) →
        Rule bad any (read.part names key text operators) (part names key operators text) (IsFresh bad)
    unfolding read.part
    part_rule key text operators = grouped (grouped (passes (word_rule key) (passes (word_rule text) (passes (sign_rule 58) (value_rule operators)))))

-- ---- tests before what comes behind

module _ {bad : Option ℕ} where
  -- a test that takes nothing
  pub no_more_rule : (key : List ℕ) → Rule bad any (read.no_more key) (λ _. nothing) (λ rest. shows_word key rest ≡ false)
  unfolding read.no_more
  no_more_rule key = record {
    sound = λ i j x e. by i j x (sees_word key i) e;
    whole = λ _ _ i used rest here e u after.
        let none = sees_word-shown key i ∙ ap (shows_word key) (e ∙ ap (λ ls. ls ++ rest) u) ∙ after in
        Taken-same (ap (λ (b : Bool). fault_if b TooMany i) none) (Takes-pure bad tt anywhere i used rest here e u tt);
  }
    where
      by : (i j : Input) (x : Unit {0}) (more : Bool) → fault_if more TooMany i ≡ Ok (x, j) → any x × Read nothing i j
      by i j x true e = cc
      by i j x false e = (tt, Read-mapped (λ ls h. h.1) ((result {bad = bad} {F = anywhere} tt).sound i j x e).1)

  pub past_rule : {A : Type 0} (key : List ℕ) (r : ℕ) (x : A) → rank_of key < r →
      Rule bad any (read.no_more key >> pure x) (Made x) (AfterLines bad r)
  past_rule key r x below =
      like (λ y ls h. nothing_joined h.spelled) (λ y ls h. record { item = tt; spelled = from_nothing h }) (λ rest a. a)
      (binds (no_more_rule key) (λ _. result x) (λ _ y back rest m a. ap (λ ls. shows_word key (ls ++ rest)) m.1
      ∙ other_word key r rest below a.from))

-- ---- lines that begin with the same word

module _ {bad : Option ℕ} {X : Type 0} (k : Key) (r : ℕ) (below : rank_of (word_of k) < r) (line : List X → Parser X)
    (from : ℕ → List X → Parser (List X)) (stops : (found : List X) → from 0 found ≡ (read.no_more (word_of k) >> pure found))
    (goes : (n : ℕ) (found : List X) →
    from (suc n) found ≡ (eat_word (word_of k) >>= (λ more. cond more (line found >>= (λ x. from n (found ++ x ∷ []))) (pure found))))
    {L : List X → X → Texts} (line_rule : (found : List X) → Rule bad any (line found) (L found) (IsFresh bad)) (B : List X → List X → Texts)
    (none : (found : List X) (ls : List Lexeme) → B found [] ls → nothing ls)
    (empty : (found : List X) (ls : List Lexeme) → nothing ls → B found [] ls)
    (add : (found : List X) (x : X) (xs : List X) (ls : List Lexeme) → (one (Word (word_of k)) ▸ (L found x ▸ B (found ++ x ∷ []) xs)) ls →
    B found (x ∷ xs) ls)
    (apart : (found : List X) (x : X) (xs : List X) (ls : List Lexeme) → B found (x ∷ xs) ls →
    (one (Word (word_of k)) ▸ (L found x ▸ B (found ++ x ∷ []) xs)) ls) where
  -- at most n lines
  abbrev Few : ℕ → List X → List X → Texts
  Few n found xs ls = (length xs ≤ n) × B found xs ls

  -- a line, and at most n more
  abbrev OneMore : ℕ → List X → List X → Texts
  OneMore n found = Split (L found) (λ x. More (Few n (found ++ x ∷ [])) (found ++ x ∷ []))

  no_line : (n : ℕ) (found xs : List X) (ls : List Lexeme) → Made found xs ls → More (Few n found) found xs ls
  no_line n found xs ls m = record { more = []; value = sym m.0 ∙ sym (append-nil found); spelled = (omega arith, empty found ls m.1) }

  pub key_lines_rule : (n : ℕ) (found : List X) → Rule bad any (from n found) (More (Few n found) found) (AfterLines bad r)
  key_lines_rule zero found =
      same_rule (λ i. ap (λ (p : Parser (List X)). p i) (stops found))
      (like (no_line 0 found) (λ xs ls m. back xs ls m.more m.value m.spelled) (λ rest a. a) (past_rule (word_of k) r found below))
    where
      back : (xs : List X) (ls : List Lexeme) (more : List X) → xs ≡ found ++ more → Few 0 found more ls → Made found xs ls
      back xs ls [] value h = (sym (value ∙ append-nil found), none found ls h.1)
      back xs ls (x ∷ more) value h = let few = h.0 in absurd (omega (arith, few))
  key_lines_rule (suc n) found =
      same_rule (λ i. ap (λ (p : Parser (List X)). p i) (goes n found))
      (decides (λ more. cond more (line found >>= (λ x. from n (found ++ x ∷ []))) (pure found)) (word_test (word_of k))
      (binds (line_rule found) (λ x. key_lines_rule n (found ++ x ∷ [])) (λ x xs back rest h a. fresh_before bad back rest a.fresh)) (result found)
      more_lines (no_line (suc n) found) (λ xs ls m. which xs ls m.more m.value m.spelled)
      (λ xs used rest m a. ap (λ ls. shows_word (word_of k) (ls ++ rest)) m.1 ∙ other_word (word_of k) r rest below a.from))
    where
      more_lines : (xs : List X) (ls : List Lexeme) → (one (Word (word_of k)) ▸ OneMore n found xs) ls → More (Few (suc n) found) found xs ls
      more_lines xs ls h =
          let s = h.second in
          let m = s.spelled.second in
          let few = m.spelled.0 in
          record {
            more = s.item ∷ m.more;
            value = m.value ∙ append_assoc found (s.item ∷ []) m.more;
            spelled = (omega (arith, few), add found s.item m.more ls (replaced h (replaced s.spelled m.spelled.1)));
          }

      which : (xs : List X) (ls : List Lexeme) (more : List X) → xs ≡ found ++ more → Few (suc n) found more ls →
          (one (Word (word_of k)) ▸ OneMore n found xs) ls ⊎ Made found xs ls
      which xs ls [] value h = inr (sym (value ∙ append-nil found), none found ls h.1)
      which xs ls (x ∷ more) value h =
          let few = h.0 in
          let a = apart found x more ls h.1 in
          inl (replaced a (record {
            item = x;
            spelled = replaced a.second (record {
              more = more;
              value = value ∙ sym (append_assoc found (x ∷ []) more);
              spelled = (omega (arith, few), a.second.second);
            });
          }))

pub values_rule : {bad : Option ℕ} (names : Names) (k : Key) (r : ℕ) → rank_of (word_of k) < r →
    Rule bad any (read.value_lines names (word_of k)) (values names (word_of k)) (AfterLines bad r)
unfolding read.value_lines read.value_lines_from
values_rule names k r below =
    whole_list (key_lines_rule k r below (λ _. read.value names true) (read.value_lines_from names (word_of k)) (λ found. refl) (λ n found. refl)
    (λ _. value_rule names true) (λ _. each (keyed names (word_of k) true)) (λ _ ls u. u) (λ _ ls u. u) (λ _ x xs ls h. joined_to_left h)
    (λ _ x xs ls h. joined_to_right h) 16 [])
