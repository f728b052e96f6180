-- The rules of the lines of names. Main lemma `declarations_rule`.
use Rattle.ct_problem.proofs.Base.{append-nil, append_assoc, by_action, ◌≡◌, ℕ, zero, suc, ◌<◌, ◌≤◌, Bool, true, false, cond, List, [], ◌∷◌, ◌++◌}
use Rattle.ct_problem.proofs.Base.{◌⊎◌, inl, inr, length, Option, Some, refl, sym, ap, ◌∙◌, subst, arith, codes, bytes_eq, false≢true, Action, Shift}
use Rattle.ct_problem.proofs.Base.{Derive, Still, Naming, Role, TooMany, NameLine, Free, Sum, Int, Param, Input, Parser, ◌>>=◌, ◌>>◌, pure, syntax}
use Rattle.ct_problem.proofs.Base.{skip, fault_if, line_end, name_line, new_name, free_action, action_of_line, role_of_line, is_full, declared}
use Rattle.ct_problem.proofs.Base.{declaration, declarations_by, full_by, declarations_from, some_names, declarations, expect_word, Lexeme, Word}
use Rattle.ct_problem.proofs.Base.{LineEnd, Texts, one, ◌▸◌, AreFew}
use Rattle.ct_problem.proofs.Frame.{joined_to_left, joined_to_right, nothing_joined, from_nothing, on_first, replaced, shows_word, anywhere, IsFresh}
use Rattle.ct_problem.proofs.Frame.{joined_nothing, on_second, replaced_both, to_nothing}
use Rattle.ct_ore.specs.declared.algebra.Role.TheVariants as role
use Rattle.ct_problem.specs.GrammarLets as lets
use Rattle.ct_problem.specs.GrammarProblem as grammar
use Rattle.ct_problem.proofs.LineStarts.{AfterLines, fresh_before, other_word}
use Rattle.ct_problem.proofs.AlgebraNames.{summed_count}
use Rattle.ct_problem.proofs.NameRooms.{HasRoom, acts_in, Rooms, few_rooms, room_for, room_is, rooms_fit}
use Rattle.ct_problem.proofs.Rules.{any, Rule, like, never, told, reads, ends_with, binds, Split, Made, result, Image, makes}
use Rattle.ct_problem.proofs.RuleChoices.{word_rule, chosen, Chosen, choice_rule, word_seen, word_test, decides}
use Rattle.ct_problem.proofs.RuleLists.{More, whole_list}
use Rattle.ct_problem.proofs.LetRules.{new_name_rule}

-- the word that begins a name line
abbrev key_of : NameLine → List ℕ
key_of Free = codes "free"
key_of Sum = codes "sum"
key_of Int = codes "int"
key_of Param = codes "param"

abbrev all_lines : List NameLine
all_lines = Free ∷ Sum ∷ Int ∷ Param ∷ []

own : (v : NameLine) → chosen all_lines (λ u. bytes_eq (key_of v) (key_of u)) ≡ Some v
own Free = refl
own Sum = refl
own Int = refl
own Param = refl

-- where other lines come, no name line begins
no_line : (v : NameLine) (rest : List Lexeme) (bad : Option ℕ) → AfterLines bad 1 rest → shows_word (key_of v) rest ≡ false
no_line Free rest bad a = other_word (codes "free") 1 rest (omega arith) a.from
no_line Sum rest bad a = other_word (codes "sum") 1 rest (omega arith) a.from
no_line Int rest bad a = other_word (codes "int") 1 rest (omega arith) a.from
no_line Param rest bad a = other_word (codes "param") 1 rest (omega arith) a.from

-- what stands behind the name for its action
abbrev Acting : NameLine → Action → Texts
Acting Free Shift = one (Word (codes "shift"))
Acting Free Derive = one (Word (codes "diff"))
Acting Free Still = lets.none
Acting Sum a = Made Shift a
Acting Int a = Made Derive a
Acting Param a = Made Still a

-- the lines of as many names as there may be
abbrev pub FewNames : List Naming → Texts
FewNames ns ls = AreFew ns × grammar.name_lines [] ns ls

module _ (bad : Option ℕ) where
  action_rule : (v : NameLine) → Rule bad any (action_of_line v) (Acting v) anywhere
  unfolding free_action
  action_rule Free =
      decides (λ is_shift. cond is_shift (pure Shift) (expect_word (codes "diff") >> pure Derive)) (word_test (codes "shift")) (result Shift)
      (makes (λ _. Derive) (word_rule (codes "diff"))) (λ a ls h. subst (λ (b : Action). Acting Free b ls) h.second.0 (by ls h))
      (λ a ls h. subst (λ (b : Action). Acting Free b ls) h.value h.spelled) which
      (λ a used rest h after. ap (λ ls. shows_word (codes "shift") (ls ++ rest)) h.spelled)
    where
      by : {x : Action} (ls : List Lexeme) → (one (Word (codes "shift")) ▸ Made Shift x) ls → one (Word (codes "shift")) ls
      by ls h = joined_nothing (replaced h h.second.1)

      which : (a : Action) (ls : List Lexeme) → Acting Free a ls →
          (one (Word (codes "shift")) ▸ Made Shift a) ls ⊎ Image (λ (_ : Unit {0}). Derive) (λ _. one (Word (codes "diff"))) a ls
      which Shift ls h = inl (on_second (λ xs none. (refl, none)) (to_nothing h))
      which Derive ls h = inr (record { item = tt; value = refl; spelled = h })
      which Still ls h = absurd h
  action_rule Sum = result Shift
  action_rule Int = result Derive
  action_rule Param = result Still

  module _ (found : List Naming) where
    -- ---- a line behind its first word

    Line : NameLine → Naming → Texts
    Line v n ls = (n.role ≡ role_of_line v) × (lets.declared (declared found) n.text ▸ (Acting v n.action ▸ one LineEnd)) ls

    abbrev line_by : NameLine → Parser Naming
    line_by v =
        new_name (declared found) >>=
        (λ text. action_of_line v >>= (λ action. line_end >> pure (record { text = text; action = action; role = role_of_line v })))

    line_rule : (v : NameLine) → Rule bad any (line_by v) (Line v) (IsFresh bad)
    unfolding Line
    line_rule v =
        told (reads (λ n. n.text) (new_name_rule bad (declared found)) (λ text. reads (λ n. n.action) (action_rule v) (λ action.
        ends_with (record { text = text; action = action; role = role_of_line v }) ((refl, refl), refl)
        (λ n known. rw (← known.0.0, ← known.0.1, ← known.1) refl))))

    -- the line of a name, which is full of its kind or not
    abbrev Whole : NameLine → Action → List ℕ → Texts
    Whole v action text = one (Word (key_of v)) ▸ (lets.declared (declared found) text ▸ (Acting v action ▸ one LineEnd))

    record Given (action : Action) (r : Role) (text : List ℕ) (ls : List Lexeme) : Type 0 where
      kind : NameLine
      is_role : r ≡ role_of_line kind
      not_full : is_full kind found ≡ false
      spelled : Whole kind action text ls

    abbrev Roomy : Action → Role → List ℕ → Texts
    Roomy action r text ls = HasRoom found action r × grammar.name_line found action r text ls

    -- where the action has no word
    short : (v : NameLine) (action : Action) {x : Action} (text : List ℕ) (ls : List Lexeme) → by_action action true true false ≡ acts_in v →
        is_full v found ≡ false
        → ((ms : List Lexeme) → (one (Word (key_of v)) ▸ lets.declared (declared found) text ▸ one LineEnd) ms →
        grammar.name_line found action (role_of_line v) text ms)
        → (one (Word (key_of v)) ▸ (lets.declared (declared found) text ▸ (Made action x ▸ one LineEnd))) ls → Roomy x (role_of_line v) text ls
    short v action text ls acts full is h =
        subst (λ (a : Action). Roomy a (role_of_line v) text ls) h.second.second.first.0 (
          room_is found action v acts full,
          is ls (joined_to_left (replaced h (replaced h.second (nothing_joined (on_first (λ xs m. m.1) h.second.second))))),
        )

    roomy : (v : NameLine) (action : Action) (text : List ℕ) (ls : List Lexeme) → is_full v found ≡ false → Whole v action text ls →
        Roomy action (role_of_line v) text ls
    roomy Free Shift text ls full h = (room_is found Shift Free refl full, joined_to_left (joined_to_left h))
    roomy Free Derive text ls full h = (room_is found Derive Free refl full, joined_to_left (joined_to_left h))
    roomy Free Still text ls full h = absurd h.second.second.first
    roomy Sum action text ls full h = short Sum Shift text ls refl full (λ ms k. k) h
    roomy Int action text ls full h = short Int Derive text ls refl full (λ ms k. k) h
    roomy Param action text ls full h = short Param Still text ls refl full (λ ms k. k) h

    long : (v : NameLine) (action : Action) (text : List ℕ) (ls : List Lexeme) →
        (one (Word (key_of v)) ▸ lets.declared (declared found) text ▸ one LineEnd) ls →
        (one (Word (key_of v)) ▸ (lets.declared (declared found) text ▸ (Made action action ▸ one LineEnd))) ls
    long v action text ls h =
        let k = joined_to_right h in
        replaced k (replaced k.second (on_first (λ xs none. (refl, none)) (from_nothing k.second.second)))

    given : (action : Action) (r : Role) (text : List ℕ) (ls : List Lexeme) → Roomy action r text ls → Given action r text ls
    given Shift role.Free text ls h =
        record { kind = Free; is_role = refl; not_full = room_for found Shift Free refl h.0; spelled = joined_to_right (joined_to_right h.1) }
    given Derive role.Free text ls h =
        record { kind = Free; is_role = refl; not_full = room_for found Derive Free refl h.0; spelled = joined_to_right (joined_to_right h.1) }
    given Still role.Free text ls h = absurd h.1
    given Shift role.Summed text ls h =
        record { kind = Sum; is_role = refl; not_full = room_for found Shift Sum refl h.0; spelled = long Sum Shift text ls h.1 }
    given Derive role.Summed text ls h =
        record { kind = Int; is_role = refl; not_full = room_for found Derive Int refl h.0; spelled = long Int Derive text ls h.1 }
    given Still role.Summed text ls h = absurd h.1
    given Shift role.Param text ls h = absurd h.1
    given Derive role.Param text ls h = absurd h.1
    given Still role.Param text ls h =
        record { kind = Param; is_role = refl; not_full = room_for found Still Param refl h.0; spelled = long Param Still text ls h.1 }

  -- ---- the lines

  -- at most n lines, for whose names there is room
  record Names (n : ℕ) (found ns : List Naming) (ls : List Lexeme) : Type 0 where
    few : length ns ≤ n
    rooms : Rooms found ns
    spelled : grammar.name_lines found ns ls

  no_names : (n : ℕ) (found ns : List Naming) (ls : List Lexeme) → Made found ns ls → More (Names n found) found ns ls
  no_names n found ns ls m = record {
    more = [];
    value = sym m.0 ∙ sym (append-nil found);
    spelled = record { few = omega arith; rooms = tt; spelled = m.1 };
  }

  none_begins : (v : NameLine) (found ns : List Naming) (used rest : List Lexeme) → Made found ns used → AfterLines bad 1 rest →
      shows_word (key_of v) (used ++ rest) ≡ false
  none_begins v found ns used rest m after = ap (λ ls. shows_word (key_of v) (ls ++ rest)) m.1 ∙ no_line v rest bad after

  -- a line of this kind, and at most n more
  abbrev OneMore : ℕ → List Naming → NameLine → List Naming → Texts
  OneMore n found v = Split (Line found v) (λ x. More (Names n (found ++ x ∷ [])) (found ++ x ∷ []))

  lines_rule : (n : ℕ) (found : List Naming) → Rule bad any (declarations_from n found) (More (Names n found) found) (AfterLines bad 1)
  unfolding declarations_from name_line declaration Line
  lines_rule zero found =
      like there (λ ns ls m. inr (none ns ls m)) (λ rest a. a)
      (choice_rule (λ v. word_seen (key_of v)) all_lines (λ v rest. own v) (λ _. true) TooMany (λ _. syntax) (full_by found) name_line
      (λ i. refl) (λ v i. refl)
      (λ v. never {L = λ _. lets.none} (λ i j x e. cc) (λ x ls h. h))
      (result found) (λ v ns used rest m after. none_begins v found ns used rest m after))
    where
      there : (ns : List Naming) (ls : List Lexeme) → Chosen (λ v. Word (key_of v)) (λ _. true) (λ _ _. lets.none) ns ls ⊎ Made found ns ls →
          More (Names 0 found) found ns ls
      there ns ls (inl c) = absurd (false≢true (sym c.room))
      there ns ls (inr m) = no_names 0 found ns ls m

      none : (ns : List Naming) (ls : List Lexeme) → More (Names 0 found) found ns ls → Made found ns ls
      none ns ls m = by m.more m.value m.spelled
        where
          by : (more : List Naming) → ns ≡ found ++ more → Names 0 found more ls → Made found ns ls
          by [] value h = (sym (value ∙ append-nil found), h.spelled)
          by (x ∷ more) value h = let few = h.few in absurd (omega (arith, few))
  lines_rule (suc n) found =
      like there back (λ rest a. a)
      (choice_rule (λ v. word_seen (key_of v)) all_lines (λ v rest. own v) (λ v. is_full v found) TooMany
      (λ v. line_by found v >>= (λ x. declarations_from n (found ++ x ∷ [])))
      (declarations_by (λ v. declaration v found >>= (λ x. declarations_from n (found ++ x ∷ []))) found) name_line (λ i. refl) some
      (λ v. binds (line_rule found v) (λ x. lines_rule n (found ++ x ∷ [])) (λ x xs back rest h a. fresh_before bad back rest a.fresh)) (result found)
      (λ v ns used rest m after. none_begins v found ns used rest m after))
    where
      some : (v : NameLine) (i : Input) →
          (declaration v found >>= (λ x. declarations_from n (found ++ x ∷ []))) i ≡
          (fault_if (is_full v found) TooMany >> (skip >> (line_by found v >>= (λ x. declarations_from n (found ++ x ∷ []))))) i
      some v i = by (is_full v found)
        where
          by : (b : Bool) →
              ((fault_if b TooMany >> (skip >> line_by found v)) >>= (λ x. declarations_from n (found ++ x ∷ []))) i ≡
              (fault_if b TooMany >> (skip >> (line_by found v >>= (λ x. declarations_from n (found ++ x ∷ []))))) i
          by true = refl
          by false = refl

      Lines : List Naming → Texts
      Lines ns ls = Chosen (λ v. Word (key_of v)) (λ v. is_full v found) (OneMore n found) ns ls ⊎ Made found ns ls

      there : (ns : List Naming) (ls : List Lexeme) → Lines ns ls → More (Names (suc n) found) found ns ls
      there ns ls (inl c) =
          let s = c.spelled.second in
          let x = s.item in
          let m = s.spelled.second in
          let h = joined_to_left {c = Names n (found ++ x ∷ []) m.more} (replaced c.spelled (replaced s.spelled m.spelled)) in
          let line = roomy found c.choice x.action x.text h.front c.room (replaced h.first h.first.second.1) in
          let r = subst (λ (r : Role). Roomy found x.action r x.text h.front) (sym h.first.second.0) line in
          let few = h.second.few in
          record {
            more = x ∷ m.more;
            value = m.value ∙ append_assoc found (x ∷ []) m.more;
            spelled = record { few = omega (arith, few); rooms = (r.0, h.second.rooms); spelled = replaced_both h r.1 h.second.spelled };
          }
      there ns ls (inr m) = no_names (suc n) found ns ls m

      back : (ns : List Naming) (ls : List Lexeme) → More (Names (suc n) found) found ns ls → Lines ns ls
      back ns ls m = by m.more m.value m.spelled
        where
          by : (more : List Naming) → ns ≡ found ++ more → Names (suc n) found more ls → Lines ns ls
          by [] value h = inr (sym (value ∙ append-nil found), h.spelled)
          by (x ∷ xs) value h =
              let s = h.spelled in
              let g = given found x.action x.role x.text s.front (h.rooms.0, s.first) in
              let few = h.few in
              let line : (one (Word (key_of g.kind)) ▸ Line found g.kind x) s.front = replaced g.spelled (g.is_role, g.spelled.second) in
              let k = joined_to_right {c = grammar.name_lines (found ++ x ∷ []) xs} (replaced_both s line s.second) in
              inl (record {
                choice = g.kind;
                room = g.not_full;
                spelled = replaced k (record {
                  item = x;
                  spelled = replaced k.second (record {
                    more = xs;
                    value = value ∙ sym (append_assoc found (x ∷ []) xs);
                    spelled = record { few = omega (arith, few); rooms = h.rooms.1; spelled = k.second.second };
                  });
                });
              })

  abbrev Some_made : List Naming → List Naming → Texts
  Some_made ns ms ls = (0 < length ns) × Made ns ms ls

  some_rule : (ns : List Naming) → Rule bad any (some_names ns) (Some_made ns) (AfterLines bad 1)
  some_rule [] = never (λ i j x e. cc) (λ x ls h. let some = h.0 in omega (arith, some))
  some_rule (n ∷ ns) = like (λ ms ls m. (omega arith, m)) (λ ms ls m. m.1) (λ rest a. a) (result (n ∷ ns))

  pub declarations_rule : Rule bad any declarations FewNames (AfterLines bad 1)
  unfolding declarations
  declarations_rule =
      like there back (λ rest a. a) (binds (whole_list (lines_rule 6 [])) some_rule (λ ns ms back rest h a.
      subst (λ (ls : List Lexeme). AfterLines bad 1 (ls ++ rest)) (sym h.1.1) a))
    where
      there : (ns : List Naming) (ls : List Lexeme) → Split (Names 6 []) Some_made ns ls → FewNames ns ls
      there ns ls s =
          let h = joined_nothing (on_second (λ xs m. m.1.1) s.spelled) in
          let within = rooms_fit [] s.item h.rooms (record { operators = omega arith; summed = omega arith }) in
          let summed = within.summed in
          let few = h.few in
          subst (λ (ms : List Naming). FewNames ms ls) s.spelled.second.1.0 (
            record {
              some = s.spelled.second.0;
              few = omega (arith, few);
              few_operators = within.operators;
              few_summed = omega (arith, summed_count s.item, summed);
            },
            h.spelled,
          )

      back : (ns : List Naming) (ls : List Lexeme) → FewNames ns ls → Split (Names 6 []) Some_made ns ls
      back ns ls h =
          let few = h.0 in
          let summed = few.few_summed in
          let rooms = few_rooms [] ns (record { operators = few.few_operators; summed = omega (arith, summed_count ns, summed) }) in
          let names : Names 6 [] ns ls = record { few = few.few; rooms = rooms; spelled = h.1 } in
          record { item = ns; spelled = on_second (λ xs none. (few.some, (refl, none))) (to_nothing names) }
