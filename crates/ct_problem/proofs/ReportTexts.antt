-- A text is read as a report where it stands for it. Main lemmas `report_spelled` and `report_taken`; `read_found_report` cites the first
-- and `gives_no_report`.
use Rattle.ct_problem.proofs.Base.{◌≡◌, ℕ, ◌+◌, ◌<◌, ◌≤◌, Bool, true, false, cond, List, [], ◌∷◌, ◌++◌, drop, Some, None, Ok, Err, refl, sym, ap, ◌∙◌}
use Rattle.ct_problem.proofs.Base.{subst, arith, codes, append-nil, largest_norm, scan_of, Token, Naming, Report, Input, Outcome, pure, line_end}
use Rattle.ct_problem.proofs.Base.{has_line_end, expect_word, ◌>>◌, Word, LineEnd, nothing, one, lexemes, ◌▸◌, ReportStandsFor, ReportStandsForNone}
use Rattle.ct_problem.proofs.Base.{is_plain, input_of_scan, found, report_of}
use Rattle.ct_problem.proofs.Frame.{Taken-same, Takes-pure, anywhere, Ok-same, Goes_on, joined, on_first, replaced, to_nothing, shown, first_read}
use Rattle.ct_problem.proofs.Frame.{LineEnded, line_end-gives, Takes, Takes-as, Takes-bind, Takes-next, Takes-last, Takes-line_end}
use Rattle.ct_problem.specs.GrammarReport.{last_line}
use Rattle.ct_problem.specs.ReportLines as rules
use Rattle.ct_problem.proofs.ReportRules.{Lines, report_lines_rule}
use Rattle.ct_problem.proofs.RuleChoices.{word_rule}

-- ---- the last line

none_left : (i : Input) → shown i ≡ [] → i.left ≡ []
none_left i e = by i.left e
  where
    by : (left : List Token) → lexemes i.text left ≡ [] → left ≡ []
    by [] e = refl
    by (t ∷ ts) e = cc

Takes-at_end : Takes None rules.at_end tt nothing nothing
unfolding rules.at_end
Takes-at_end i used rest here e u after =
    Taken-same (ap (λ (left : List Token). rules.at_end_by left i) (none_left i (e ∙ ap (λ ls. ls ++ rest) u ∙ after)))
    (Takes-pure None tt anywhere i used rest here e u tt)

-- the end of a line, which is there
Takes-full_end : Takes None rules.full_line_end tt (one LineEnd) nothing
unfolding rules.full_line_end
Takes-full_end i used rest here e u after =
    Taken-same (by i.left (e ∙ ap (λ ls. ls ++ rest) u)) (Takes-line_end None i used rest here e u tt)
  where
    by : (left : List Token) → lexemes i.text left ≡ LineEnd ∷ rest → rules.full_end_by left i ≡ line_end i
    by [] e = cc
    by (t ∷ ts) e = refl

Takes-finish : Takes None rules.finish tt last_line nothing
unfolding rules.finish
Takes-finish =
    Takes-next None ((word_rule (codes "end")).whole tt tt)
    (Takes-as None (one LineEnd ▸ nothing) (one LineEnd) nothing nothing (rules.full_line_end >> rules.at_end) tt (λ ls h. to_nothing h) (λ rest a. a)
    (Takes-bind None _ Takes-full_end Takes-at_end (λ back rest h after. ap (λ ls. ls ++ rest) h ∙ after)))

nothing_left : (i j : Input) → rules.at_end i ≡ Ok (tt, j) → i.left ≡ []
unfolding rules.at_end
nothing_left i j e = by i.left refl e
  where
    by : (left : List Token) → i.left ≡ left → rules.at_end_by left i ≡ Ok (tt, j) → i.left ≡ []
    by [] s h = s
    by (t ∷ ts) s h = cc

full_is : (i j : Input) → rules.full_line_end i ≡ Ok (tt, j) → Goes_on i × (line_end i ≡ Ok (tt, j))
unfolding rules.full_line_end
full_is i j e = by i.left refl e
  where
    by : (left : List Token) → i.left ≡ left → rules.full_end_by left i ≡ Ok (tt, j) → Goes_on i × (line_end i ≡ Ok (tt, j))
    by [] s h = cc
    by (t ∷ ts) s h = (λ none. let no = sym s ∙ none in cc, h)

-- the last line is read so
finish_is : (i j : Input) → rules.finish i ≡ Ok (tt, j) → Goes_on i × (last_line (shown i) × (i.bad ≡ None))
unfolding rules.finish has_line_end
finish_is i j e =
    let f = first_read (expect_word (codes "end")) (λ _. rules.full_line_end >> rules.at_end) i j tt e in
    let g = first_read rules.full_line_end (λ _. rules.at_end) f.left j tt f.second in
    let full = full_is f.left g.left g.first in
    let r = ((word_rule {bad = None} (codes "end")).sound i f.left f.value f.first).1 in
    let s = r.spelled full.0 in
    let head : shown i ≡ Word (codes "end") ∷ shown f.left = s.parts ∙ ap (λ ls. ls ++ shown f.left) s.spells in
    let rest = by (line_end-gives f.left g.left tt full.1) full.0 (nothing_left g.left j g.second) in
    let goes_on : Goes_on i = λ none. let no : shown i ≡ [] = ap (λ (left : List Token). lexemes i.text left) none in cc in
    let said = joined (Word (codes "end") ∷ []) (LineEnd ∷ []) refl refl in
    (goes_on, (subst last_line (sym (head ∙ ap (λ ls. Word (codes "end") ∷ ls) rest.0)) said, sym s.follows.same_bad ∙ rest.1))
  where
    by : {k m : Input} → LineEnded k m → Goes_on k → m.left ≡ [] → (shown k ≡ LineEnd ∷ []) × (k.bad ≡ None)
    by {k} {m} (LineEnded.ended t fresh) left none =
        let last : shown m ≡ [] = ap (λ (left : List Token). lexemes m.text left) none in
        (t.parts ∙ ap (λ ls. t.used ++ ls) last ∙ append-nil t.used ∙ t.spells, sym t.follows.same_bad ∙ fresh (ap has_line_end none))
    by {k} {m} (LineEnded.at_end same empty) left none = absurd (left empty)

-- ---- the text

module _ (variables : List Naming) (count : ℕ) (bytes : List ℕ) (from : ℕ) where
  start : Input
  start = input_of_scan bytes (scan_of bytes from)

  text_is : (r : Report) (j : Input) → 1 + count ≤ largest_norm → is_plain (drop from bytes) ≡ true → rules.report variables count start ≡ Ok (r, j) →
      ReportStandsFor variables count bytes from r
  unfolding start rules.report Lines
  text_is r j low plain e =
      let f = first_read (rules.report_lines variables count) (λ q. rules.finish >> pure q) start j r e in
      let g = first_read rules.finish (λ _. pure f.value) f.left j r f.second in
      let end = finish_is f.left g.left g.first in
      let lines = ((report_lines_rule variables count low).sound start f.left f.value f.first).1 in
      let s = lines.spelled end.0 in
      let value : f.value ≡ r = (Ok-same g.second).0 in
      subst (ReportStandsFor variables count bytes from) value (record {
        plain = plain;
        lexical = sym lines.follows.same_bad ∙ end.1.1;
        a_cofactor_each = s.spells.second.0;
        lines = record { front = s.used; back = shown f.left; parts = s.parts; first = replaced s.spells s.spells.second.1; second = end.1.0 };
      })

  pub report_spelled : (r : Report) → 1 + count ≤ largest_norm → report_of variables count bytes from ≡ Some r →
      ReportStandsFor variables count bytes from r
  unfolding report_of start
  report_spelled r low e = by (is_plain (drop from bytes)) refl e
    where
      read : is_plain (drop from bytes) ≡ true → (o : Outcome Report) → rules.report variables count start ≡ o → found o ≡ Some r →
          ReportStandsFor variables count bytes from r
      read plain (Err e) same h = cc
      read plain (Ok q) same h = let value : q.0 ≡ r = cc in subst (ReportStandsFor variables count bytes from) value (text_is q.0 q.1 low plain same)

      by : (plain : Bool) → is_plain (drop from bytes) ≡ plain → cond plain (found (rules.report variables count start)) None ≡ Some r →
          ReportStandsFor variables count bytes from r
      by true plain h = read plain (rules.report variables count start) refl h
      by false plain h = cc

  pub report_taken : (r : Report) → count < largest_norm → ReportStandsFor variables count bytes from r →
      report_of variables count bytes from ≡ Some r
  unfolding report_of start rules.report Lines
  report_taken r few s =
      let whole : shown start ≡ shown start ++ [] = sym (append-nil (shown start)) in
      let takes = Takes-bind None (λ q. rules.finish >> pure q) ((report_lines_rule variables count (omega (arith, few))).whole r tt)
      (Takes-last None (λ _. pure r) Takes-finish (λ k. refl)) (λ back rest h after. tt) in
      let t = takes start (shown start) [] s.lexical whole (on_first (λ ls h. replaced h (s.a_cofactor_each, h.second)) s.lines) refl in
      ap (λ (b : Bool). cond b (found (rules.report variables count start)) None) s.plain ∙ ap found t.reads

  -- where the text isn't read, it stands for nothing
  pub gives_no_report : count < largest_norm → report_of variables count bytes from ≡ None → ReportStandsForNone variables count bytes from
  gives_no_report few none r s = let some = sym none ∙ report_taken r few s in cc
