-- The names of name lines are an algebra. Main lemma `names_are`: a new name is a word with another text than those before it.
use Rattle.ct_problem.proofs.Base.{◌≡◌, ◌≢◌, ◌↔◌, ℕ, ◌+◌, cond, List, [], ◌∷◌, ◌++◌, length, refl, sym, subst, arith, count_by, append_assoc}
use Rattle.ct_problem.proofs.Base.{append-nil, sum_by-cons, Action, Shift, Derive, Still, Naming, is_summed, IsNaming, EachIsNaming, IsOtherText}
use Rattle.ct_problem.proofs.Base.{TextsDiffer, IsAlgebra, Role, no_lets, AreFew, name_lines, Lexeme, Word, Texts, ◌▸◌, summed_texts, with_text, Each}
use Rattle.ct_ore.specs.declared.algebra.Role.TheVariants as role
use Rattle.ct_problem.specs.GrammarLets.{declared}
use Rattle.ct_problem.specs.GrammarProblem.{name_line}
use Rattle.ct_problem.proofs.NewNames.{IsSpelled, IsNew, is_new_gives, words_before, words_behind}

-- ---- counts

pub with_text-length : (r : Role) (text : List ℕ) (texts : List (List ℕ)) → length (with_text r text texts) ≡ cond (is_summed r) 1 0 + length texts
with_text-length role.Free text texts = omega arith
with_text-length role.Summed text texts = omega arith
with_text-length role.Param text texts = omega arith

-- as many texts as summed names
pub summed_count : (ns : List Naming) → length (summed_texts ns) ≡ count_by (λ n. is_summed n.role) ns
summed_count [] = refl
summed_count (n ∷ ns) =
    let rest = summed_count ns in
    let left = with_text-length n.role n.text (summed_texts ns) in
    let right = sum_by-cons (λ m. cond (is_summed m.role) 1 0) n ns in
    omega (arith, rest, left, right)

-- ---- a name line

new_is : {a : Texts} (before : List Naming) (text : List ℕ) (ls : List Lexeme) → (a ▸ declared (no_lets before) text) ls → Each IsSpelled ls →
    IsNew before text
new_is before text ls h words =
    let spelled : Each IsSpelled (Word text ∷ []) = subst (Each IsSpelled) h.second.1 (words_behind h words) in
    is_new_gives text (no_lets before) spelled.0 h.second.0.other

-- only a parameter has no operator
Fits : Action → Role → Type 0
Fits action r = (action ≡ Still) ↔ (r ≡ role.Param)

moves : (action : Action) (r : Role) → action ≢ Still → r ≢ role.Param → Fits action r
unfolding Fits
moves action r no_still no_param = ((λ h. absurd (no_still h)), (λ h. absurd (no_param h)))

line_is : (before : List Naming) (text : List ℕ) (action : Action) (r : Role) (ls : List Lexeme) → name_line before action r text ls →
    Each IsSpelled ls → IsNew before text × Fits action r
unfolding Fits
line_is before text Shift role.Free ls h words =
    (new_is before text h.first.front h.first.first (words_before h.first (words_before h words)), moves Shift role.Free (λ e. cc) (λ e. cc))
line_is before text Derive role.Free ls h words =
    (new_is before text h.first.front h.first.first (words_before h.first (words_before h words)), moves Derive role.Free (λ e. cc) (λ e. cc))
line_is before text Shift role.Summed ls h words =
    (new_is before text h.front h.first (words_before h words), moves Shift role.Summed (λ e. cc) (λ e. cc))
line_is before text Derive role.Summed ls h words =
    (new_is before text h.front h.first (words_before h words), moves Derive role.Summed (λ e. cc) (λ e. cc))
line_is before text Still role.Param ls h words = (new_is before text h.front h.first (words_before h words), ((λ e. refl), (λ e. refl)))
line_is before text Shift role.Param ls h words = absurd h
line_is before text Derive role.Param ls h words = absurd h
line_is before text Still role.Free ls h words = absurd h
line_is before text Still role.Summed ls h words = absurd h

-- ---- the name lines

each_more : (ns : List Naming) (n : Naming) → EachIsNaming ns → IsNaming n → EachIsNaming (ns ++ n ∷ [])
each_more [] n each last = (last, tt)
each_more (m ∷ ns) n each last = (each.0, each_more ns n each.1 last)

other_more : (text : List ℕ) (ns : List Naming) (n : Naming) → IsOtherText text ns → n.text ≢ text → IsOtherText text (ns ++ n ∷ [])
other_more text [] n others last = (last, tt)
other_more text (m ∷ ns) n others last = (others.0, other_more text ns n others.1 last)

differ_more : (ns : List Naming) (n : Naming) → TextsDiffer ns → IsOtherText n.text ns → TextsDiffer (ns ++ n ∷ [])
differ_more [] n differ others = (tt, tt)
differ_more (m ∷ ns) n differ others = (other_more m.text ns n differ.0 (λ same. others.0 (sym same)), differ_more ns n differ.1 others.1)

lines_are : (before ns : List Naming) (ls : List Lexeme) → name_lines before ns ls → Each IsSpelled ls → EachIsNaming before → TextsDiffer before →
    EachIsNaming (before ++ ns) × TextsDiffer (before ++ ns)
unfolding Fits
lines_are before [] ls h words each differ = subst (λ (ns : List Naming). EachIsNaming ns × TextsDiffer ns) (sym (append-nil before)) (each, differ)
lines_are before (n ∷ ns) ls h words each differ =
    let line = line_is before n.text n.action n.role h.front h.first (words_before h words) in
    let new = line.0 in
    let naming : IsNaming n = record { word = new.word; no_shift = new.no_shift; no_derivation = new.no_derivation; still_parameters = line.1 } in
    subst (λ (ms : List Naming). EachIsNaming ms × TextsDiffer ms) (append_assoc before (n ∷ []) ns)
    (lines_are (before ++ n ∷ []) ns h.back h.second (words_behind h words) (each_more before n each naming) (differ_more before n differ new.other))

pub names_are : (ns : List Naming) (ls : List Lexeme) → AreFew ns → name_lines [] ns ls → Each IsSpelled ls → IsAlgebra ns
names_are ns ls few h words =
    let known = lines_are [] ns ls h words tt tt in
    let summed = few.few_summed in
    record {
      some = few.some;
      few = few.few;
      each = known.0;
      different = known.1;
      few_operators = few.few_operators;
      few_summed = omega (arith, summed_count ns, summed);
    }
