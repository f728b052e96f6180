-- The names of an algebra as the reader finds them: the first of its letters. Main lemmas `is_variable` and `is_acting`.
use Rattle.ct_answer.proofs.Base.{◌≡◌, ◌≢◌, ℕ, zero, suc, ◌+◌, ◌<◌, Bool, true, false, List, [], ◌∷◌, length, Some, IsTrue, refl, ap, ◌∙◌, arith}
use Rattle.ct_answer.proofs.Base.{position, position_from, slice_get, list_all, Naming, IsNaming, EachIsNaming, IsOtherText, TextsDiffer, IsAlgebra}
use Rattle.ct_answer.proofs.Base.{are_word_bytes, declared, IsVariable, IsActing, both}
use Rattle.std.proofs.lemmas.Option.{slice_get-get_or}
use Rattle.std.proofs.lemmas.Iterator.Adapters.{position_from-zero}
use Rattle.ct_ore.specs.Naming.{IsWord}
use Rattle.ct_problem.specs.Names.{same_action, is_named}
use Rattle.ct_problem.proofs.ShownSymbols.{same_word, unequal_words}
use Rattle.ct_answer.specs.Text.{naming_at}
use Rattle.ct_token.specs.Lexical as lexical
use Rattle.ct_token.specs.Lexing as lexing
use Rattle.ct_algebra.specs.Actions as actions

-- ---- words

word_bytes : (bs : List ℕ) → IsTrue (are_word_bytes bs) → IsTrue (list_all lexical.is_word_byte bs)
word_bytes [] h = h
word_bytes (b ∷ bs) h = let parts = both (lexical.is_word_byte b) (are_word_bytes bs) h in rw (parts.0) (word_bytes bs parts.1)

pub word_is : (bs : List ℕ) → IsWord bs → lexing.IsWord bs
word_is [] h = h
word_is (b ∷ bs) h = let parts = both (lexical.is_letter b) (are_word_bytes bs) h in (parts.0, word_bytes bs parts.1)

-- ---- places

pub naming_known : (ns : List Naming) (k : ℕ) → EachIsNaming ns → k < length ns → IsNaming (naming_at ns k)
naming_known [] k each within = absurd (omega arith)
naming_known (n ∷ ns) zero each within = each.0
naming_known (n ∷ ns) (suc k) each within = naming_known ns k each.1 (omega arith)

other_text : (text : List ℕ) (ns : List Naming) (k : ℕ) → IsOtherText text ns → k < length ns → (naming_at ns k).text ≢ text
other_text text [] k others within = absurd (omega arith)
other_text text (n ∷ ns) zero others within = others.0
other_text text (n ∷ ns) (suc k) others within = other_text text ns k others.1 (omega arith)

texts_differ : (ns : List Naming) (j k : ℕ) → TextsDiffer ns → j < k → k < length ns → (naming_at ns k).text ≢ (naming_at ns j).text
texts_differ [] j k differ before within = absurd (omega arith)
texts_differ (n ∷ ns) zero zero differ before within = absurd (omega arith)
texts_differ (n ∷ ns) zero (suc k) differ before within = other_text n.text ns k differ.0 (omega arith)
texts_differ (n ∷ ns) (suc j) zero differ before within = absurd (omega arith)
texts_differ (n ∷ ns) (suc j) (suc k) differ before within = texts_differ ns j k differ.1 (omega arith) (omega arith)

-- the first name that passes a test
first_at : (test : Naming → Bool) (ns : List Naming) (i k : ℕ) → k < length ns → test (naming_at ns k) ≡ true
    → ((j : ℕ) → j < k → test (naming_at ns j) ≡ false) → position_from test i ns ≡ Some (i + k)
first_at test [] i k within here before = absurd (omega arith)
first_at test (n ∷ ns) i zero within here before = let e : i ≡ i + 0 = omega arith in rw here (ap (λ (m : ℕ). Some m) e)
first_at test (n ∷ ns) i (suc k) within here before =
    let none = before 0 (omega arith) in
    let e : i + 1 + k ≡ i + suc k = omega arith in
    rw none (first_at test ns (i + 1) k (omega arith) here (λ j less. before (suc j) (omega arith)) ∙ ap (λ (m : ℕ). Some m) e)

position_at : (test : Naming → Bool) (ns : List Naming) (k : ℕ) → k < length ns → test (naming_at ns k) ≡ true
    → ((j : ℕ) → j < k → test (naming_at ns j) ≡ false) → position test ns ≡ Some k
position_at test ns k within here before =
    let e : 0 + k ≡ k = omega arith in
    position_from-zero test ns ∙ first_at test ns 0 k within here before ∙ ap (λ (m : ℕ). Some m) e

same_itself : (a : actions.Action) → same_action a a ≡ true
same_itself actions.Shift = refl
same_itself actions.Derive = refl
same_itself actions.Still = refl

module _ (names : List Naming) (known : IsAlgebra names) (k : ℕ) (within : k < length names) where
  pub is_word : lexing.IsWord (naming_at names k).text
  is_word = word_is _ (naming_known names k known.each within).word

  pub is_variable : IsVariable (declared names) (naming_at names k).text k
  is_variable =
      let naming = naming_known names k known.each within in
      record {
        no_shift = naming.no_shift;
        no_derivation = naming.no_derivation;
        first = position_at (is_named (naming_at names k).text) names k within (same_word (naming_at names k).text)
            (λ j less. unequal_words (naming_at names k).text (naming_at names j).text (texts_differ names j k known.different less within));
      }

  pub is_acting : IsActing (declared names) (naming_at names k).action (naming_at names k).text k
  is_acting =
      let found : slice_get names k ≡ Some (naming_at names k) = slice_get-get_or names k _ within in
      record {
        first = is_variable.first;
        acts = rw found (same_itself (naming_at names k).action);
      }
