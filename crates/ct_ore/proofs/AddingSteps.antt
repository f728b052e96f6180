-- Merging two lists of an operator's terms, whose heads are taken from iterators. Main lemmas `room_for_sum` and `sums_met`,
-- which the merge cites where both have a monomial. All else is as in every merge of sorted terms.
use Rattle.ct_ore.proofs.Base.{◌≡◌, refl, sum_by, ℕ, length, MatchOption, List, [], ◌∷◌, ◌++◌, sym, ◌∙◌, ap, subst, subst₂, arith, Option, Some, None}
use Rattle.ct_ore.proofs.Base.{option_to_list, Equal, Mono, monomials, mono_cmp, Polynomial, polys, plus, count, norm, keep, sum_overflow}
use Rattle.ct_ore.proofs.Base.{sums_within}
use Rattle.ct_poly.proofs.OverflowRules.{sum_fits}
use Rattle.ct_ore.specs.declared.op.OpTerm.{OpTerm}
use Rattle.ct_ore.specs.Terms.{op_entries}
use Rattle.ct_ore.specs.TermSums.{CanAdd}
use Rattle.ct_ore.proofs.SortedSums.{no_length}
use Rattle.ct_poly.proofs.Merging as terms

abbrev pub entry : OpTerm → Mono × Polynomial
entry t = (t.mono, t.coef)

abbrev pub IsMerging : List OpTerm → List OpTerm → List OpTerm → List OpTerm → List OpTerm → Type 0
IsMerging = terms.IsMerging monomials polys.group entry

-- both heads are at hand
pub at_hand :
    {ps qs out p q : List OpTerm} {first second : Option OpTerm} {a b : OpTerm} → first ≡ Some a → second ≡ Some b →
    IsMerging ps qs out (option_to_list first ++ p) (option_to_list second ++ q) → IsMerging ps qs out (a ∷ p) (b ∷ q)
at_hand {ps} {qs} {out} {p} {q} is_a is_b m =
    subst₂ (λ x y. IsMerging ps qs out (option_to_list x ++ p) (option_to_list y ++ q)) is_a is_b m

pub room_for_sum :
    {ps qs out p q : List OpTerm} {a b : OpTerm} → CanAdd (op_entries ps) (op_entries qs) → IsMerging ps qs out (a ∷ p) (b ∷ q) →
    sum_overflow a.coef b.coef ≡ None
unfolding plus
room_for_sum {ps} {qs} {out} {p} {q} {a} {b} can m =
    sum_fits a.coef b.coef
    (omega (
      arith,
      can.few,
      terms.has_room monomials polys.group entry refl refl m count (λ f g. (sums_within f g).0),
      entries count ps,
      entries count qs,
    ))
    (omega (
      arith,
      can.small,
      terms.has_room monomials polys.group entry refl refl m norm (λ f g. (sums_within f g).1),
      entries norm ps,
      entries norm qs,
    ))
  where
    entries : (size : Polynomial → ℕ) (ts : List OpTerm) → sum_by (λ e. size e.1) (op_entries ts) ≡ terms.measure monomials polys.group entry size ts
    entries size ts = terms.sum_by-entries monomials polys.group entry (λ e. size e.1) ts

pub sums_met :
    {ps qs out more p q p' q' : List OpTerm} {a b : OpTerm} → p ≡ p' → q ≡ q' → mono_cmp a.mono b.mono ≡ Equal →
    op_entries more ≡ op_entries out ++ keep monomials polys.group a.mono (plus a.coef b.coef) [] → IsMerging ps qs out (a ∷ p) (b ∷ q) →
    IsMerging ps qs more p' q'
unfolding plus
sums_met {ps} {qs} {out} {more} {p} {q} {p'} {q'} {a} {b} next next_too tied pushed m =
    terms.both_met monomials polys.group entry (ap (λ l. a ∷ l) next) (ap (λ l. b ∷ l) next_too) tied pushed m

pub nothing_left :
    {X : Type 0} {first : Option X} {n : ℕ} (xs : List X) → first ≡ None → MatchOption first (n ≡ 0) (λ _. Unit {0}) →
    n ≡ length xs → option_to_list first ++ xs ≡ []
nothing_left {X} {first} {n} xs none ended long =
    ap (λ o. option_to_list o ++ xs) none
    ∙ no_length xs (sym long ∙ subst (λ o. MatchOption o (n ≡ 0) (λ _. Unit {0})) none ended)
