-- Merging two lists of coefficient terms in written form, where a stretch of terms is taken at once. Main lemmas `before_taken`
-- and `further_before`, which the merge and its count cite, and `merged_is`. All else is as in every merge of sorted terms.
use Rattle.ct_ore.proofs.Base.{◌≡◌, refl, ℕ, ◌<◌, ℤ, nat_abs, List, [], ◌∷◌, ◌++◌, length, take, get_or, sym, subst, arith, append_assoc, append-nil}
use Rattle.ct_ore.proofs.Base.{Less, zero, suc, Mono, int_group, AllBelow, less_is, back_canonical, IsSumList, no_longer, first_taken, abs_sum}
use Rattle.ct_ore.specs.declared.coefficient_term.CoefficientTerm.{CoefficientTerm}
use Rattle.ct_ore.specs.CoefficientTerms.{by_parts, pair_cmp, key, keyed, IsWritten}
use Rattle.ct_ore.specs.Lists.{AllBefore, IsBefore, IsMerged}
use Rattle.ct_poly.proofs.Merging as terms

abbrev pub entry : CoefficientTerm → (Mono × Mono) × ℤ
entry t = (key t, t.number)

abbrev pub IsMerging : List CoefficientTerm → List CoefficientTerm → List CoefficientTerm → List CoefficientTerm → List CoefficientTerm → Type 0
IsMerging = terms.IsMerging by_parts int_group entry

stretch_taken :
    {ps qs out q q' : List CoefficientTerm} {b : CoefficientTerm} (xs p : List CoefficientTerm) → q ≡ b ∷ q' → AllBefore b xs →
    IsMerging ps qs out (xs ++ p) q → IsMerging ps qs (out ++ xs) p q
stretch_taken {ps} {qs} {out} {q} [] p eq before h = subst (λ o. IsMerging ps qs o p q) (sym (append-nil out)) h
stretch_taken {ps} {qs} {out} {q} (x ∷ xs) p eq before h =
    subst (λ o. IsMerging ps qs o p q) (append_assoc out (x ∷ []) xs)
    (stretch_taken xs p eq before.1 (first_taken by_parts int_group entry refl eq before.0 refl h))

pub before_taken :
    {ps qs out out' p p' q q' : List CoefficientTerm} {b : CoefficientTerm} {n : ℕ} (xs : List CoefficientTerm) → q ≡ b ∷ q' →
    xs ≡ take n p → p ≡ xs ++ p' → IsBefore b p n → out' ≡ out ++ xs → IsMerging ps qs out p q → IsMerging ps qs out' p' q
before_taken {ps} {qs} {out} {out'} {p} {p'} {q} {q'} {b} xs eq first whole before eo h =
    subst (λ o. IsMerging ps qs o p' q) (sym eo)
    (stretch_taken xs p' eq (subst (AllBefore b) (sym first) before.all) (subst (λ r. IsMerging ps qs out r q) whole h))

pub left_written : {ps qs out p q : List CoefficientTerm} → IsMerging ps qs out p q → IsWritten p
left_written {ps} {qs} {out} {p} {q} h = back_canonical by_parts int_group (keyed out) (keyed p) h.merging.left

pub merged_is : {ps qs all : List CoefficientTerm} → IsSumList by_parts int_group entry ps qs all → IsMerged ps qs all
merged_is sum = record { terms = sum.terms; few = no_longer by_parts int_group entry sum; small = sum.sizes nat_abs abs_sum }

-- a term of a list that is below u
pub below_at :
    (ts : List CoefficientTerm) (n : ℕ) (t u : CoefficientTerm) → n < length ts → t ≡ get_or ts n t →
    AllBelow by_parts int_group (key u) (keyed ts) → pair_cmp (key t) (key u) ≡ Less
below_at [] n t u below at all = absurd (omega arith)
below_at (v ∷ ts) zero t u below at all = subst (λ w. pair_cmp (key w) (key u) ≡ Less) (sym at) (less_is by_parts int_group _ all.0)
below_at (v ∷ ts) (suc n) t u below at all = below_at ts n t u (omega arith) at all.1

-- a term that comes before b has all terms above it before b too
pub further_before :
    (b : CoefficientTerm) (ts : List CoefficientTerm) (n : ℕ) (t : CoefficientTerm) → n < length ts → t ≡ get_or ts n t →
    IsWritten ts → pair_cmp (key b) (key t) ≡ Less → AllBefore b (take (suc n) ts)
further_before b [] n t below at written less = absurd (omega arith)
further_before b (u ∷ ts) zero t below at written less = (subst (λ v. pair_cmp (key b) (key v) ≡ Less) at less, tt)
further_before b (u ∷ ts) (suc n) t below at written less =
    let lower : pair_cmp (key t) (key u) ≡ Less = below_at ts n t u (omega arith) at written.1 in
    (by_parts.trans (key b) (key t) (key u) less lower, further_before b ts n t (omega arith) at written.2 less)
