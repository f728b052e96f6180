-- Two lists of terms that are merged step by step give the list of their sum: main lemmas `first_ended` and `second_ended`,
-- which each merge of sorted terms cites at its two ends, here and in ct_ore. A term is seen as a key and a value (`entry`).
-- `IsMerging` says of what is done and of what is left that they add up to the whole, and each step of the code keeps it.
use Rattle.ct_poly.proofs.Base.{◌≡◌, refl, ℕ, ◌+◌, ◌≤◌, nat_abs, List, [], ◌∷◌, ◌++◌, length, map, sum_by, sym, ◌∙◌, ap, subst, subst₂, arith}
use Rattle.ct_poly.proofs.Base.{append-nil, Less, Equal, Bool, true, false, cond, sum_by-cons, sum_by_push, sum_by-append, Group, monomials}
use Rattle.ct_poly.proofs.Base.{int_group, IsCanonical-merged, Keys, IsCanonical, keep, merged, poly_of, plus, poly_of-merged}
use Rattle.std.proofs.lemmas.List.{map-append}
use Rattle.ct_poly.specs.declared.term.Term.{Term}
use Rattle.ct_poly.specs.Terms.{entry, size_of, IsFalling, IsListOf, poly_of_terms}
use Rattle.ct_poly.proofs.TermLists.{abs_sum}
use Rattle.ct_algebra.proofs.Merging as merging

-- a measure that a sum can only lower
abbrev pub IsSubadditive : {A : Type 0} → Group A → (A → ℕ) → Type 0
IsSubadditive {A} G size = (a b : A) → size (G.◌+◌ a b) ≤ size a + size b

module _ {X M A : Type 0} (O : Keys M) (G : Group A) (entry : X → M × A) where
  abbrev pub measure : (A → ℕ) → List X → ℕ
  measure size ts = sum_by (λ t. size (entry t).1) ts

  abbrev IsMergingEntries : List X → List X → List (M × A) → List (M × A) → List (M × A) → Type 0
  IsMergingEntries ps qs done p q = merging.IsMerging O G (map entry ps) (map entry qs) done p q

  -- what is done, and what is left of both
  pub record IsMerging (ps qs done p q : List X) : Type 0 where
    pub merging : IsMergingEntries ps qs (map entry done) (map entry p) (map entry q)
    pub sizes :
        (size : A → ℕ) → IsSubadditive G size →
        measure size done + measure size p + measure size q ≤ measure size ps + measure size qs

  -- the terms of the sum, and no larger than both
  pub record IsSumList (ps qs all : List X) : Type 0 where
    pub terms : map entry all ≡ merged O G (map entry ps) (map entry qs)
    pub sizes : (size : A → ℕ) → IsSubadditive G size → measure size all ≤ measure size ps + measure size qs

  pub merging_start :
      {ps qs done : List X} → IsCanonical O G (map entry ps) → IsCanonical O G (map entry qs) → done ≡ [] → IsMerging ps qs done ps qs
  merging_start {ps} {qs} {done} falling falls empty =
      subst (λ d. IsMerging ps qs d ps qs) (sym empty) (record {
        merging = merging.merging_start O G (map entry ps) (map entry qs) falling falls;
        sizes = λ size lower. omega arith;
      })

  turned : {ps qs done p q : List X} → IsMerging ps qs done p q → IsMerging qs ps done q p
  turned m = record {
    merging = merging.merging_turn O G _ _ _ _ _ m.merging;
    sizes = λ size lower. omega (arith, m.sizes size lower);
  }

  -- ---- steps

  -- the greater key is that of the first list
  pub first_taken :
      {ps qs done more p q p' q' : List X} {a b : X} → p ≡ a ∷ p' → q ≡ b ∷ q' → O.cmp (entry b).0 (entry a).0 ≡ Less →
      more ≡ done ++ a ∷ [] → IsMerging ps qs done p q → IsMerging ps qs more p' q
  first_taken {ps} {qs} {done} {more} {p} {q} {p'} {q'} {a} {b} p_is q_is less pushed m =
      let g : IsMerging ps qs done (a ∷ p') (b ∷ q') = subst₂ (IsMerging ps qs done) p_is q_is m in
      subst₂ (λ d r. IsMerging ps qs d p' r) (sym pushed) (sym q_is) (record {
        merging = subst (λ d. IsMergingEntries ps qs d (map entry p') (map entry (b ∷ q'))) (sym (map-append entry done (a ∷ [])))
            (merging.merging_left O G _ _ _ (entry a) (map entry p') (entry b) (map entry q') less g.merging);
        sizes = λ size lower.
            let w : X → ℕ = λ t. size (entry t).1 in
            omega (arith, g.sizes size lower, sum_by_push w done a, sum_by-cons w a p');
      })

  pub second_taken :
      {ps qs done more p q p' q' : List X} {a b : X} → p ≡ a ∷ p' → q ≡ b ∷ q' → O.cmp (entry a).0 (entry b).0 ≡ Less →
      more ≡ done ++ b ∷ [] → IsMerging ps qs done p q → IsMerging ps qs more p q'
  second_taken p_is q_is less pushed m = turned (first_taken q_is p_is less pushed (turned m))

  -- two values at hand are no larger than both lists
  pub has_room :
      {ps qs done p q p' q' : List X} {a b : X} → p ≡ a ∷ p' → q ≡ b ∷ q' → IsMerging ps qs done p q → (size : A → ℕ) →
      IsSubadditive G size → size (entry a).1 + size (entry b).1 ≤ measure size ps + measure size qs
  has_room {ps} {qs} {done} {p} {q} {p'} {q'} {a} {b} p_is q_is m size lower =
      let w : X → ℕ = λ t. size (entry t).1 in
      omega (arith, m.sizes size lower, ap (measure size) p_is, ap (measure size) q_is, sum_by-cons w a p', sum_by-cons w b q')

  pub sum_by-entries : (w : M × A → ℕ) (ts : List X) → sum_by w (map entry ts) ≡ sum_by (λ t. w (entry t)) ts
  sum_by-entries w [] = refl
  sum_by-entries w (t ∷ ts) =
      sum_by-cons w (entry t) (map entry ts) ∙ ap (λ n. w (entry t) + n) (sum_by-entries w ts)
      ∙ sym (sum_by-cons (λ u. w (entry u)) t ts)

  -- equal keys: the sum of the values is kept if it is not zero
  pub both_met :
      {ps qs done more p q p' q' : List X} {a b : X} → p ≡ a ∷ p' → q ≡ b ∷ q' → O.cmp (entry a).0 (entry b).0 ≡ Equal →
      map entry more ≡ map entry done ++ keep O G (entry a).0 (G.◌+◌ (entry a).1 (entry b).1) [] → IsMerging ps qs done p q →
      IsMerging ps qs more p' q'
  both_met {ps} {qs} {done} {more} {p} {q} {p'} {q'} {a} {b} p_is q_is tied pushed m = by (G.is_zero sum) refl
    where
      sum : A
      sum = G.◌+◌ (entry a).1 (entry b).1

      g : IsMerging ps qs done (a ∷ p') (b ∷ q')
      g = subst₂ (IsMerging ps qs done) p_is q_is m

      heads : IsMergingEntries ps qs (map entry done) (entry a ∷ map entry p') (((entry a).0, (entry b).1) ∷ map entry q')
      heads =
          subst (λ k. IsMergingEntries ps qs (map entry done) (entry a ∷ map entry p') ((k, (entry b).1) ∷ map entry q'))
          (sym (O.tied _ _ tied)) g.merging

      made :
          (es : List (M × A)) → map entry more ≡ map entry done ++ es → ((size : A → ℕ) → sum_by (λ e. size e.1) es ≤ size sum) →
          IsMergingEntries ps qs (map entry done ++ es) (map entry p') (map entry q') → IsMerging ps qs more p' q'
      made es is small kept = record {
        merging = subst (λ d. IsMergingEntries ps qs d (map entry p') (map entry q')) (sym is) kept;
        sizes = λ size lower.
            let w : M × A → ℕ = λ e. size e.1 in
            let v : X → ℕ = λ t. size (entry t).1 in
            let parts : sum_by w (map entry more) ≡ sum_by w (map entry done) + sum_by w es =
            ap (sum_by w) is ∙ sum_by-append w (map entry done) es in
            let made_of : sum_by v more ≡ sum_by v done + sum_by w es = omega (arith, sum_by-entries w more, parts, sum_by-entries w done) in
            omega (arith, g.sizes size lower, lower (entry a).1 (entry b).1, small size, made_of, sum_by-cons v a p', sum_by-cons v b q');
      }

      by : (z : Bool) → G.is_zero sum ≡ z → IsMerging ps qs more p' q'
      by true zero =
          made [] (pushed ∙ ap (λ z. map entry done ++ cond z [] (((entry a).0, sum) ∷ [])) zero) (λ size. omega arith)
          (subst (λ d. IsMergingEntries ps qs d (map entry p') (map entry q')) (sym (append-nil (map entry done)))
          (merging.merging_none O G _ _ _ _ (entry a).1 (entry b).1 (map entry p') (map entry q') (G.true_zero _ zero) heads))
      by false some =
          made (((entry a).0, sum) ∷ []) (pushed ∙ ap (λ z. map entry done ++ cond z [] (((entry a).0, sum) ∷ [])) some) (λ size. omega arith)
          (merging.merging_both O G _ _ _ (entry a).0 (entry a).1 (entry b).1 (map entry p') (map entry q') some heads)

  -- a value is kept unless it is zero
  pub sum_kept :
      {more : List X} (done : List X) (t : X) {c : A} → more ≡ done ++ t ∷ [] → (entry t).1 ≡ c → (c ≡ G.zero → ⊥) →
      map entry more ≡ map entry done ++ keep O G (entry t).0 c []
  sum_kept {more} done t {c} pushed same some =
      ap (map entry) pushed ∙ map-append entry done (t ∷ []) ∙ ap (λ v. map entry done ++ ((entry t).0, v) ∷ []) same ∙ by (G.is_zero c) refl
    where
      by : (z : Bool) → G.is_zero c ≡ z → map entry done ++ ((entry t).0, c) ∷ [] ≡ map entry done ++ keep O G (entry t).0 c []
      by true zero = absurd (some (G.true_zero c zero))
      by false nonzero = ap (λ z. map entry done ++ cond z [] (((entry t).0, c) ∷ [])) (sym nonzero)

  pub sum_gone : (done : List X) (k : M) {c : A} → c ≡ G.zero → map entry done ≡ map entry done ++ keep O G k c []
  sum_gone done k {c} none =
      sym (append-nil (map entry done)) ∙ ap (λ z. map entry done ++ cond z [] ((k, c) ∷ [])) (sym (ap G.is_zero none ∙ G.zero_true))

  -- ---- the ends

  pub first_ended :
      {ps qs done all p q : List X} → IsCanonical O G (map entry qs) → p ≡ [] → all ≡ done ++ q → IsMerging ps qs done p q →
      IsSumList ps qs all
  first_ended {ps} {qs} {done} {all} {p} {q} falls empty all_is m = record {
    terms = ap (map entry) all_is ∙ map-append entry done q
        ∙ merging.merging_end O G _ _ _ (map entry q) falls
        (subst (λ w. IsMergingEntries ps qs (map entry done) (map entry w) (map entry q)) empty m.merging);
    sizes = λ size lower. omega (arith, m.sizes size lower, ap (measure size) all_is, sum_by-append (λ t. size (entry t).1) done q);
  }

  pub second_ended :
      {ps qs done all p q : List X} → IsCanonical O G (map entry qs) → q ≡ [] → all ≡ done ++ p → IsMerging ps qs done p q →
      IsSumList ps qs all
  second_ended {ps} {qs} {done} {all} {p} {q} falls empty all_is m = record {
    terms = ap (map entry) all_is ∙ map-append entry done p
        ∙ merging.merging_end_left O G _ _ _ (map entry p) falls
        (subst (λ w. IsMergingEntries ps qs (map entry done) (map entry p) (map entry w)) empty m.merging);
    sizes = λ size lower. omega (arith, m.sizes size lower, ap (measure size) all_is, sum_by-append (λ t. size (entry t).1) done p);
  }

  pub no_longer : {ps qs all : List X} → IsSumList ps qs all → length all ≤ length ps + length qs
  no_longer {ps} {qs} {all} sum =
      omega (arith, sum.sizes (λ c. 1) (λ c d. omega arith), ones ps, ones qs, ones all)
    where
      ones : (ts : List X) → sum_by (λ (t : X). 1) ts ≡ length ts
      ones [] = refl
      ones (t ∷ ts) = omega (arith, sum_by-cons (λ (t : X). 1) t ts, ones ts)

-- the list of the merged terms is that of the sum
pub sum_is :
    {ps qs all : List Term} → IsFalling ps → IsFalling qs → IsSumList monomials int_group entry ps qs all →
    IsListOf (plus (poly_of_terms ps) (poly_of_terms qs)) (length ps + length qs) (size_of ps + size_of qs) all
unfolding poly_of_terms
sum_is {ps} {qs} {all} falling falls sum = record {
  falling = subst (IsCanonical monomials int_group) (sym sum.terms) (IsCanonical-merged monomials int_group (map entry ps) (map entry qs) falls);
  value = ap poly_of sum.terms ∙ poly_of-merged (map entry ps) (map entry qs) falling falls;
  few = no_longer monomials int_group entry sum;
  small = sum.sizes nat_abs abs_sum;
}
