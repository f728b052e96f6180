-- A worker's step keeps the rule: the claim, the look and the hit.
-- Main lemmas: `claims`, `looks`, `hits`; the forms that end in `_as` are what the calls of `Claims` cite.
-- The worker's view stands at some place of the list of all views (`Places.stands`). There the step is an event of the
-- claim machine, or two, and what the machine keeps is kept (`EventsKeep.keeps` of ct_core).
use Rattle.ct_pool.proofs.Base.{◌≡◌, ℕ, zero, suc, ◌+◌, ◌%◌, ◌^◌, ◌<◌, ◌≤◌, List, [], ◌∷◌, ◌++◌, length, set, Some, None, Option, Bool, true, false}
use Rattle.ct_pool.proofs.Base.{refl, sym, ap, ◌∙◌, subst, arith, length-set, min, slice_get, slice_index, ◌==◌, if◌then◌else◌, IfSome, nat_tests}
use Rattle.ct_pool.proofs.Base.{State, Me, Allows, Sight, Kept, Fits, view_after, may_end, is_legal, none_or, Claim, Look, Refuse, Hit, each_at}
use Rattle.ct_pool.proofs.Base.{sum_over-append, sum_below-times, sum_over, times, one_if, once_below, list_of, least_with}
use Rattle.std.proofs.lemmas.Bool.{and_from, not_from_false}
use Rattle.atomic_table.specs.Table.Act.{keeps as holds_still}
use Rattle.ct_core.proofs.EventsKeep.{keeps, ends_is}
use Rattle.ct_pool.specs.declared.note.Note.{Note}
use Rattle.ct_pool.specs.Notes.{live_note, flat, word_of, least_of, refused_at, claims_at, looks_at, hits_at}
use Rattle.ct_pool.specs.ClaimRule.{IsRuled}
use Rattle.ct_pool.specs.Passes.{may_claim}
use Rattle.ct_pool.proofs.Places.{stands, get_set, set_twice, root_stays, next_bound}
use Rattle.ct_core.proofs.EachNumberOnce.{least_below}
use mathlib.Core.Option.{some}
use lib.ListN.{get_elem?}

-- the pending index is refused, and the next number claimed
claims_twice : (count next : ℕ) (least : Option ℕ) (views : List Sight) (k : ℕ) (v : Sight) (o : Option ℕ) → v.pending ≡ o →
    slice_get views k ≡ Some v → may_claim v o ≡ true → Kept count next least views
    → Kept count (next + 1) least (set views k (view_after next None (refused_at v o) (Claim 0)))
claims_twice count next least views k v None is at may kept =
    keeps count next least views k v (Claim 0) at (and_from _ _ may (ap (λ o. none_or o (λ _. false)) is)) kept
claims_twice count next least views k v (Some i) is at may kept =
    let u = view_after next least v (Refuse 0 i) in
    let one = keeps count next least views k v (Refuse 0 i) at may kept in
    let d = ends_is v i may in
    let two = keeps count next least (set views k u) k u (Claim 0) (get_set views k v u at) (and_from _ _ (not_from_false v.stopped d.on) refl) one in
    subst (Kept count (next + 1) least) (set_twice views k u (view_after next least u (Claim 0))) two

-- the rule after one worker's view and the words changed
pub rule_after : {S : Type 0} (count : ℕ) (s t : State S Note) (id : ℕ) (v u : Sight) (next' : ℕ) (least' : Option ℕ) (r : IsRuled count s) →
    get_elem? s.views id ≡ some (live_note v)
    → t.views ≡ set s.views id (live_note u) → t.words ≡ next' ∷ word_of least' ∷ []
    → ((k : ℕ) → slice_get (flat s.views) k ≡ Some v → Kept count next' least' (set (flat s.views) k u)) → IsRuled count t
rule_after count s t id v u next' least' r at views_are words_are kept =
    let p = stands s.views id v at in
    let flat_is : flat t.views ≡ set (flat s.views) p.0 u = ap flat views_are ∙ p.1.changed u in
    record {
      next = next';
      least = least';
      made = r.made;
      joined = r.joined;
      words = words_are;
      kept = subst (Kept count next' least') (sym flat_is) (kept p.0 p.1.here);
      root = ap (λ l. get_elem? l 0) views_are ∙ root_stays s.views id count r.made r.joined v (live_note u) r.root at;
      size = ap length flat_is ∙ length-set (flat s.views) p.0 u ∙ r.size;
      most = r.most;
      small = r.small;
    }

pub word0 : (ws : List ℕ) (a b : ℕ) → ws ≡ a ∷ b ∷ [] → slice_index ws 0 ≡ a
word0 ws a b e = ap (λ l. slice_index l 0) e

pub word1 : (ws : List ℕ) (a b : ℕ) → ws ≡ a ∷ b ∷ [] → slice_index ws 1 ≡ b
word1 ws a b e = ap (λ l. slice_index l 1) e

no_wrap : (n : ℕ) → n + 1 < 18446744073709551616 → (n + 1) % 2 ^ 64 ≡ n + 1
no_wrap n h = grind arith

at_total : {X : Type 0} (f : X → ℕ) (xs : List X) (k : ℕ) (v : X) → slice_get xs k ≡ Some v → f v ≤ sum_over f xs
at_total f [] k v e = absurd (cc)
at_total f (x ∷ xs) zero v e = let same : x ≡ v = cc in let s = ap f same in omega arith
at_total f (x ∷ xs) (suc k) v e = omega (arith, at_total f xs k v e)

-- the pending index was claimed before
pending_below : (count next : ℕ) (least : Option ℕ) (views : List Note) (id : ℕ) (v : Sight) → get_elem? views id ≡ some (live_note v) →
    Kept count next least (flat views) → IfSome v.pending (λ p. p < next)
pending_below count next least views id v at kept = let t = stands views id v at in of v.pending refl t.0 t.1.here
  where
    one : (p : ℕ) → one_if (p == p) ≡ 1
    one p = grind (arith, nat_tests)

    is_below : (p n : ℕ) → 1 ≤ once_below p n → p < n
    is_below p n h = grind (arith, nat_tests)

    of : (o : Option ℕ) → v.pending ≡ o → (k : ℕ) → slice_get (flat views) k ≡ Some v → IfSome o (λ p. p < next)
    of None is k here = tt
    of (Some p) is k here =
        let f = each_at (Fits count least) (flat views) k v here kept.fits in
        let c : v.claims ≡ v.refuted ++ p ∷ [] = f.claims_are ∙ ap (λ o. v.refuted ++ list_of o) is in
        let a = ap (times p) c in
        let b = sum_over-append (λ y. one_if (y == p)) v.refuted (p ∷ []) in
        let d = at_total (λ u. times p u.claims) (flat views) k v here in
        let e : sum_over (λ u. times p u.claims) (flat views) ≡ once_below p next = kept.claimed (λ y. one_if (y == p)) ∙ sum_below-times p next in
        let g = one p in is_below p next (omega arith)

pub claims : {S : Type 0} (count slots id : ℕ) (v : Sight) → may_claim v v.pending ≡ true →
    Allows {S = S} {V = Note} (IsRuled count) slots id (live_note v, []) 0 (λ n. (n + 1) % 2 ^ 64)
    (λ n w. (w ≡ (live_note (claims_at v n), [])) × IfSome v.pending (λ p. p < n))
claims count slots id v may s r len at fits =
    let n0 = slice_index s.words 0 in
    let is : n0 ≡ r.next = word0 s.words r.next (word_of r.least) r.words in
    let bound = next_bound count r.next r.least (flat s.views) r.kept in
    let size = r.size in
    let most = r.most in
    let small = r.small in
    let here : n0 + 1 < 18446744073709551616 = omega arith in (
      live_note (claims_at v n0),
      holds_still,
      tt,
      rule_after count s _ id v (claims_at v n0) (r.next + 1) r.least r at refl
          (ap (λ l. set l 0 ((n0 + 1) % 2 ^ 64)) r.words ∙ ap (λ k. k ∷ word_of r.least ∷ []) (no_wrap n0 here ∙ ap (λ k. k + 1) is))
          (λ k there. subst (λ m. Kept count (r.next + 1) r.least (set (flat s.views) k (claims_at v m))) (sym is)
          (claims_twice count r.next r.least (flat s.views) k v v.pending refl there may r.kept)),
      (refl, subst (λ m. IfSome v.pending (λ p. p < m)) (sym is) (pending_below count r.next r.least s.views id v at r.kept)),
    )

pub told_least : (count next : ℕ) (least : Option ℕ) (views : List Sight) → count ≤ 65535 → Kept count next least views →
    least_of (word_of least) ≡ least
told_least count next None views small k = refl
told_least count next (Some m) views small k = let b = least_below count next views m k in other m (omega arith)
  where
    other : (m : ℕ) → m < 18446744073709551615 → least_of m ≡ Some m
    other m h = let e : (m == 18446744073709551615) ≡ false = grind (arith, nat_tests) in ap (λ (b : Bool). if b then None else Some m) e

pub looks : {S : Type 0} (count slots id : ℕ) (v : Sight) → is_legal count v (Look 0) ≡ true →
    Allows {S = S} {V = Note} (IsRuled count) slots id (live_note v, []) 1 (λ n. n) (λ n w. w ≡ (live_note (looks_at v n), []))
looks count slots id v may s r len at fits =
    let n = slice_index s.words 1 in
    let is : n ≡ word_of r.least = word1 s.words r.next (word_of r.least) r.words in
    let least_is : least_of n ≡ r.least = ap least_of is ∙ told_least count r.next r.least (flat s.views) r.small r.kept in (
      live_note (looks_at v n),
      holds_still,
      tt,
      rule_after count s _ id v (looks_at v n) r.next r.least r at refl
          (ap (λ l. set l 1 n) r.words ∙ ap (λ k. r.next ∷ k ∷ []) is)
          (λ k there. subst (λ (o : Option ℕ). Kept count r.next r.least (set (flat s.views) k (view_after 0 o v (Look 0)))) (sym least_is)
          (keeps count r.next r.least (flat s.views) k v (Look 0) there may r.kept)),
      refl,
    )

min_word : (least : Option ℕ) (i : ℕ) → i ≤ 65535 → min (word_of least) i ≡ word_of (least_with least i)
min_word None i h = grind arith
min_word (Some m) i h = refl

ends_small : (count next : ℕ) (least : Option ℕ) (views : List Sight) (k : ℕ) (v : Sight) (i : ℕ) → slice_get views k ≡ Some v → may_end v i ≡ true →
    Kept count next least views → i < count
ends_small count next least views k v i at may kept =
    let d = ends_is v i may in
    let f = each_at (Fits count least) views k v at kept.fits in
    let P : Option ℕ → Type 0 = λ o. IfSome o (λ x. x < count) in subst P d.pends (f.looked_below d.looks)

pub hits : {S : Type 0} (count slots id : ℕ) (v : Sight) (i : ℕ) → may_end v i ≡ true →
    Allows {S = S} {V = Note} (IsRuled count) slots id (live_note v, []) 1 (λ n. min n i) (λ n w. w ≡ (live_note (hits_at v i), []))
hits count slots id v i may s r len at fits =
    let n = slice_index s.words 1 in
    let is : n ≡ word_of r.least = word1 s.words r.next (word_of r.least) r.words in
    let p = stands s.views id v at in
    let below : i < count = ends_small count r.next r.least (flat s.views) p.0 v i p.1.here may r.kept in
    let small = r.small in (
      live_note (hits_at v i),
      holds_still,
      tt,
      rule_after count s _ id v (hits_at v i) r.next (least_with r.least i) r at refl
          (ap (λ l. set l 1 (min n i)) r.words ∙ ap (λ k. r.next ∷ min k i ∷ []) is ∙ ap (λ k. r.next ∷ k ∷ []) (min_word r.least i (omega arith)))
          (λ k there. keeps count r.next r.least (flat s.views) k v (Hit 0 i) there may r.kept),
      refl,
    )

-- the same, as the calls ask it
pub claims_as : {S : Type 0} (count slots id : ℕ) (me : Me S Note) → me ≡ (live_note me.0.sight, []) → may_claim me.0.sight me.0.sight.pending ≡ true
    → Allows {S = S} {V = Note} (IsRuled count) slots id me 0 (λ n. (n + 1) % 2 ^ 64)
    (λ n w. (w ≡ (live_note (claims_at me.0.sight n), me.1)) × IfSome me.0.sight.pending (λ p. p < n))
claims_as {S = S} count slots id me is may =
    let P : Me S Note → Type 0 = λ m. Allows {S = S} {V = Note} (IsRuled count) slots id m 0 (λ n. (n + 1) % 2 ^ 64)
    (λ n w. (w ≡ (live_note (claims_at m.0.sight n), m.1)) × IfSome m.0.sight.pending (λ p. p < n)) in
    subst P (sym is) (claims {S = S} count slots id me.0.sight may)

pub looks_as : {S : Type 0} (count key slots id : ℕ) (me : Me S Note) → key ≡ count → me ≡ (live_note me.0.sight, []) →
    is_legal count me.0.sight (Look 0) ≡ true
    → Allows {S = S} {V = Note} (IsRuled key) slots id me 1 (λ n. n) (λ n w. w ≡ (live_note (looks_at me.0.sight n), me.1))
looks_as {S = S} count key slots id me key_is is may =
    let P : Me S Note → Type 0 =
    λ m. Allows {S = S} {V = Note} (IsRuled key) slots id m 1 (λ n. n) (λ n w. w ≡ (live_note (looks_at m.0.sight n), m.1)) in
    subst P (sym is) (looks {S = S} key slots id me.0.sight (ap (λ k. is_legal k me.0.sight (Look 0)) key_is ∙ may))

pub hits_as : {S : Type 0} (count slots id i : ℕ) (me : Me S Note) → me ≡ (live_note me.0.sight, []) → may_end me.0.sight i ≡ true
    → Allows {S = S} {V = Note} (IsRuled count) slots id me 1 (λ n. min n i) (λ n w. w ≡ (live_note (hits_at me.0.sight i), me.1))
hits_as {S = S} count slots id i me is may =
    let P : Me S Note → Type 0 = λ m. Allows {S = S} {V = Note} (IsRuled count) slots id m 1 (λ n. min n i)
    (λ n w. w ≡ (live_note (hits_at m.0.sight i), m.1)) in
    subst P (sym is) (hits {S = S} count slots id me.0.sight i may)
