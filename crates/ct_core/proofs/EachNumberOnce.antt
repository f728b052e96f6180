-- Once every worker has ended, each number below the least hit is refuted once, or each below the count.
-- Main lemma: `decides`, at the end, which `RunsKeep` and the pool cite.
-- A worker that has ended keeps a pending index past all that was decided (`ended_above`), so what it claimed below
-- that it has refuted; and each number below `next` was claimed once.
use Rattle.std.proofs.Common.{◌≡◌, ◌⊎◌, inl, inr, ⊎_elim, ℕ, ◌+◌, ◌<◌, ◌≤◌, List, [], ◌∷◌, ◌++◌, length, Some, None, Option, Bool, true, false, ◌&&◌}
use Rattle.std.proofs.Common.{◌||◌, refl, sym, ap, ◌∙◌, subst, arith}
use Rattle.std.specs.Prelude.{◌==◌, nat_lt, nat_le, IfSome, is_some}
use Rattle.std.proofs.lemmas.Bool.Decides.{nat_tests}
use Rattle.ct_core.specs.Machine.{Sight}
use Rattle.ct_core.specs.Counting.{sum_over, one_if, times, once_below, Each}
use Rattle.ct_core.specs.Steps.{some_and, may_stop}
use Rattle.ct_core.specs.CompleteList.{has_hit, has_ended, DecidedBy}
use Rattle.ct_core.specs.Kept.{list_of, Reaches, Fits, Kept}
use Rattle.ct_core.proofs.Totals.{sum_over-append, sum_over-same, sum_over-below, sum_over-zero, each_map, sum_below-times, times_none}
use Rattle.ct_core.proofs.EventsKeep.{some_and_is}

or_parts : (a b : Bool) → (a || b) ≡ true → (a ≡ true) ⊎ (b ≡ true)
or_parts true b h = inl refl
or_parts false b h = inr h

pub each_both : {X : Type 0} (P Q R : X → Type 0) (xs : List X) → ((x : X) → P x → Q x → R x) → Each P xs → Each Q xs → Each R xs
each_both P Q R [] f a b = tt
each_both P Q R (x ∷ xs) f a b = (f x a.0 b.0, each_both P Q R xs f a.1 b.1)

-- what was seen is above all that lies below the least hit
above_seen : (least : Option ℕ) (x s : ℕ) → IfSome least (λ m. x < m) → Reaches least s → x < s
above_seen None x s i r = absurd r
above_seen (Some m) x s i r = omega arith

seen_reaches : (least : Option ℕ) (o : Option ℕ) (s : ℕ) → o ≡ Some s → IfSome o (λ t. Reaches least t) → Reaches least s
seen_reaches least o s e h = let P : Option ℕ → Type 0 = λ o. IfSome o (λ t. Reaches least t) in subst P e h

-- the pending index is at or past the count, or past a hit that was seen
abbrev passed : ℕ → Sight → Bool
passed count v = some_and v.pending (λ p. nat_le count p) || some_and v.pending (λ p. some_and v.seen (λ s. nat_lt s p))

-- a worker that may stop has ended
pub ended_once_stopped : (count : ℕ) (v : Sight) → (is_some v.hit || may_stop count v) ≡ true → has_ended count v ≡ true
ended_once_stopped count v e = weaker (is_some v.hit) (some_and v.pending (λ p. nat_le count p)) v.looked _ e
  where
    weaker : (h a l b : Bool) → (h || (a || (l && b))) ≡ true → (h || (a || b)) ≡ true
    weaker true a l b e = refl
    weaker false true l b e = refl
    weaker false false true b e = e
    weaker false false false b e = absurd (cc)

-- a worker that has ended has a pending index past all that was decided
ended_above : (count x : ℕ) (least o : Option ℕ) (v : Sight) → v.hit ≡ o → (is_some o || passed count v) ≡ true → x < count →
    IfSome least (λ m. x < m) → Fits count least v → (p : ℕ) × (v.pending ≡ Some p) × (x < p)
ended_above count x least (Some h) v is e below low f =
    let P : Option ℕ → Type 0 = λ o. IfSome o (λ h. (v.pending ≡ Some h) × (h < count) × Reaches least h × (v.stopped ≡ true)) in
    let t : P (Some h) = subst P is f.hit_is in (h, t.0, above_seen least x h low t.2)
ended_above count x least None v is e below low f =
    ⊎_elim
    (λ (a : some_and v.pending (λ p. nat_le count p) ≡ true). let p = some_and_is v.pending (λ p. nat_le count p) a in
    (p.0, p.1, (let q : nat_le count p.0 ≡ true = p.2 in past count x p.0 below q)))
    (λ (b : some_and v.pending (λ p. some_and v.seen (λ s. nat_lt s p)) ≡ true).
    let p = some_and_is v.pending (λ p. some_and v.seen (λ s. nat_lt s p)) b in
    let s = some_and_is v.seen (λ s. nat_lt s p.0) p.2 in
    let r = above_seen least x s.0 low (seen_reaches least v.seen s.0 s.1 f.seen_is) in
    (p.0, p.1, later x s.0 p.0 r s.2))
    (or_parts (some_and v.pending (λ p. nat_le count p)) (some_and v.pending (λ p. some_and v.seen (λ s. nat_lt s p))) e)
  where
    past : (count x p : ℕ) → x < count → nat_le count p ≡ true → x < p
    past count x p h q = grind (arith, nat_tests)

    later : (x s p : ℕ) → x < s → nat_lt s p ≡ true → x < p
    later x s p h q = grind (arith, nat_tests)

claims_at : (count x p : ℕ) (least : Option ℕ) (v : Sight) → v.pending ≡ Some p → Fits count least v →
    times x v.claims ≡ times x v.refuted + one_if (p == x)
claims_at count x p least v is f =
    let e : v.claims ≡ v.refuted ++ p ∷ [] = f.claims_are ∙ ap (λ o. v.refuted ++ list_of o) is in
    let a : times x v.claims ≡ times x (v.refuted ++ p ∷ []) = ap (times x) e in
    let b = sum_over-append (λ y. one_if (y == x)) v.refuted (p ∷ []) in omega arith

-- what an ended worker claimed below that, it refuted
all_refuted : (count x : ℕ) (least : Option ℕ) (v : Sight) → x < count → IfSome least (λ m. x < m) → Fits count least v → has_ended count v ≡ true →
    times x v.refuted ≡ times x v.claims
all_refuted count x least v below low f e =
    let t = ended_above count x least v.hit v refl e below low f in
    let h = claims_at count x t.0 least v t.1 f in
    let q : x < t.0 = t.2 in
    let o : one_if (t.0 == x) ≡ 0 = apart t.0 x q in omega arith
  where
    apart : (p x : ℕ) → x < p → one_if (p == x) ≡ 0
    apart p x h = grind (arith, nat_tests)

-- the first worker's pending index was claimed
claimed_past : (count next x : ℕ) (least : Option ℕ) (views : List Sight) → 0 < length views → x < count → IfSome least (λ m. x < m) →
    Kept count next least views → Each (λ v. has_ended count v ≡ true) views → x < next
claimed_past count next x least [] some_one below low k e = absurd (omega arith)
claimed_past count next x least (v ∷ vs) some_one below low k e =
    let t = ended_above count x least v.hit v refl e.0 below low k.fits.0 in
    let p : ℕ = t.0 in
    let a = claims_at count p p least v t.1 k.fits.0 in
    let b : times p v.claims + sum_over (λ v. times p v.claims) vs ≡ once_below p next = k.claimed (λ y. one_if (y == p)) ∙ sum_below-times p next in
    let one : one_if (p == p) ≡ 1 = same p in
    let q : x < p = t.2 in
    let c : 1 ≤ once_below p next = omega arith in
    let d : p < next = is_below p next c in omega arith
  where
    same : (p : ℕ) → one_if (p == p) ≡ 1
    same p = grind (arith, nat_tests)

    is_below : (p n : ℕ) → 1 ≤ once_below p n → p < n
    is_below p n h = grind (arith, nat_tests)

refuted_once : (count next x : ℕ) (least : Option ℕ) (views : List Sight) → 0 < length views → x < count → IfSome least (λ m. x < m) →
    Kept count next least views → Each (λ v. has_ended count v ≡ true) views → sum_over (λ v. times x v.refuted) views ≡ 1
refuted_once count next x least views some_one below low k e =
    let a = sum_over-same (λ v. times x v.refuted) (λ v. times x v.claims) views
    (each_both (Fits count least) (λ v. has_ended count v ≡ true) (λ v. times x v.refuted ≡ times x v.claims) views
    (λ v f h. all_refuted count x least v below low f h) k.fits e) in
    let b : sum_over (λ v. times x v.claims) views ≡ once_below x next = k.claimed (λ y. one_if (y == x)) ∙ sum_below-times x next in
    let c = claimed_past count next x least views some_one below low k e in
    let d : once_below x next ≡ 1 = is_one x next c in omega arith
  where
    is_one : (p n : ℕ) → p < n → once_below p n ≡ 1
    is_one p n h = grind (arith, nat_tests)

-- nothing at or past the count is refuted
refuted_not : (count next x : ℕ) (least : Option ℕ) (views : List Sight) → count ≤ x → Kept count next least views →
    sum_over (λ v. times x v.refuted) views ≡ 0
refuted_not count next x least views past k =
    sum_over-zero (λ v. times x v.refuted) views
    (each_map (Fits count least) (λ v. times x v.refuted ≡ 0) views
    (λ v f. times_none x v.refuted (each_map (λ y. y < count) (λ y. y < x) v.refuted (λ y h. omega arith) f.refuted_below)) k.fits)

lt_or : (a b : ℕ) → (a < b) ⊎ (b ≤ a)
lt_or a b = grind arith

hit_claimed : (count m : ℕ) (least o : Option ℕ) (v : Sight) → v.hit ≡ o → Fits count least v → one_if (some_and o (λ h. h == m)) ≤ times m v.claims
hit_claimed count m least None v is f = omega arith
hit_claimed count m least (Some h) v is f =
    let P : Option ℕ → Type 0 = λ o. IfSome o (λ h. (v.pending ≡ Some h) × (h < count) × Reaches least h × (v.stopped ≡ true)) in
    let t : P (Some h) = subst P is f.hit_is in
    let a = claims_at count m h least v t.0 f in omega arith

hit_within : (count m : ℕ) (least o : Option ℕ) (v : Sight) → count ≤ m → v.hit ≡ o → Fits count least v → one_if (some_and o (λ h. h == m)) ≡ 0
hit_within count m least None v past is f = refl
hit_within count m least (Some h) v past is f =
    let P : Option ℕ → Type 0 = λ o. IfSome o (λ h. (v.pending ≡ Some h) × (h < count) × Reaches least h × (v.stopped ≡ true)) in
    let t : P (Some h) = subst P is f.hit_is in
    let b : h < count = t.1 in apart h m (omega arith)
  where
    apart : (p x : ℕ) → p < x → one_if (p == x) ≡ 0
    apart p x h = grind (arith, nat_tests)

module _ (count next : ℕ) (views : List Sight) where
  pub least_below : (m : ℕ) → Kept count next (Some m) views → m < count
  least_below m k =
      ⊎_elim (λ (h : m < count). h)
      (λ (h : count ≤ m).
      let z = sum_over-zero (has_hit m) views
      (each_map (Fits count (Some m)) (λ v. has_hit m v ≡ 0) views (λ v f. hit_within count m (Some m) v.hit v h refl f) k.fits) in
      let o : 1 ≤ sum_over (has_hit m) views = k.least_hit in absurd (omega arith))
      (lt_or m count)

  least_once : (m : ℕ) → Kept count next (Some m) views → sum_over (has_hit m) views ≡ 1
  least_once m k =
      let a = sum_over-below (has_hit m) (λ v. times m v.claims) views
      (each_map (Fits count (Some m)) (λ v. has_hit m v ≤ times m v.claims) views (λ v f. hit_claimed count m (Some m) v.hit v refl f) k.fits)
      in
      let b : sum_over (λ v. times m v.claims) views ≡ once_below m next = k.claimed (λ y. one_if (y == m)) ∙ sum_below-times m next in
      let o : 1 ≤ sum_over (has_hit m) views = k.least_hit in
      let c : once_below m next ≤ 1 = at_most m next in omega arith
    where
      at_most : (p n : ℕ) → once_below p n ≤ 1
      at_most p n = grind (arith, nat_tests)

  none_decided : 0 < length views → Kept count next None views → Each (λ v. has_ended count v ≡ true) views → (x : ℕ) →
      sum_over (λ v. times x v.refuted) views ≡ once_below x count
  none_decided some_one k e x =
      ⊎_elim
      (λ (h : x < count). refuted_once count next x None views some_one h tt k e ∙ sym (is_one x count h))
      (λ (h : count ≤ x). refuted_not count next x None views h k ∙ sym (is_none x count h))
      (lt_or x count)
    where
      is_one : (p n : ℕ) → p < n → once_below p n ≡ 1
      is_one p n h = grind (arith, nat_tests)

      is_none : (p n : ℕ) → n ≤ p → once_below p n ≡ 0
      is_none p n h = grind (arith, nat_tests)

  pub decides : (least : Option ℕ) → 0 < length views → Kept count next least views → Each (λ v. has_ended count v ≡ true) views →
      DecidedBy count views least
  decides None some_one k e = none_decided some_one k e
  decides (Some m) some_one k e =
      let b = least_below m k in
      (b, least_once m k, λ x h. refuted_once count next x (Some m) views some_one (omega arith) h k e)
