-- Each legal event keeps what every run keeps.
-- Main lemma: `keeps`, at the end, which `RunsKeep` cites, and so does each step of the pool on its two words.
-- Only the view at one place changes (`changes`); what the event leaves of it is said for each kind of event
-- (`claim_fits`, `look_fits`, `refuse_fits`, `hit_fits`, `stop_fits`), and a hit is counted once more (`hit_counts`).
use Rattle.std.proofs.Common.{◌≡◌, ◌⊎◌, ⊎_elim, ℕ, ◌+◌, ◌<◌, ◌≤◌, List, [], ◌∷◌, ◌++◌, set, Some, None, Option, Bool, true, false, ◌&&◌, ◌||◌, refl}
use Rattle.std.proofs.Common.{sym, ap, ◌∙◌, subst, arith, add-one, min, append-nil}
use Rattle.std.specs.Prelude.{slice_get, ◌==◌, nat_lt, nat_le, IfSome, is_some}
use Rattle.std.proofs.lemmas.Bool.{and_parts, not-true}
use Rattle.std.proofs.lemmas.Bool.Decides.{nat_tests}
use Rattle.ct_core.specs.declared.event.Event.{Event}
use Rattle.ct_core.specs.declared.event.Event.TheVariants.{Claim, Look, Refuse, Hit, Stop}
use Rattle.ct_core.specs.Machine.{Sight}
use Rattle.ct_core.specs.Counting.{sum_over, one_if, sum_below}
use Rattle.ct_core.specs.Steps.{some_and, none_or, may_end, may_stop, is_legal, view_after, next_after, least_after, least_with}
use Rattle.ct_core.specs.CompleteList.{has_hit}
use Rattle.ct_core.specs.Kept.{list_of, Reaches, Fits, Kept}
use Rattle.ct_core.proofs.Totals.{sum_over-append, sum_over-set, each_at, each_set, each_map, each_append}

-- what a test of an option tells
pub some_and_is : (o : Option ℕ) (p : ℕ → Bool) → some_and o p ≡ true → (x : ℕ) × (o ≡ Some x) × (p x ≡ true)
some_and_is None p e = absurd (cc)
some_and_is (Some x) p e = (x, refl, e)

none_is : (o : Option ℕ) → none_or o (λ _. false) ≡ true → o ≡ None
none_is None e = refl
none_is (Some x) e = absurd (cc)

if_some : (P Q : ℕ → Type 0) (o : Option ℕ) → ((x : ℕ) → P x → Q x) → IfSome o P → IfSome o Q
if_some P Q None f h = tt
if_some P Q (Some x) f h = f x h

lower : (least : Option ℕ) (i x : ℕ) → Reaches least x → Reaches (least_with least i) x
lower None i x r = absurd r
lower (Some m) i x r = grind arith

now : (least : Option ℕ) (i : ℕ) → Reaches (least_with least i) i
now None i = omega arith
now (Some m) i = grind arith

-- an index that may end
pub record Ends (v : Sight) (i : ℕ) : Type 0 where
  pub on : v.stopped ≡ false
  pub pends : v.pending ≡ Some i
  pub looks : v.looked ≡ true

pub ends_is : (v : Sight) (i : ℕ) → may_end v i ≡ true → Ends v i
ends_is v i e =
    let a = and_parts _ _ e in
    let b = and_parts _ _ a.1 in
    let c = and_parts _ _ b.1 in
    let p = some_and_is v.pending (λ p. p == i) b.0 in
    let same : p.0 ≡ i = (let q = p.2 in grind (arith, nat_tests)) in
    record {
      on = not-true v.stopped a.0;
      pends = p.1 ∙ ap Some same;
      looks = c.0;
    }

-- one view changes
pub changes : (count next next' : ℕ) (least least' : Option ℕ) (views : List Sight) (w : ℕ) (v u : Sight) → slice_get views w ≡ Some v →
    Kept count next least views
    → ((h : ℕ → ℕ) → sum_over h u.claims + sum_below h next ≡ sum_over h v.claims + sum_below h next')
    → ((x : Sight) → Fits count least x → Fits count least' x) → Fits count least' u
    → IfSome least' (λ m. 1 ≤ sum_over (has_hit m) (set views w u))
    → Kept count next' least' (set views w u)
changes count next next' least least' views w v u at k claims others mine hits = record {
  claimed = λ h. omega (arith, sum_over-set (λ x. sum_over h x.claims) views w v u at, k.claimed h, claims h);
  fits = each_set (Fits count least') views w u mine (each_map (Fits count least) (Fits count least') views others k.fits);
  least_hit = hits;
}

-- the hits stay as they are
same_hits : (least : Option ℕ) (views : List Sight) (w : ℕ) (v u : Sight) → slice_get views w ≡ Some v → v.hit ≡ u.hit →
    IfSome least (λ m. 1 ≤ sum_over (has_hit m) views) → IfSome least (λ m. 1 ≤ sum_over (has_hit m) (set views w u))
same_hits least views w v u at e h =
    if_some _ _ least (λ m k. let s = sum_over-set (has_hit m) views w v u at in
    let t : has_hit m v ≡ has_hit m u = ap (λ o. one_if (some_and o (λ x. x == m))) e in omega arith) h

no_hit : (Q : ℕ → Type 0) (count : ℕ) (least : Option ℕ) (v : Sight) → v.stopped ≡ false → (o : Option ℕ) →
    IfSome o (λ h. (v.pending ≡ Some h) × (h < count) × Reaches least h × (v.stopped ≡ true)) → IfSome o Q
no_hit Q count least v on None h = tt
no_hit Q count least v on (Some x) h = let s = h.3 in absurd (cc)

hit_none : (count : ℕ) (least : Option ℕ) (v : Sight) → v.stopped ≡ false → (o : Option ℕ) →
    IfSome o (λ h. (v.pending ≡ Some h) × (h < count) × Reaches least h × (v.stopped ≡ true)) → o ≡ None
hit_none count least v on None h = refl
hit_none count least v on (Some x) h = let s = h.3 in absurd (cc)

-- what each event leaves of the worker that makes it
claim_fits : (count next : ℕ) (least : Option ℕ) (v : Sight) (w : ℕ) → v.stopped ≡ false → v.pending ≡ None → Fits count least v →
    Fits count least (view_after next least v (Claim w))
claim_fits count next least v w on none f = record {
  claims_are = ap (λ l. l ++ next ∷ []) (f.claims_are ∙ ap (λ o. v.refuted ++ list_of o) none ∙ append-nil v.refuted);
  refuted_below = f.refuted_below;
  looked_below = λ e. absurd (cc);
  hit_is = no_hit _ count least v on v.hit f.hit_is;
  seen_is = f.seen_is;
  stopped_is = λ (e : v.stopped ≡ true). absurd (cc);
}

no_stop : (count p : ℕ) (o : Option ℕ) (l r : Bool) → o ≡ Some p → l ≡ false → p < count → (some_and o (λ q. nat_le count q) || (l && r)) ≡ true → ⊥
no_stop count p None l r e off below h = absurd (cc)
no_stop count p (Some q) true r e off below h = absurd (cc)
no_stop count p (Some q) false r e off below h = let same : q ≡ p = cc in grind (arith, nat_tests)

or_on : (a b c : Bool) → (a || b) ≡ true → (b ≡ true → ⊥) → (a || c) ≡ true
or_on true b c h n = refl
or_on false b c h n = absurd (n h)

or_right : (a b : Bool) → b ≡ true → (a || b) ≡ true
or_right true b h = refl
or_right false b h = h

itself : (o : Option ℕ) → IfSome o (λ s. Reaches o s)
itself None = tt
itself (Some m) = omega arith

look_fits : (count next : ℕ) (least : Option ℕ) (v : Sight) (w p : ℕ) → v.looked ≡ false → v.pending ≡ Some p → p < count → Fits count least v →
    Fits count least (view_after next least v (Look w))
look_fits count next least v w p off pends below f = record {
  claims_are = f.claims_are;
  refuted_below = f.refuted_below;
  looked_below = λ _. subst (λ o. IfSome o (λ x. x < count)) (sym pends) below;
  hit_is = f.hit_is;
  seen_is = itself least;
  stopped_is = λ (e : v.stopped ≡ true). or_on (is_some v.hit) _ _ (f.stopped_is e) (no_stop count p v.pending v.looked _ pends off below);
}

ends_below : (count : ℕ) (least : Option ℕ) (v : Sight) (i : ℕ) → Ends v i → Fits count least v → i < count
ends_below count least v i d f = let P : Option ℕ → Type 0 = λ o. IfSome o (λ x. x < count) in subst P d.pends (f.looked_below d.looks)

refuse_fits : (count next : ℕ) (least : Option ℕ) (v : Sight) (w i : ℕ) → Ends v i → Fits count least v →
    Fits count least (view_after next least v (Refuse w i))
refuse_fits count next least v w i d f = record {
  claims_are = (f.claims_are ∙ ap (λ o. v.refuted ++ list_of o) d.pends) ∙ sym (append-nil (v.refuted ++ i ∷ []));
  refuted_below = each_append (λ x. x < count) v.refuted (i ∷ []) f.refuted_below (ends_below count least v i d f, tt);
  looked_below = λ _. tt;
  hit_is = no_hit _ count least v d.on v.hit f.hit_is;
  seen_is = f.seen_is;
  stopped_is = λ (e : v.stopped ≡ true). let off = d.on in absurd (cc);
}

hit_fits : (count next : ℕ) (least : Option ℕ) (v : Sight) (w i : ℕ) → Ends v i → Fits count least v →
    Fits count (least_with least i) (view_after next least v (Hit w i))
hit_fits count next least v w i d f = record {
  claims_are = f.claims_are;
  refuted_below = f.refuted_below;
  looked_below = f.looked_below;
  hit_is = (d.pends, ends_below count least v i d f, now least i, refl);
  seen_is = if_some (Reaches least) (Reaches (least_with least i)) v.seen (lower least i) f.seen_is;
  stopped_is = λ _. refl;
}

stop_fits : (count next : ℕ) (least : Option ℕ) (v : Sight) (w : ℕ) → may_stop count v ≡ true → Fits count least v →
    Fits count least (view_after next least v (Stop w))
stop_fits count next least v w may f = record {
  claims_are = f.claims_are;
  refuted_below = f.refuted_below;
  looked_below = f.looked_below;
  hit_is = if_some (λ h. (v.pending ≡ Some h) × (h < count) × Reaches least h × (v.stopped ≡ true))
      (λ h. (v.pending ≡ Some h) × (h < count) × Reaches least h × (true ≡ true)) v.hit (λ x h. (h.0, h.1, h.2, refl)) f.hit_is;
  seen_is = f.seen_is;
  stopped_is = λ _. or_right (is_some v.hit) _ may;
}

lower_fits : (count i : ℕ) (least : Option ℕ) (v : Sight) → Fits count least v → Fits count (least_with least i) v
lower_fits count i least v f = record {
  claims_are = f.claims_are;
  refuted_below = f.refuted_below;
  looked_below = f.looked_below;
  hit_is = if_some (λ h. (v.pending ≡ Some h) × (h < count) × Reaches least h × (v.stopped ≡ true))
      (λ h. (v.pending ≡ Some h) × (h < count) × Reaches (least_with least i) h × (v.stopped ≡ true)) v.hit
      (λ x h. (h.0, h.1, lower least i x h.2, h.3)) f.hit_is;
  seen_is = if_some (Reaches least) (Reaches (least_with least i)) v.seen (lower least i) f.seen_is;
  stopped_is = f.stopped_is;
}

claims_more : (h : ℕ → ℕ) (xs : List ℕ) (next : ℕ) → sum_over h (xs ++ next ∷ []) + sum_below h next ≡ sum_over h xs + sum_below h (next + 1)
claims_more h xs next = rw add-one (omega (arith, sum_over-append h xs (next ∷ [])))

-- a hit is counted once more
hit_counts : (least : Option ℕ) (i : ℕ) (views : List Sight) (w : ℕ) (v u : Sight) → slice_get views w ≡ Some v → v.hit ≡ None → u.hit ≡ Some i
    → IfSome least (λ m. 1 ≤ sum_over (has_hit m) views) → IfSome (least_with least i) (λ m. 1 ≤ sum_over (has_hit m) (set views w u))
hit_counts None i views w v u at none is h =
    let s = sum_over-set (has_hit i) views w v u at in
    let a : has_hit i v ≡ 0 = ap (λ o. one_if (some_and o (λ x. x == i))) none in
    let b : has_hit i u ≡ one_if (i == i) = ap (λ o. one_if (some_and o (λ x. x == i))) is in
    let c : one_if (i == i) ≡ 1 = grind (arith, nat_tests) in omega arith
hit_counts (Some m) i views w v u at none is h =
    let n : ℕ = min m i in
    let s = sum_over-set (has_hit n) views w v u at in
    let a : has_hit n v ≡ 0 = ap (λ o. one_if (some_and o (λ x. x == n))) none in
    let b : has_hit n u ≡ one_if (i == n) = ap (λ o. one_if (some_and o (λ x. x == n))) is in
    ⊎_elim
    (λ (e : n ≡ i). let c : one_if (i == n) ≡ 1 = grind (arith, nat_tests) in omega arith)
    (λ (e : n ≡ m). let k : 1 ≤ sum_over (has_hit n) views = subst (λ z. 1 ≤ sum_over (has_hit z) views) (sym e) h in omega arith)
    (which m i)
  where
    which : (m i : ℕ) → (min m i ≡ i) ⊎ (min m i ≡ m)
    which m i = grind arith

module _ (count next : ℕ) (least : Option ℕ) (views : List Sight) (at_w : ℕ) (v : Sight) where
  pub keeps : (e : Event) → slice_get views at_w ≡ Some v → is_legal count v e ≡ true → Kept count next least views →
      Kept count (next_after next e) (least_after least e) (set views at_w (view_after next least v e))
  keeps (Claim w) at legal k =
      let a = and_parts _ _ legal in
      let f = each_at (Fits count least) views at_w v at k.fits in
      changes count next (next + 1) least least views at_w v (view_after next least v (Claim w)) at k (λ h. claims_more h v.claims next) (λ x y. y)
      (claim_fits count next least v w (not-true v.stopped a.0) (none_is v.pending a.1) f)
      (same_hits least views at_w v (view_after next least v (Claim w)) at refl k.least_hit)
  keeps (Look w) at legal k =
      let a = and_parts _ _ legal in
      let p = some_and_is v.pending (λ q. nat_lt q count) a.0 in
      let below : p.0 < count = (let q = p.2 in grind (arith, nat_tests)) in
      let f = each_at (Fits count least) views at_w v at k.fits in
      changes count next next least least views at_w v (view_after next least v (Look w)) at k (λ h. refl) (λ x y. y)
      (look_fits count next least v w p.0 (not-true v.looked a.1) p.1 below f)
      (same_hits least views at_w v (view_after next least v (Look w)) at refl k.least_hit)
  keeps (Refuse w i) at legal k =
      let f = each_at (Fits count least) views at_w v at k.fits in
      changes count next next least least views at_w v (view_after next least v (Refuse w i)) at k (λ h. refl) (λ x y. y)
      (refuse_fits count next least v w i (ends_is v i legal) f)
      (same_hits least views at_w v (view_after next least v (Refuse w i)) at refl k.least_hit)
  keeps (Hit w i) at legal k =
      let f = each_at (Fits count least) views at_w v at k.fits in
      let d = ends_is v i legal in
      changes count next next least (least_with least i) views at_w v (view_after next least v (Hit w i)) at k (λ h. refl) (lower_fits count i least)
      (hit_fits count next least v w i d f)
      (hit_counts least i views at_w v (view_after next least v (Hit w i)) at (hit_none count least v d.on v.hit f.hit_is) refl k.least_hit)
  keeps (Stop w) at legal k =
      let f = each_at (Fits count least) views at_w v at k.fits in
      changes count next next least least views at_w v (view_after next least v (Stop w)) at k (λ h. refl) (λ x y. y)
      (stop_fits count next least v w legal f)
      (same_hits least views at_w v (view_after next least v (Stop w)) at refl k.least_hit)
