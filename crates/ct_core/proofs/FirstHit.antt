-- A complete list that is faithful to a function decides the function's first hit.
-- Main lemma: `run_first_hit`, at the end, which the clause `first_hit` of `replay` cites.
-- What the views have refuted are misses and what they have hit are hits, after each event (`run_knows`); with what a
-- complete run has decided this names the first hit.
use Rattle.std.proofs.Common.{◌≡◌, ◌≢◌, ⊎_elim, ℕ, zero, suc, ◌<◌, List, [], ◌∷◌, Some, None, Option, Bool, true, false, refl, ap, ◌∙◌, subst, arith}
use Rattle.std.proofs.Common.{take}
use Rattle.std.specs.Prelude.{slice_get, if◌then◌else◌, replicate, IfSome, ◌==◌}
use Rattle.std.proofs.lemmas.Bool.Decides.{eqb_tells, nat_tests}
use Rattle.ct_core.specs.declared.event.Event.{Event}
use Rattle.ct_core.specs.declared.event.Event.TheVariants.{Claim, Look, Refuse, Hit, Stop}
use Rattle.ct_core.specs.Machine.{Sight, Machine, fresh, start_of}
use Rattle.ct_core.specs.Steps.{some_and, is_legal, view_after, machine_after, step_at, step_of, worker_of}
use Rattle.ct_core.specs.Runs.{run_of}
use Rattle.ct_core.specs.Counting.{sum_over, times, one_if, once_below, Each}
use Rattle.ct_core.specs.CompleteList.{has_hit, DecidedBy, IsComplete, Agrees, IsFaithful, IsFirstHit}
use Rattle.ct_core.proofs.Totals.{each_append, each_at, each_set, each_map, sum_over-zero}
use Rattle.ct_core.proofs.RunsKeep.{next_run, run_decides, run_counts}

-- what the worker refuted are misses, and what it hit is a hit
abbrev Known : (ℕ → Bool) → Sight → Type 0
Known f v = Each (λ x. f x ≡ false) v.refuted × IfSome v.hit (λ h. f h ≡ true)

known_after : (f : ℕ → Bool) (next : ℕ) (least : Option ℕ) (v : Sight) (e : Event) → Agrees f e → Known f v → Known f (view_after next least v e)
known_after f next least v (Claim w) a k = (k.0, k.1)
known_after f next least v (Look w) a k = (k.0, k.1)
known_after f next least v (Refuse w i) a k = (each_append (λ x. f x ≡ false) v.refuted (i ∷ []) k.0 (a, tt), k.1)
known_after f next least v (Hit w i) a k = (k.0, a)
known_after f next least v (Stop w) a k = (k.0, k.1)

step_knows : (f : ℕ → Bool) (s t : Machine) (e : Event) → step_of s e ≡ Some t → Agrees f e → Each (Known f) s.views → Each (Known f) t.views
step_knows f s t e is a k = at_view (slice_get s.views (worker_of e)) refl is
  where
    at_test : (v : Sight) (b : Bool) → slice_get s.views (worker_of e) ≡ Some v →
        (if b then Some (machine_after s (worker_of e) v e) else None) ≡ Some t → Each (Known f) t.views
    at_test v true at is =
        let same : machine_after s (worker_of e) v e ≡ t = cc in
        subst (λ (u : Machine). Each (Known f) u.views) same
        (each_set (Known f) s.views (worker_of e) _ (known_after f s.next s.least v e a (each_at (Known f) s.views (worker_of e) v at k)) k)
    at_test v false at is = absurd (cc)

    at_view : (o : Option Sight) → slice_get s.views (worker_of e) ≡ o → step_at s o e ≡ Some t → Each (Known f) t.views
    at_view None at is = absurd (cc)
    at_view (Some v) at is = at_test v (is_legal s.count v e) at is

run_knows : (f : ℕ → Bool) (s t : Machine) (es : List Event) → run_of s es ≡ Some t → IsFaithful f es → Each (Known f) s.views →
    Each (Known f) t.views
run_knows f s t [] run a k = let same : s ≡ t = cc in subst (λ (u : Machine). Each (Known f) u.views) same k
run_knows f s t (e ∷ es) run a k = on (step_of s e) refl run (λ u r q. run_knows f u t es r a.1 q)
  where
    on : (o : Option Machine) → step_of s e ≡ o → next_run o es ≡ Some t →
        ((u : Machine) → run_of u es ≡ Some t → Each (Known f) u.views → Each (Known f) t.views) → Each (Known f) t.views
    on None is run g = absurd (cc)
    on (Some u) is run g = g u run (step_knows f s u e is a.0 k)

apart_zero : (f : ℕ → Bool) (x y : ℕ) → f x ≡ true → f y ≡ false → one_if (y == x) ≡ 0
apart_zero f x y a b = ⊎_elim (λ (t : ((y == x) ≡ true) × (y ≡ x)). let e : f y ≡ f x = ap f t.1 in absurd (cc))
    (λ (t : ((y == x) ≡ false) × (y ≢ x)). ap one_if t.0) (eqb_tells y x)

miss_none : (f : ℕ → Bool) (x : ℕ) (ys : List ℕ) → f x ≡ true → Each (λ y. f y ≡ false) ys → times x ys ≡ 0
miss_none f x [] a k = refl
miss_none f x (y ∷ ys) a k = let o = apart_zero f x y a k.0 in omega (arith, miss_none f x ys a k.1)

hit_none_of : (f : ℕ → Bool) (m : ℕ) (o : Option ℕ) → f m ≡ false → IfSome o (λ h. f h ≡ true) → one_if (some_and o (λ h. h == m)) ≡ 0
hit_none_of f m None a k = refl
hit_none_of f m (Some h) a k = ⊎_elim (λ (t : ((h == m) ≡ true) × (h ≡ m)). let e : f h ≡ f m = ap f t.1 in absurd (cc))
    (λ (t : ((h == m) ≡ false) × (h ≢ m)). ap one_if t.0) (eqb_tells h m)

module _ (f : ℕ → Bool) (views : List Sight) (k : Each (Known f) views) where
  miss_if : (x : ℕ) (b : Bool) → f x ≡ b → sum_over (λ v. times x v.refuted) views ≡ 1 → f x ≡ false
  miss_if x true e one =
      let z = sum_over-zero (λ v. times x v.refuted) views
      (each_map (Known f) (λ v. times x v.refuted ≡ 0) views (λ v h. miss_none f x v.refuted e h.0) k) in absurd (omega arith)
  miss_if x false e one = e

  hit_if : (m : ℕ) (b : Bool) → f m ≡ b → sum_over (has_hit m) views ≡ 1 → f m ≡ true
  hit_if m true e one = e
  hit_if m false e one =
      let z = sum_over-zero (has_hit m) views (each_map (Known f) (λ v. has_hit m v ≡ 0) views (λ v h. hit_none_of f m v.hit e h.1) k) in
      absurd (omega arith)

  below_is : (x n : ℕ) → x < n → once_below x n ≡ 1
  below_is x n h = grind (arith, nat_tests)

  pub first_hit : (count : ℕ) (least : Option ℕ) → DecidedBy count views least → IsFirstHit f count least
  first_hit count None d = λ x h. miss_if x (f x) refl (d x ∙ below_is x count h)
  first_hit count (Some m) d = (d.0, hit_if m (f m) refl d.1, λ x h. miss_if x (f x) refl (d.2 x h))

pub each_take : {X : Type 0} (P : X → Type 0) (n : ℕ) (xs : List X) → Each P xs → Each P (take n xs)
each_take P zero xs k = tt
each_take P (suc n) [] k = tt
each_take P (suc n) (x ∷ xs) k = (k.0, each_take P n xs k.1)

fresh_known : (f : ℕ → Bool) (n : ℕ) → Each (Known f) (replicate n fresh)
fresh_known f zero = tt
fresh_known f (suc n) = ((tt, tt), fresh_known f n)

pub run_first_hit : (count workers : ℕ) (es : List Event) (t : Machine) → 0 < workers → run_of (start_of count workers) es ≡ Some t → (f : ℕ → Bool) →
    IsFaithful f es → IsComplete t → IsFirstHit f count t.least
run_first_hit count workers es t some_one run f a all =
    subst (λ n. IsFirstHit f n t.least) (run_counts count workers es t run)
    (first_hit f t.views (run_knows f (start_of count workers) t es run a (fresh_known f workers)) t.count t.least
    (run_decides count workers es t some_one run all))
