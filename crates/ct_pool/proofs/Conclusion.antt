-- The decision from what the workers found.
-- Main lemmas: `begins` and the three `.._goes`, each turn of `conclude`'s loop keeps `Concluding`; `covers_of`, what the
-- passes have decided covers each index below the bound.
-- Each index below the bound is a miss of someone, so a slot that is still empty has its miss still to come.
use Rattle.ct_pool.proofs.Base.{◌≡◌, ◌≢◌, ℕ, zero, suc, ◌<◌, ◌≤◌, List, [], ◌∷◌, ◌++◌, length, Some, None, Option, refl, sym, ap, ◌∙◌, subst, arith}
use Rattle.ct_pool.proofs.Base.{slice_get, map, ◌==◌, replicate, nat_tests, length-replicate, sum_over, times, one_if, Each, sum_over-append}
use Rattle.ct_pool.proofs.Base.{each_here, each_there, IfSome, once_below, Sight, DecidedBy, some_and}
use Rattle.ct_pool.specs.declared.job.Outcome.{Outcome}
use Rattle.ct_pool.specs.declared.job.Outcome.TheVariants.{Hit}
use Rattle.ct_pool.specs.Found.{FoundValue, AreSlots, AreFound, LeftEmpty, Covers, numbers_of, hits_of, bound_of, key_of, key_found}

-- how often k is among the indices of a worker's misses
abbrev pub times_found : {M H : Type 0} → ℕ → FoundValue M H → ℕ
times_found k f = times k (numbers_of f.0)

-- the least hit is among those still to come, or found
abbrev pub BestIs : {M H : Type 0} → (ℕ → Outcome M H) → Option ℕ → Option H → List (FoundValue M H) → Type 0
BestIs outcome None best fs = Unit {0}
BestIs outcome (Some m) None fs = 1 ≤ sum_over (hits_of m) fs
BestIs outcome (Some m) (Some h) fs = outcome m ≡ Hit h

-- while what the workers found is put together: what is still to come fills the empty slots
pub record Concluding {M H : Type 0} (outcome : ℕ → Outcome M H) (count : ℕ) (least : Option ℕ) (slots : List (Option M)) (best : Option H)
    (fs : List (FoundValue M H)) : Type 0 where
  pub slots_are : AreSlots outcome slots
  pub size : length slots ≡ bound_of count least
  pub found : Each (AreFound outcome) fs
  pub left : (k : ℕ) → slice_get slots k ≡ Some None → 1 ≤ sum_over (times_found k) fs
  pub best_is : BestIs outcome least best fs

module _ {M H : Type 0} (outcome : ℕ → Outcome M H) where
  best_keep : (least : Option ℕ) (best : Option H) (fs fs' : List (FoundValue M H)) (f : FoundValue M H) → fs ≡ fs' ++ f ∷ [] →
      ((m : ℕ) → least ≡ Some m → hits_of m f ≡ 0) → BestIs outcome least best fs → BestIs outcome least best fs'
  best_keep None best fs fs' f e z b = tt
  best_keep (Some m) None fs fs' f e z b =
      let t = sum_over-append (hits_of m) fs' (f ∷ []) in let u = ap (sum_over (hits_of m)) e in let o = z m refl in omega arith
  best_keep (Some m) (Some h) fs fs' f e z b = b

  best_new : (least : Option ℕ) (i : ℕ) (v : H) (fs' : List (FoundValue M H)) → least ≡ Some i → outcome i ≡ Hit v → BestIs outcome least (Some v) fs'
  best_new None i v fs' e o = absurd (cc)
  best_new (Some m) i v fs' e o = let s : m ≡ i = cc in ap outcome s ∙ o

  module _ (count : ℕ) (least : Option ℕ) (slots slots' : List (Option M)) (best best' : Option H) (fs fs' : List (FoundValue M H))
      (ms : List (ℕ × M)) (hit : Option (ℕ × H)) (e : fs ≡ fs' ++ (ms, hit) ∷ []) (filled : AreSlots outcome slots')
      (len : length slots' ≡ length slots) (left : LeftEmpty ms slots slots') (k : Concluding outcome count least slots best fs) where
    here : AreFound outcome (ms, hit) × Each (AreFound outcome) fs'
    here = let both : Each (AreFound outcome) (fs' ++ (ms, hit) ∷ []) = subst (Each (AreFound outcome)) e k.found in
        ((each_there (AreFound outcome) fs' ((ms, hit) ∷ []) both).0, each_here (AreFound outcome) fs' ((ms, hit) ∷ []) both)

    pub the_found : AreFound outcome (ms, hit)
    the_found = here.0

    pub goes_on : BestIs outcome least best' fs' → Concluding outcome count least slots' best' fs'
    goes_on b = record {
      slots_are = filled;
      size = len ∙ k.size;
      found = here.1;
      left = λ j at.
          let r = left j at in
          let a : 1 ≤ sum_over (times_found j) fs = k.left j r.0 in
          let t = sum_over-append (times_found j) fs' ((ms, hit) ∷ []) in
          let u = ap (sum_over (times_found j)) e in
          let z : times_found j (ms, hit) ≡ 0 = r.1 in omega arith;
      best_is = b;
    }

  pub no_hit_goes : (count : ℕ) (least : Option ℕ) (slots slots' : List (Option M)) (best : Option H) (fs fs' : List (FoundValue M H))
      (ms : List (ℕ × M)) (hit : Option (ℕ × H)) → hit ≡ None → fs ≡ fs' ++ (ms, hit) ∷ [] → AreSlots outcome slots' → length slots' ≡ length slots →
      LeftEmpty ms slots slots' → Concluding outcome count least slots best fs → Concluding outcome count least slots' best fs'
  no_hit_goes count least slots slots' best fs fs' ms hit none e filled len left k =
      goes_on count least slots slots' best best fs fs' ms hit e filled len left k
      (best_keep least best fs fs' (ms, hit) e (λ m is. ap (λ (o : Option (ℕ × H)). hits_of m (ms, o)) none) k.best_is)

  pub other_hit_goes : (count : ℕ) (least : Option ℕ) (slots slots' : List (Option M)) (best : Option H) (fs fs' : List (FoundValue M H))
      (ms : List (ℕ × M)) (hit : Option (ℕ × H)) (i : ℕ) (v : H) → hit ≡ Some (i, v) → ¬ (least ≡ Some i) → fs ≡ fs' ++ (ms, hit) ∷ [] →
      AreSlots outcome slots' → length slots' ≡ length slots → LeftEmpty ms slots slots' → Concluding outcome count least slots best fs →
      Concluding outcome count least slots' best fs'
  other_hit_goes count least slots slots' best fs fs' ms hit i v is ne e filled len left k =
      goes_on count least slots slots' best best fs fs' ms hit e filled len left k
      (best_keep least best fs fs' (ms, hit) e (λ m at. ap (λ (o : Option (ℕ × H)). hits_of m (ms, o)) is
      ∙ apart i m (λ (q : i ≡ m). ne (at ∙ ap Some (sym q)))) k.best_is)
    where
      apart : (i m : ℕ) → i ≢ m → one_if (i == m) ≡ 0
      apart i m ne = grind (arith, nat_tests)

  pub hit_goes : (count : ℕ) (least : Option ℕ) (slots slots' : List (Option M)) (best : Option H) (fs fs' : List (FoundValue M H))
      (ms : List (ℕ × M)) (hit : Option (ℕ × H)) (i : ℕ) (v : H) → hit ≡ Some (i, v) → least ≡ Some i → fs ≡ fs' ++ (ms, hit) ∷ [] →
      AreSlots outcome slots' → length slots' ≡ length slots → LeftEmpty ms slots slots' → Concluding outcome count least slots best fs →
      Concluding outcome count least slots' (Some v) fs'
  hit_goes count least slots slots' best fs fs' ms hit i v is at e filled len left k =
      let f : AreFound outcome (ms, Some (i, v)) =
      subst (λ (o : Option (ℕ × H)). AreFound outcome (ms, o)) is
      (the_found count least slots slots' best (Some v) fs fs' ms hit e filled len left k) in
      goes_on count least slots slots' best (Some v) fs fs' ms hit e filled len left k (best_new least i v fs' at f.1)

  nones : (n k : ℕ) (x : Option M) → slice_get (replicate n None) k ≡ Some x → k < n
  nones zero k x e = absurd (cc)
  nones (suc n) zero x e = omega arith
  nones (suc n) (suc k) x e = let r = nones n k x e in omega arith

  none_some : (n k : ℕ) (m : M) → slice_get (replicate n None) k ≡ Some (Some m) → ⊥
  none_some zero k m e = cc
  none_some (suc n) zero m e = cc
  none_some (suc n) (suc k) m e = none_some n k m e

  pub begins : (count : ℕ) (least : Option ℕ) (slots : List (Option M)) (fs : List (FoundValue M H)) → slots ≡ replicate (bound_of count least) None →
      Each (AreFound outcome) fs → Covers (bound_of count least) least fs → Concluding outcome count least slots None fs
  begins count least slots fs is found covers = record {
    slots_are = λ k m at. absurd (none_some (bound_of count least) k m (ap (λ l. slice_get l k) (sym is) ∙ at));
    size = ap length is ∙ length-replicate (bound_of count least) None;
    found = found;
    left = λ k at. covers.0 k (nones (bound_of count least) k None (ap (λ l. slice_get l k) (sym is) ∙ at));
    best_is = best least covers.1;
  }
    where
      best : (l : Option ℕ) → Rattle.std.specs.Prelude.IfSome l (λ m. 1 ≤ sum_over (hits_of m) fs) → BestIs outcome l None fs
      best None h = tt
      best (Some m) h = h

-- the last one found meets its clauses
pub last_found : {M H : Type 0} (outcome : ℕ → Outcome M H) (count : ℕ) (least : Option ℕ) (slots : List (Option M)) (best : Option H)
    (fs fs' : List (FoundValue M H)) (f : FoundValue M H) → fs ≡ fs' ++ f ∷ [] → Concluding outcome count least slots best fs → AreFound outcome f
last_found outcome count least slots best fs fs' f e k = (each_there (AreFound outcome) fs' (f ∷ []) (subst (Each (AreFound outcome)) e k.found)).0

sum_over-map : {X Y : Type 0} (f : X → Y) (g : Y → ℕ) (xs : List X) → sum_over g (map f xs) ≡ sum_over (λ x. g (f x)) xs
sum_over-map f g [] = refl
sum_over-map f g (x ∷ xs) = omega (arith, sum_over-map f g xs)

same_totals : {X Y Z : Type 0} (f : X → Z) (h : Y → Z) (g : Z → ℕ) (xs : List X) (ys : List Y) → map f xs ≡ map h ys →
    sum_over (λ x. g (f x)) xs ≡ sum_over (λ y. g (h y)) ys
same_totals f h g xs ys e = sym (sum_over-map f g xs) ∙ ap (sum_over g) e ∙ sum_over-map h g ys

pub covers_from : {M H : Type 0} (count : ℕ) (least : Option ℕ) (views : List Sight) (fs : List (FoundValue M H)) →
    map key_found fs ≡ map key_of views → DecidedBy count views least → Covers (bound_of count least) least fs
covers_from {M = M} {H = H} count None views fs e d = (
  (λ k h. let t = same_totals (key_found {M = M} {H = H}) key_of (λ (p : List ℕ × Option ℕ). times k p.0) fs views e in
      let one : once_below k count ≡ 1 = is_one k count h in let q = d k in omega arith),
  tt,
)
  where
    is_one : (p n : ℕ) → p < n → once_below p n ≡ 1
    is_one p n h = grind (arith, nat_tests)
covers_from {M = M} {H = H} count (Some m) views fs e d = (
  (λ k h. let t = same_totals (key_found {M = M} {H = H}) key_of (λ (p : List ℕ × Option ℕ). times k p.0) fs views e in let q = d.2 k h in
      omega arith),
  (let t = same_totals (key_found {M = M} {H = H}) key_of (λ (p : List ℕ × Option ℕ). one_if (some_and p.1 (λ h. h == m))) fs views e in
      let q = d.1 in omega arith),
)

map_map : {X Y Z : Type 0} (f : X → Y) (g : Y → Z) (xs : List X) → map g (map f xs) ≡ map (λ x. g (f x)) xs
map_map f g [] = refl
map_map f g (x ∷ xs) = ap (λ l. g (f x) ∷ l) (map_map f g xs)

pub covers_of : {X M H : Type 0} (count : ℕ) (least : Option ℕ) (views : List Sight) (f : X → FoundValue M H) (xs : List X) →
    map (λ x. key_found (f x)) xs ≡ map key_of views → DecidedBy count views least → Covers (bound_of count least) least (map f xs)
covers_of count least views f xs e d = covers_from count least views (map f xs) (map_map f key_found xs ∙ e) d

-- the least hit is below the count
pub decided_within : (count n : ℕ) (least : Option ℕ) (views : List Sight) → n ≡ count → DecidedBy n views least → IfSome least (λ m. m < count)
decided_within count n None views same d = tt
decided_within count n (Some m) views same d = let below = d.0 in omega arith
