-- Where a worker's view stands in the list of all views, and how far the first word goes.
-- Main lemmas: `stands`, a live seat's view has a place there, and a change at the seat is a change at that place;
-- `next_bound`, at most one claim of each worker is at or past the count. `RuleByWorkers` cites both, `Gathered` the second.
use Rattle.ct_pool.proofs.Base.{◌≡◌, ◌≢◌, ℕ, zero, suc, ◌+◌, ◌<◌, ◌≤◌, List, [], ◌∷◌, ◌++◌, length, set, Some, None, Option, Bool, true, false, refl}
use Rattle.ct_pool.proofs.Base.{sym, ap, ◌∙◌, subst, arith, slice_get, nat_le, nat_tests, Sight, sum_over, one_if, sum_below, Each, Kept, Fits}
use Rattle.ct_pool.proofs.Base.{list_of, sum_over-append, sum_over-below, each_map}
use Rattle.atomic_table.proofs.Lists.{set_else}
use Rattle.ct_pool.specs.declared.note.Note.{Note}
use Rattle.ct_pool.specs.Notes.{root_note, live_note, sights_of, flat}
use mathlib.Core.Option.{some, some-injective, some-ne-none}
use lib.ListN.{get_elem?}

module _ {X : Type 0} where
  get_past : (xs ys : List X) (k : ℕ) (v : X) → slice_get ys k ≡ Some v → slice_get (xs ++ ys) (length xs + k) ≡ Some v
  get_past [] ys k v e = let z : 0 + k ≡ k = omega arith in ap (slice_get ys) z ∙ e
  get_past (x ∷ xs) ys k v e = let z : suc (length xs) + k ≡ suc (length xs + k) = omega arith in
      ap (slice_get (x ∷ (xs ++ ys))) z ∙ get_past xs ys k v e

  set_past : (xs ys : List X) (k : ℕ) (u : X) → set (xs ++ ys) (length xs + k) u ≡ xs ++ set ys k u
  set_past [] ys k u = let z : 0 + k ≡ k = omega arith in ap (λ n. set ys n u) z
  set_past (x ∷ xs) ys k u = let z : suc (length xs) + k ≡ suc (length xs + k) = omega arith in
      ap (λ n. set (x ∷ (xs ++ ys)) n u) z ∙ ap (λ l. x ∷ l) (set_past xs ys k u)

  pub get_set : (xs : List X) (k : ℕ) (v u : X) → slice_get xs k ≡ Some v → slice_get (set xs k u) k ≡ Some u
  get_set [] k v u e = absurd (cc)
  get_set (x ∷ xs) zero v u e = refl
  get_set (x ∷ xs) (suc k) v u e = get_set xs k v u e

  pub set_twice : (xs : List X) (k : ℕ) (v u : X) → set (set xs k v) k u ≡ set xs k u
  set_twice [] k v u = refl
  set_twice (x ∷ xs) zero v u = refl
  set_twice (x ∷ xs) (suc k) v u = ap (λ l. x ∷ l) (set_twice xs k v u)

-- the place of a worker's view, and what a change there does
pub record Stands (views : List Note) (id : ℕ) (v : Sight) (k : ℕ) : Type 0 where
  pub here : slice_get (flat views) k ≡ Some v
  pub changed : (u : Sight) → flat (set views id (live_note u)) ≡ set (flat views) k u

pub stands : (views : List Note) (id : ℕ) (v : Sight) → get_elem? views id ≡ some (live_note v) → (k : ℕ) × Stands views id v k
stands [] id v e = absurd (some-ne-none (live_note v) (sym e))
stands (n ∷ ns) zero v e =
    let same : n ≡ live_note v = some-injective n (live_note v) e in
    (0, subst (λ m. Stands (m ∷ ns) 0 v 0) (sym same) (record { here = refl; changed = λ u. refl }))
stands (n ∷ ns) (suc id) v e =
    let r = stands ns id v e in (
      length (sights_of n) + r.0,
      record {
        here = get_past (sights_of n) (flat ns) r.0 v r.1.here;
        changed = λ u. ap (λ l. sights_of n ++ l) (r.1.changed u)
            ∙ sym (set_past (sights_of n) (flat ns) r.0 u);
      },
    )

-- a worker is not the root
pub not_root : (views : List Note) (id count made : ℕ) (joined : List Sight) (v : Sight) → get_elem? views 0 ≡ some (root_note count made joined) →
    get_elem? views id ≡ some (live_note v) → id ≢ 0
not_root views id count made joined v root at is =
    let a : get_elem? views 0 ≡ some (live_note v) = ap (get_elem? views) (sym is) ∙ at in
    let b : some (root_note count made joined) ≡ some (live_note v) = sym root ∙ a in
    let c : root_note count made joined ≡ live_note v = some-injective _ _ b in
    let d : false ≡ true = ap (λ (n : Note). n.live) c in absurd (cc)

pub root_stays : (views : List Note) (id count made : ℕ) (joined : List Sight) (v : Sight) (w : Note) →
    get_elem? views 0 ≡ some (root_note count made joined) → get_elem? views id ≡ some (live_note v) →
    get_elem? (set views id w) 0 ≡ some (root_note count made joined)
root_stays views id count made joined v w root at = set_else views id 0 w (λ e. not_root views id count made joined v root at (sym e)) ∙ root

-- each worker claims at most one number past the count, so the word stays small
past_count : (count : ℕ) (n : ℕ) → n ≤ count + sum_below (λ x. one_if (nat_le count x)) n
past_count count zero = omega arith
past_count count (suc n) = one (one_if (nat_le count n)) (past_count count n) refl
  where
    one : (k : ℕ) → n ≤ count + sum_below (λ x. one_if (nat_le count x)) n → one_if (nat_le count n) ≡ k →
        suc n ≤ count + (sum_below (λ x. one_if (nat_le count x)) n + one_if (nat_le count n))
    one k h e = step n count (sum_below (λ x. one_if (nat_le count x)) n) h
      where
        step : (n count b : ℕ) → n ≤ count + b → suc n ≤ count + (b + one_if (nat_le count n))
        step n count b h = grind (arith, nat_tests)

none_past : (count : ℕ) (xs : List ℕ) → Each (λ x. x < count) xs → sum_over (λ x. one_if (nat_le count x)) xs ≡ 0
none_past count [] a = refl
none_past count (x ∷ xs) a = let z : one_if (nat_le count x) ≡ 0 = below count x a.0 in omega (arith, none_past count xs a.1)
  where
    below : (count x : ℕ) → x < count → one_if (nat_le count x) ≡ 0
    below count x h = grind (arith, nat_tests)

at_most_one : (h : ℕ → Bool) (o : Option ℕ) → sum_over (λ x. one_if (h x)) (list_of o) ≤ 1
at_most_one h None = omega arith
at_most_one h (Some x) = let z = one_at (h x) in omega arith
  where
    one_at : (b : Bool) → one_if b ≤ 1
    one_at true = omega arith
    one_at false = omega arith

one_past : (count : ℕ) (least : Option ℕ) (v : Sight) → Fits count least v → sum_over (λ x. one_if (nat_le count x)) v.claims ≤ 1
one_past count least v f =
    let a = ap (sum_over (λ x. one_if (nat_le count x))) f.claims_are in
    let b = sum_over-append (λ x. one_if (nat_le count x)) v.refuted (list_of v.pending) in
    let c = none_past count v.refuted f.refuted_below in
    let d = at_most_one (λ x. nat_le count x) v.pending in omega arith

ones : (views : List Sight) → sum_over (λ v. 1) views ≡ length views
ones [] = refl
ones (v ∷ vs) = omega (arith, ones vs)

pub next_bound : (count next : ℕ) (least : Option ℕ) (views : List Sight) → Kept count next least views → next ≤ count + length views
next_bound count next least views k =
    let a = past_count count next in
    let b = k.claimed (λ x. one_if (nat_le count x)) in
    let c = sum_over-below (λ v. sum_over (λ x. one_if (nat_le count x)) v.claims) (λ v. 1) views
    (each_map (Fits count least) (λ v. sum_over (λ x. one_if (nat_le count x)) v.claims ≤ 1) views (λ v f. one_past count least v f) k.fits)
    in
    let d = ones views in omega arith
