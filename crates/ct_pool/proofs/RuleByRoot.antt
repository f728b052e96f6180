-- The root's steps keep the rule: making a worker's seat, taking one back, and loading each word once all are back.
-- Main lemmas: `splits`, `merges`, `tells_next`, `tells_least`; the forms that end in `_key`
-- are what the calls of `Claims` cite.
-- The machine's `Kept` names no order of the views, so views that move from a seat to the root's list keep it (`kept_by`).
use Rattle.ct_pool.proofs.Base.{◌≡◌, ℕ, zero, suc, ◌+◌, ◌<◌, ◌≤◌, List, [], ◌∷◌, ◌++◌, length, set, Some, None, Option, refl, sym, ap, ◌∙◌, subst}
use Rattle.ct_pool.proofs.Base.{arith, length-append, append-nil, append_assoc, slice_index, IfSome, State, Me, Allows, Splits, Joins, Sight}
use Rattle.ct_pool.proofs.Base.{sum_over, Each, has_hit, Kept, Fits, fresh, sum_over-append, each_append, each_here, each_there}
use Rattle.atomic_table.specs.Table.Act.{keeps as holds_still}
use Rattle.atomic_table.proofs.Lists.{set_again}
use Rattle.ct_pool.specs.declared.note.Note.{Note}
use Rattle.ct_pool.specs.Notes.{root_note, live_note, spent_note, sights_of, flat, word_of, least_of}
use Rattle.ct_pool.specs.ClaimRule.{IsRuled, AllBack}
use Rattle.ct_pool.proofs.RuleByWorkers.{told_least, word0, word1}
use mathlib.Core.Option.{some, some-injective, some-ne-none}
use lib.ListN.{get_elem?}

flat-append : (xs ys : List Note) → flat (xs ++ ys) ≡ flat xs ++ flat ys
flat-append [] ys = refl
flat-append (x ∷ xs) ys = ap (λ l. sights_of x ++ l) (flat-append xs ys) ∙ sym (append_assoc (sights_of x) (flat xs) (flat ys))

if_some : (P Q : ℕ → Type 0) (o : Option ℕ) → ((x : ℕ) → P x → Q x) → IfSome o P → IfSome o Q
if_some P Q None f h = tt
if_some P Q (Some x) f h = f x h

fresh_fits : (count : ℕ) (least : Option ℕ) → Fits count least fresh
fresh_fits count least =
    record { claims_are = refl; refuted_below = tt; looked_below = λ e. absurd (cc); hit_is = tt; seen_is = tt; stopped_is = λ e. absurd (cc) }

-- the views in another order, or with a fresh one
kept_by : (count next : ℕ) (least : Option ℕ) (xs ys : List Sight) → ((f : Sight → ℕ) → f fresh ≡ 0 → sum_over f ys ≡ sum_over f xs) →
    (((P : Sight → Type 0) → P fresh → Each P xs → Each P ys)) → Kept count next least xs → Kept count next least ys
kept_by count next least xs ys same each k = record {
  claimed = λ h. same (λ v. sum_over h v.claims) refl ∙ k.claimed h;
  fits = each (Fits count least) (fresh_fits count least) k.fits;
  least_hit = if_some (λ m. 1 ≤ sum_over (has_hit m) xs) (λ m. 1 ≤ sum_over (has_hit m) ys) least (λ m h. let s = same (has_hit m) refl in
      omega arith) k.least_hit;
}

set_root : (views : List Note) (count made made' : ℕ) (joined : List Sight) → get_elem? views 0 ≡ some (root_note count made joined) →
    (flat (set views 0 (root_note count made' joined)) ≡ flat views) ×
    (get_elem? (set views 0 (root_note count made' joined)) 0 ≡ some (root_note count made' joined))
set_root [] count made made' joined e = absurd (some-ne-none _ (sym e))
set_root (n ∷ ns) count made made' joined e =
    let same : n ≡ root_note count made joined = some-injective n _ e in (ap (λ m. sights_of m ++ flat ns) (sym same), refl)

at_longer : (xs ys : List Note) (n : Note) → get_elem? xs 0 ≡ some n → get_elem? (xs ++ ys) 0 ≡ some n
at_longer [] ys n e = absurd (some-ne-none n (sym e))
at_longer (x ∷ xs) ys n e = e

-- one more worker
pub splits : {S : Type 0} (count id made : ℕ) (joined : List Sight) → id ≡ 0 → made < 16 →
    Splits {S = S} {V = Note} (IsRuled count) id (root_note count made joined) (root_note count (made + 1) joined) (live_note fresh)
splits count id made joined id_is room s r at =
    let at0 : get_elem? s.views 0 ≡ some (root_note count made joined) = ap (get_elem? s.views) (sym id_is) ∙ at in
    let e : root_note count r.made r.joined ≡ root_note count made joined = some-injective _ _ (sym r.root ∙ at0) in
    let made_is : r.made ≡ made = ap (λ (n : Note). n.made) e in
    let g = set_root s.views count made (made + 1) joined at0 in
    let views' = set s.views id (root_note count (made + 1) joined) in
    let to0 : views' ≡ set s.views 0 (root_note count (made + 1) joined) = ap (λ k. set s.views k (root_note count (made + 1) joined)) id_is in
    let flat_is : flat (views' ++ live_note fresh ∷ []) ≡ flat s.views ++ fresh ∷ [] =
    flat-append views' (live_note fresh ∷ []) ∙ ap (λ l. l ++ fresh ∷ []) (ap flat to0 ∙ g.0) in
    let size = r.size in
    record {
      next = r.next;
      least = r.least;
      made = made + 1;
      joined = joined;
      words = r.words;
      kept = subst (Kept count r.next r.least) (sym flat_is)
          (kept_by count r.next r.least (flat s.views) (flat s.views ++ fresh ∷ [])
          (λ f z. let t = sum_over-append f (flat s.views) (fresh ∷ []) in omega arith)
          (λ P p e. each_append P (flat s.views) (fresh ∷ []) e (p, tt)) r.kept);
      root = at_longer views' (live_note fresh ∷ []) _ (ap (λ l. get_elem? l 0) to0 ∙ g.1);
      size = let n = length-append (flat s.views) (fresh ∷ []) in let q = ap length flat_is in omega arith;
      most = omega arith;
      small = r.small;
    }

-- a worker's view leaves its seat
module _ (f : Sight → ℕ) where
  taken : (ns : List Note) (j : ℕ) (u : Sight) → get_elem? ns j ≡ some (live_note u) →
      sum_over f (flat (set ns j spent_note)) + f u ≡ sum_over f (flat ns)
  taken [] j u e = absurd (some-ne-none _ (sym e))
  taken (n ∷ ns) zero u e = let same : n ≡ live_note u = some-injective n _ e in
      let q : sum_over f (flat (n ∷ ns)) ≡ sum_over f (u ∷ flat ns) = ap (λ m. sum_over f (sights_of m ++ flat ns)) same in omega arith
  taken (n ∷ ns) (suc j) u e = let a = sum_over-append f (sights_of n) (flat ns) in
      let b = sum_over-append f (sights_of n) (flat (set ns j spent_note)) in let c = taken ns j u e in omega arith

module _ (P : Sight → Type 0) where
  left_each : (ns : List Note) (j : ℕ) (u : Sight) → get_elem? ns j ≡ some (live_note u) → Each P (flat ns) →
      P u × Each P (flat (set ns j spent_note))
  left_each [] j u e k = absurd (some-ne-none _ (sym e))
  left_each (n ∷ ns) zero u e k = let same : n ≡ live_note u = some-injective n _ e in subst (λ m. Each P (sights_of m ++ flat ns)) same k
  left_each (n ∷ ns) (suc j) u e k =
      let r = left_each ns j u e (each_there P (sights_of n) (flat ns) k) in
      (r.0, each_append P (sights_of n) (flat (set ns j spent_note)) (each_here P (sights_of n) (flat ns) k) r.1)

-- the root's list takes it in
module _ (count made : ℕ) (joined : List Sight) (u : Sight) where
  abbrev more : Note
  more = root_note count made (joined ++ u ∷ [])

  joined_total : (f : Sight → ℕ) (ns : List Note) (j : ℕ) → get_elem? ns j ≡ some (live_note u) →
      sum_over f (flat (more ∷ set ns j spent_note)) ≡ sum_over f (flat (root_note count made joined ∷ ns))
  joined_total f ns j e =
      let a = sum_over-append f ((joined ++ u ∷ []) ++ []) (flat (set ns j spent_note)) in
      let b = sum_over-append f (joined ++ []) (flat ns) in
      let c = sum_over-append f (joined ++ u ∷ []) [] in
      let d = sum_over-append f joined (u ∷ []) in
      let g = sum_over-append f joined [] in
      let t = taken f ns j u e in omega arith

  joined_each : (P : Sight → Type 0) (ns : List Note) (j : ℕ) → get_elem? ns j ≡ some (live_note u) →
      Each P (flat (root_note count made joined ∷ ns)) → Each P (flat (more ∷ set ns j spent_note))
  joined_each P ns j e k =
      let r = left_each P ns j u e (each_there P (joined ++ []) (flat ns) k) in
      let front = each_here P joined [] (each_here P (joined ++ []) (flat ns) k) in
      each_append P ((joined ++ u ∷ []) ++ []) (flat (set ns j spent_note))
      (each_append P (joined ++ u ∷ []) [] (each_append P joined (u ∷ []) front (r.0, tt)) tt) r.1

-- where the root and the worker stand
pub record Apart (count made : ℕ) (joined : List Sight) (u : Sight) (views : List Note) (other : ℕ) : Type 0 where
  pub rest : List Note
  pub at : ℕ
  pub views_are : views ≡ root_note count made joined ∷ rest
  pub other_is : other ≡ suc at
  pub there : get_elem? rest at ≡ some (live_note u)

apart_at : (count made : ℕ) (joined : List Sight) (u : Sight) (b : Note) (views : List Note) (other : ℕ) →
    get_elem? views 0 ≡ some (root_note count made joined) → ¬ (other ≡ 0) → get_elem? (set views 0 b) other ≡ some (live_note u) →
    Apart count made joined u views other
apart_at count made joined u b [] other e n t = absurd (some-ne-none _ (sym e))
apart_at count made joined u b (x ∷ xs) zero e n t = absurd (n refl)
apart_at count made joined u b (x ∷ xs) (suc j) e n t =
    record { rest = xs; at = j; views_are = ap (λ y. y ∷ xs) (some-injective x _ e); other_is = refl; there = t }

-- one worker comes back
pub merges : {S : Type 0} (count id made other : ℕ) (joined : List Sight) (u : Sight) → id ≡ 0 →
    Joins {S = S} {V = Note} (IsRuled count) id (root_note count made joined) other (live_note u) (root_note count made (joined ++ u ∷ [])) spent_note
merges count id made other joined u id_is s r at apart there =
    let b = root_note count made (joined ++ u ∷ []) in
    let at0 : get_elem? s.views 0 ≡ some (root_note count made joined) = ap (get_elem? s.views) (sym id_is) ∙ at in
    let there0 : get_elem? (set s.views 0 b) other ≡ some (live_note u) = ap (λ k. get_elem? (set s.views k b) other) (sym id_is) ∙ there in
    let a = apart_at count made joined u b s.views other at0 (λ e. apart (e ∙ sym id_is)) there0 in
    let e : root_note count r.made r.joined ≡ root_note count made joined = some-injective _ _ (sym r.root ∙ at0) in
    let made_is : r.made ≡ made = ap (λ (n : Note). n.made) e in
    let now : set (set s.views id b) other spent_note ≡ b ∷ set a.rest a.at spent_note =
    (λ i. set (set (a.views_are i) (id_is i) b) (a.other_is i) spent_note) in
    let was : flat s.views ≡ flat (root_note count made joined ∷ a.rest) = ap flat a.views_are in
    let same : (f : Sight → ℕ) → sum_over f (flat (set (set s.views id b) other spent_note)) ≡ sum_over f (flat s.views) =
    (λ f. ap (λ l. sum_over f (flat l)) now ∙ joined_total count made joined u f a.rest a.at a.there ∙ sym (ap (sum_over f) was)) in
    record {
      next = r.next;
      least = r.least;
      made = made;
      joined = joined ++ u ∷ [];
      words = r.words;
      kept = kept_by count r.next r.least (flat s.views) (flat (set (set s.views id b) other spent_note)) (λ f z. same f)
          (λ P p k. subst (λ l. Each P (flat l)) (sym now) (joined_each count made joined u P a.rest a.at a.there (subst (Each P) was k))) r.kept;
      root = ap (λ l. get_elem? l 0) now;
      size = sym (lengths (flat (set (set s.views id b) other spent_note))) ∙ same (λ v. 1) ∙ lengths (flat s.views) ∙ r.size ∙ made_is;
      most = subst (λ m. m ≤ 16) made_is r.most;
      small = r.small;
    }
  where
    lengths : (xs : List Sight) → sum_over (λ v. 1) xs ≡ length xs
    lengths [] = refl
    lengths (x ∷ xs) = omega (arith, lengths xs)

nothing : {X : Type 0} (xs : List X) → length xs ≡ 0 → xs ≡ []
nothing [] e = refl
nothing (x ∷ xs) e = absurd (omega arith)

-- once all came back, the root's list has all views
all_back : (views : List Note) (count made : ℕ) (joined : List Sight) → get_elem? views 0 ≡ some (root_note count made joined) →
    length (flat views) ≡ made → made ≡ length joined → flat views ≡ joined
all_back [] count made joined e size back = absurd (some-ne-none _ (sym e))
all_back (n ∷ ns) count made joined e size back =
    let same : n ≡ root_note count made joined = some-injective n _ e in
    let f : flat (n ∷ ns) ≡ (joined ++ []) ++ flat ns = ap (λ m. sights_of m ++ flat ns) same in
    let l = ap length f in
    let p = length-append (joined ++ []) (flat ns) in
    let q = length-append joined [] in
    let none : flat ns ≡ [] = nothing (flat ns) (omega arith) in
    f ∙ ap (λ l. (joined ++ []) ++ l) none ∙ append-nil (joined ++ []) ∙ append-nil joined

-- the rule where nothing changed
stays : {S : Type 0} (count id n word : ℕ) (v : Note) (s : State S Note) (r : IsRuled count s) → get_elem? s.views id ≡ some v →
    set s.words word n ≡ s.words → IsRuled {S = S} count (record { words = set s.words word n; homes = s.homes; views = set s.views id v })
stays count id n word v s r at words_are =
    let views_are : set s.views id v ≡ s.views = set_again s.views id v at in record {
      next = r.next;
      least = r.least;
      made = r.made;
      joined = r.joined;
      words = words_are ∙ r.words;
      kept = subst (λ l. Kept count r.next r.least (flat l)) (sym views_are) r.kept;
      root = ap (λ l. get_elem? l 0) views_are ∙ r.root;
      size = ap (λ l. length (flat l)) views_are ∙ r.size;
      most = r.most;
      small = r.small;
    }

back : {S : Type 0} (count made id : ℕ) (joined : List Sight) (s : State S Note) (r : IsRuled count s) → id ≡ 0 →
    get_elem? s.views id ≡ some (root_note count made joined) → made ≡ length joined → Kept count r.next r.least joined
back count made id joined s r id_is at full =
    let at0 : get_elem? s.views 0 ≡ some (root_note count made joined) = ap (get_elem? s.views) (sym id_is) ∙ at in
    let e : root_note count r.made r.joined ≡ root_note count made joined = some-injective _ _ (sym r.root ∙ at0) in
    let made_is : r.made ≡ made = ap (λ (n : Note). n.made) e in
    subst (Kept count r.next r.least) (all_back s.views count made joined at0 (r.size ∙ made_is) full) r.kept

pub tells_next : {S : Type 0} (count slots id made : ℕ) (joined : List Sight) → id ≡ 0
    → Allows {S = S} {V = Note} (IsRuled count) slots id (root_note count made joined, []) 0 (λ n. n)
    (λ n w. (w ≡ (root_note count made joined, [])) × (made ≡ length joined → (least : Option ℕ) × Kept count n least joined))
tells_next count slots id made joined id_is s r len at fits =
    let n = slice_index s.words 0 in
    let is : n ≡ r.next = word0 s.words r.next (word_of r.least) r.words in
    let words_are : set s.words 0 n ≡ s.words = ap (λ l. set l 0 n) r.words ∙ ap (λ k. k ∷ word_of r.least ∷ []) is ∙ sym r.words in (
      root_note count made joined,
      holds_still,
      tt,
      stays count id n 0 (root_note count made joined) s r at words_are,
      (refl, λ full. (r.least, subst (λ k. Kept count k r.least joined) (sym is) (back count made id joined s r id_is at full))),
    )

pub tells_least : {S : Type 0} (count slots id made : ℕ) (joined : List Sight) → id ≡ 0
    → Allows {S = S} {V = Note} (IsRuled count) slots id (root_note count made joined, []) 1 (λ n. n)
    (λ n w. (w ≡ (root_note count made joined, [])) × (made ≡ length joined → (next : ℕ) × Kept count next (least_of n) joined))
tells_least count slots id made joined id_is s r len at fits =
    let n = slice_index s.words 1 in
    let is : n ≡ word_of r.least = word1 s.words r.next (word_of r.least) r.words in
    let least_is : least_of n ≡ r.least = ap least_of is ∙ told_least count r.next r.least (flat s.views) r.small r.kept in
    let words_are : set s.words 1 n ≡ s.words = ap (λ l. set l 1 n) r.words ∙ ap (λ k. r.next ∷ k ∷ []) is ∙ sym r.words in (
      root_note count made joined,
      holds_still,
      tt,
      stays count id n 1 (root_note count made joined) s r at words_are,
      (refl, λ full. (r.next, subst (λ k. Kept count r.next k joined) (sym least_is) (back count made id joined s r id_is at full))),
    )

-- the same, as the calls ask it
pub splits_as : {S : Type 0} (count id : ℕ) (v : Note) → v ≡ root_note count v.made v.joined → id ≡ 0 → v.made < 16 →
    Splits {S = S} {V = Note} (IsRuled count) id v (root_note v.count (v.made + 1) v.joined) (live_note fresh)
splits_as {S = S} count id v is id_is room =
    let P : Note → Type 0 = λ m. Splits {S = S} {V = Note} (IsRuled count) id m (root_note m.count (m.made + 1) m.joined) (live_note fresh) in
    subst P (sym is) (splits {S = S} count id v.made v.joined id_is room)

pub merges_as : {S : Type 0} (count id other : ℕ) (v w : Note) → v ≡ root_note count v.made v.joined → w ≡ live_note w.sight → id ≡ 0 →
    Joins {S = S} {V = Note} (IsRuled count) id v other w (root_note v.count v.made (v.joined ++ w.sight ∷ [])) spent_note
merges_as {S = S} count id other v w is is' id_is =
    let P : Note → Note → Type 0 =
    λ m n. Joins {S = S} {V = Note} (IsRuled count) id m other n (root_note m.count m.made (m.joined ++ n.sight ∷ [])) spent_note in
    subst (λ m. P m w) (sym is) (subst (P (root_note count v.made v.joined)) (sym is') (merges {S = S} count id v.made other v.joined w.sight id_is))

pub tells_next_as : {S : Type 0} (count slots id : ℕ) (me : Me S Note) → me ≡ (root_note count me.0.made me.0.joined, []) → id ≡ 0 →
    Allows {S = S} {V = Note} (IsRuled count) slots id me 0 (λ n. n)
    (λ n w. (w ≡ me) × (AllBack me.0 → (least : Option ℕ) × Kept me.0.count n least me.0.joined))
tells_next_as {S = S} count slots id me is id_is =
    let P : Me S Note → Type 0 =
    λ m. Allows {S = S} {V = Note} (IsRuled count) slots id m 0 (λ n. n)
    (λ n w. (w ≡ m) × (AllBack m.0 → (least : Option ℕ) × Kept m.0.count n least m.0.joined)) in
    subst P (sym is) (tells_next {S = S} count slots id me.0.made me.0.joined id_is)

pub tells_least_as : {S : Type 0} (count slots id : ℕ) (me : Me S Note) → me ≡ (root_note count me.0.made me.0.joined, []) → id ≡ 0 →
    Allows {S = S} {V = Note} (IsRuled count) slots id me 1 (λ n. n)
    (λ n w. (w ≡ me) × (AllBack me.0 → (next : ℕ) × Kept me.0.count next (least_of n) me.0.joined))
tells_least_as {S = S} count slots id me is id_is =
    let P : Me S Note → Type 0 =
    λ m. Allows {S = S} {V = Note} (IsRuled count) slots id m 1 (λ n. n)
    (λ n w. (w ≡ m) × (AllBack m.0 → (next : ℕ) × Kept m.0.count next (least_of n) m.0.joined)) in
    subst P (sym is) (tells_least {S = S} count slots id me.0.made me.0.joined id_is)

pub splits_key : {S : Type 0} (key id : ℕ) (me : Me S Note) → me.0.count ≡ key → me ≡ (root_note me.0.count me.0.made me.0.joined, []) → id ≡ 0 →
    me.0.made < 16 → Splits {S = S} {V = Note} (IsRuled key) id me.0 (root_note me.0.count (me.0.made + 1) me.0.joined) (live_note fresh)
splits_key {S = S} key id me k is id_is room =
    subst (λ c. Splits {S = S} {V = Note} (IsRuled c) id me.0 (root_note me.0.count (me.0.made + 1) me.0.joined) (live_note fresh)) k
    (splits_as {S = S} me.0.count id me.0 (ap (λ (m : Me S Note). m.0) is) id_is room)

pub merges_key : {S : Type 0} (key id other : ℕ) (me you : Me S Note) → me.0.count ≡ key → me ≡ (root_note me.0.count me.0.made me.0.joined, []) →
    you ≡ (live_note you.0.sight, []) → id ≡ 0 →
    Joins {S = S} {V = Note} (IsRuled key) id me.0 other you.0 (root_note me.0.count me.0.made (me.0.joined ++ you.0.sight ∷ [])) spent_note
merges_key {S = S} key id other me you k is is' id_is =
    subst (λ c. Joins {S = S} {V = Note} (IsRuled c) id me.0 other you.0
    (root_note me.0.count me.0.made (me.0.joined ++ you.0.sight ∷ [])) spent_note) k
    (merges_as {S = S} me.0.count id other me.0 you.0 (ap (λ (m : Me S Note). m.0) is) (ap (λ (m : Me S Note). m.0) is') id_is)

pub next_key : {S : Type 0} (key slots id : ℕ) (me : Me S Note) → me.0.count ≡ key → me ≡ (root_note me.0.count me.0.made me.0.joined, []) → id ≡ 0 →
    Allows {S = S} {V = Note} (IsRuled key) slots id me 0 (λ n. n)
    (λ n w. (w ≡ me) × (AllBack me.0 → (least : Option ℕ) × Kept me.0.count n least me.0.joined))
next_key {S = S} key slots id me k is id_is =
    subst (λ c. Allows {S = S} {V = Note} (IsRuled c) slots id me 0 (λ n. n)
    (λ n w. (w ≡ me) × (AllBack me.0 → (least : Option ℕ) × Kept me.0.count n least me.0.joined))) k
    (tells_next_as {S = S} me.0.count slots id me is id_is)

pub least_key : {S : Type 0} (key slots id : ℕ) (me : Me S Note) → me.0.count ≡ key → me ≡ (root_note me.0.count me.0.made me.0.joined, []) → id ≡ 0 →
    Allows {S = S} {V = Note} (IsRuled key) slots id me 1 (λ n. n)
    (λ n w. (w ≡ me) × (AllBack me.0 → (next : ℕ) × Kept me.0.count next (least_of n) me.0.joined))
least_key {S = S} key slots id me k is id_is =
    subst (λ c. Allows {S = S} {V = Note} (IsRuled c) slots id me 1 (λ n. n)
    (λ n w. (w ≡ me) × (AllBack me.0 → (next : ℕ) × Kept me.0.count next (least_of n) me.0.joined))) k
    (tells_least_as {S = S} me.0.count slots id me is id_is)
