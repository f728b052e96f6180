-- What holds along a list of events: each legal step keeps `Kept`, and so does the run.
-- Main lemma: `run_decides`, at the end, which the clause `decided` of `replay` cites: a complete run has decided.
-- A step is legal or none (`step_is`, `step_none`); a run is its steps (`run_step`, `run_push`), and what each step
-- keeps the run keeps (`run_keeps`).
use Rattle.std.proofs.Common.{◌≡◌, ℕ, zero, suc, ◌+◌, ◌<◌, ◌≤◌, List, [], ◌∷◌, ◌++◌, length, get_or, set, Some, None, Option, Bool, true, false, refl}
use Rattle.std.proofs.Common.{sym, ap, ◌∙◌, subst, arith, take, length-set}
use Rattle.std.specs.Prelude.{slice_get, if◌then◌else◌, replicate}
use Rattle.std.proofs.lemmas.List.{length-replicate, take_more}
use Rattle.std.proofs.lemmas.Option.{slice_get_read}
use Rattle.ct_core.specs.declared.event.Event.{Event}
use Rattle.ct_core.specs.declared.event.Event.TheVariants.{Claim, Look, Refuse, Hit, Stop}
use Rattle.ct_core.specs.Machine.{Sight, Machine, fresh, start_of}
use Rattle.ct_core.specs.Steps.{is_legal, view_after, machine_after, step_at, step_of, worker_of, next_after, least_after}
use Rattle.ct_core.specs.Runs.{run_of}
use Rattle.ct_core.specs.Counting.{sum_over, Each}
use Rattle.ct_core.specs.CompleteList.{has_ended, IsComplete, Decided}
use Rattle.ct_core.specs.Kept.{Kept, Fits}
use Rattle.ct_core.proofs.EventsKeep.{keeps}
use Rattle.ct_core.proofs.EachNumberOnce.{decides, each_both, ended_once_stopped}

pub step_is : (s : Machine) (e : Event) (v : Sight) → slice_get s.views (worker_of e) ≡ Some v → is_legal s.count v e ≡ true →
    step_of s e ≡ Some (machine_after s (worker_of e) v e)
step_is s e v at legal = ap (λ o. step_at s o e) at ∙ ap (λ b. if b then Some (machine_after s (worker_of e) v e) else None) legal

pub step_none : (s : Machine) (e : Event) (v : Sight) → slice_get s.views (worker_of e) ≡ Some v → is_legal s.count v e ≡ false → step_of s e ≡ None
step_none s e v at legal = ap (λ o. step_at s o e) at ∙ ap (λ b. if b then Some (machine_after s (worker_of e) v e) else None) legal

pub refuses : (s : Machine) (e : Event) (v : Sight) (w : ℕ) → w ≡ worker_of e → w < length s.views → v ≡ get_or s.views w v →
    false ≡ is_legal s.count v e → step_of s e ≡ None
refuses s e v w is within at legal =
    step_none s e v (ap (slice_get s.views) (sym is) ∙ slice_get_read s.views (length s.views) w v refl within at) (sym legal)

same_item : {X : Type 0} (xs : List X) (w : ℕ) (v u : X) → w < length xs → v ≡ get_or xs w v → u ≡ get_or xs w u → v ≡ u
same_item xs w v u within a b =
    let p = slice_get_read xs (length xs) w v refl within a in
    let q = slice_get_read xs (length xs) w u refl within b in
    let e : Some v ≡ Some u = sym p ∙ q in cc

pub accepts : (s : Machine) (e : Event) (v v' u : Sight) (w n : ℕ) (l : Option ℕ) → w ≡ worker_of e → w < length s.views → v ≡ get_or s.views w v →
    v' ≡ get_or s.views w v' → true ≡ is_legal s.count v e
    → n ≡ next_after s.next e → l ≡ least_after s.least e → u ≡ view_after s.next s.least v' e →
    step_of s e ≡ Some (record { count = s.count; next = n; least = l; views = set s.views w u })
accepts s e v v' u w n l is within at at' legal n_is l_is u_is =
    let same = same_item s.views w v' v within at' at in
    let u_is' : u ≡ view_after s.next s.least v e = u_is ∙ ap (λ x. view_after s.next s.least x e) same in
    step_is s e v (ap (slice_get s.views) (sym is) ∙ slice_get_read s.views (length s.views) w v refl within at) (sym legal)
    ∙ (λ i. Some (record { count = s.count; next = sym n_is i; least = sym l_is i; views = set s.views (sym is i) (sym u_is' i) }))

abbrev pub next_run : Option Machine → List Event → Option Machine
next_run o es = elim o as (λ _. Option Machine) [ None ↦ None | Some t ↦ run_of t es ]

-- a run begins with its first step
pub run_step : (s t : Machine) (e : Event) (es : List Event) → step_of s e ≡ Some t → run_of s (e ∷ es) ≡ run_of t es
run_step s t e es is = ap (λ o. next_run o es) is

pub run_push : (s t : Machine) (es : List Event) (e : Event) → run_of s es ≡ Some t → run_of s (es ++ e ∷ []) ≡ step_of t e
run_push s t [] e h = let same : s ≡ t = cc in then_it (step_of s e) ∙ ap (λ z. step_of z e) same
  where
    then_it : (o : Option Machine) → next_run o [] ≡ o
    then_it None = refl
    then_it (Some t) = refl
run_push s t (x ∷ es) e h = more (step_of s x) (λ u. run_push u t es e) h
  where
    more : (o : Option Machine) → ((u : Machine) → run_of u es ≡ Some t → run_of u (es ++ e ∷ []) ≡ step_of t e) → next_run o es ≡ Some t →
        next_run o (es ++ e ∷ []) ≡ step_of t e
    more None f h = absurd (cc)
    more (Some u) f h = f u h

abbrev pub KeptBy : Machine → Type 0
KeptBy s = Kept s.count s.next s.least s.views

-- a legal step keeps it
pub step_keeps : (s t : Machine) (e : Event) → step_of s e ≡ Some t → KeptBy s → KeptBy t
step_keeps s t e is k = at_view (slice_get s.views (worker_of e)) refl is
  where
    at_test : (v : Sight) → slice_get s.views (worker_of e) ≡ Some v → (b : Bool) → is_legal s.count v e ≡ b →
        (if b then Some (machine_after s (worker_of e) v e) else None) ≡ Some t → KeptBy t
    at_test v at true legal is = let same : machine_after s (worker_of e) v e ≡ t = cc in
        subst KeptBy same (keeps s.count s.next s.least s.views (worker_of e) v e at legal k)
    at_test v at false legal is = absurd (cc)

    at_view : (o : Option Sight) → slice_get s.views (worker_of e) ≡ o → step_at s o e ≡ Some t → KeptBy t
    at_view None at is = absurd (cc)
    at_view (Some v) at is = at_test v at (is_legal s.count v e) refl is

pub start_keeps : (count workers : ℕ) → KeptBy (start_of count workers)
start_keeps count workers = record { claimed = λ h. none h workers; fits = all workers; least_hit = tt }
  where
    none : (h : ℕ → ℕ) (n : ℕ) → sum_over (λ v. sum_over h v.claims) (replicate n fresh) ≡ 0
    none h zero = refl
    none h (suc n) = omega (arith, none h n)

    all : (n : ℕ) → Each (Fits count None) (replicate n fresh)
    all zero = tt
    all (suc n) = (
      record {
        claims_are = refl;
        refuted_below = tt;
        looked_below = λ e. absurd (cc);
        hit_is = tt;
        seen_is = tt;
        stopped_is = λ e. absurd (cc);
      },
      all n,
    )

pub step_next : (s t : Machine) (e : Event) → step_of s e ≡ Some t → (t.next ≤ s.next + 1) × (t.count ≡ s.count) × (length t.views ≡ length s.views)
step_next s t e is = at_view (slice_get s.views (worker_of e)) is
  where
    next_up : (n : ℕ) (e : Event) → next_after n e ≤ n + 1
    next_up n (Claim w) = omega arith
    next_up n (Look w) = omega arith
    next_up n (Refuse w i) = omega arith
    next_up n (Hit w i) = omega arith
    next_up n (Stop w) = omega arith

    at_test : (v : Sight) (b : Bool) → (if b then Some (machine_after s (worker_of e) v e) else None) ≡ Some t →
        (t.next ≤ s.next + 1) × (t.count ≡ s.count) × (length t.views ≡ length s.views)
    at_test v true is =
        let same : machine_after s (worker_of e) v e ≡ t = cc in
        subst (λ (u : Machine). (u.next ≤ s.next + 1) × (u.count ≡ s.count) × (length u.views ≡ length s.views)) same
        (next_up s.next e, refl, length-set s.views (worker_of e) (view_after s.next s.least v e))
    at_test v false is = absurd (cc)

    at_view : (o : Option Sight) → step_at s o e ≡ Some t → (t.next ≤ s.next + 1) × (t.count ≡ s.count) × (length t.views ≡ length s.views)
    at_view None is = absurd (cc)
    at_view (Some v) is = at_test v (is_legal s.count v e) is

pub run_more : (s t u : Machine) (es : List Event) (i : ℕ) (d : Event) → run_of s (take i es) ≡ Some t → i < length es →
    step_of t (get_or es i d) ≡ Some u → run_of s (take (i + 1) es) ≡ Some u
run_more s t u es i d run within is = ap (run_of s) (take_more es i d within) ∙ run_push s t (take i es) (get_or es i d) run ∙ is

-- what a run keeps
pub run_keeps : (P : Machine → Type 0) (s t : Machine) (es : List Event) → ((a b : Machine) (e : Event) → step_of a e ≡ Some b → P a → P b) →
    run_of s es ≡ Some t → P s → P t
run_keeps P s t [] each run p = let same : s ≡ t = cc in subst P same p
run_keeps P s t (e ∷ es) each run p = on (step_of s e) refl run (λ u r q. run_keeps P u t es each r q)
  where
    on : (o : Option Machine) → step_of s e ≡ o → next_run o es ≡ Some t → ((u : Machine) → run_of u es ≡ Some t → P u → P t) → P t
    on None is run f = absurd (cc)
    on (Some u) is run f = f u run (each s u e is p)

pub step_up : (s t : Machine) (es : List Event) (i : ℕ) (d : Event) → step_of s (get_or es i d) ≡ Some t → t.next ≤ s.next + 1
step_up s t es i d is = (step_next s t (get_or es i d) is).0

-- the count stays
pub run_counts : (count workers : ℕ) (es : List Event) (t : Machine) → run_of (start_of count workers) es ≡ Some t → t.count ≡ count
run_counts count workers es t run = run_keeps (λ m. m.count ≡ count) (start_of count workers) t es (λ a b e is h. let r = (step_next a b e is).1 in
    r ∙ h) run refl

-- a complete run has decided
pub run_decides : (count workers : ℕ) (es : List Event) (t : Machine) → 0 < workers → run_of (start_of count workers) es ≡ Some t → IsComplete t →
    Decided t
run_decides count workers es t some_one run all =
    let k = run_keeps KeptBy (start_of count workers) t es (λ a b e is k. step_keeps a b e is k) run (start_keeps count workers) in
    let n = run_keeps (λ m. length m.views ≡ workers) (start_of count workers) t es (λ a b e is h. let r = (step_next a b e is).2 in r ∙ h) run
    (length-replicate workers fresh) in
    decides t.count t.next t.views t.least (omega arith) k
    (each_both (Fits t.count t.least) (λ v. v.stopped ≡ true) (λ v. has_ended t.count v ≡ true) t.views
    (λ v f h. ended_once_stopped t.count v (f.stopped_is h)) k.fits all)
