-- Lists that are not too long, and what is left of them: main lemmas `few_ok`, `few_within`, `few_past`, `few_twice`, and those of the
-- loops and the recursion: `left_alone`, `left_parts`, `left_more`, `refused_below`.
use Rattle.ct_border.proofs.Base.{◌≡◌, ℕ, zero, suc, ◌+◌, ◌-◌, ◌<◌, ◌≤◌, Bool, true, false, ltb, ltb-true, ltb-false, lt-ltb, le-ltb}
use Rattle.ct_border.proofs.Base.{if◌then◌else◌, List, [], ◌∷◌}
use Rattle.ct_border.proofs.Base.{◌++◌, length, length-append, append_assoc, append-nil, map, filter, filter-append, Ok, Err, Result, ◌>>=◌, refl}
use Rattle.ct_border.proofs.Base.{sym, ◌∙◌}
use Rattle.ct_border.proofs.Base.{ap, arith, ◌⊎◌, inl, inr, cond, Mono, unit, ◌·◌, ·-unit, name_with, symbol, of_total, below, both_parts_on_ok}
use Rattle.ct_border.proofs.Base.{more_below}
use Rattle.ct_border.proofs.Base.{largest_staircase, AnswersAs, subst}
use Rattle.ct_checked.specs.declared.fault.Kind.TheVariants.{Size}
use Rattle.ct_border.specs.Staircase.{Refusal, refusal_of, is_left, few}
use Rattle.ct_border.specs.declared.fault.StairFault.{StairFault}

pub record IsFew (xs ms : List Mono) : Type 0 where
  pub is : xs ≡ ms
  pub within : length xs ≤ largest_staircase

pub few_ok : (xs ms : List Mono) → few xs ≡ Ok ms → IsFew xs ms
few_ok xs ms fits = by (ltb 16 (length xs)) refl fits
  where
    by : (b : Bool) → ltb 16 (length xs) ≡ b →
        ◌≡◌ {A = Result (List Mono) Refusal} (if b then Err (Refusal.Overflow Size) else Ok xs) (Ok ms) → IsFew xs ms
    by true more fits = cc
    by false most fits = record { is = cc; within = ltb-false 16 (length xs) most }

pub few_within : (xs : List Mono) → length xs ≤ 16 → few xs ≡ Ok xs
few_within xs within = ap (λ b. if b then Err (Refusal.Overflow Size) else Ok xs) (le-ltb 16 (length xs) within)

pub few_past : (xs : List Mono) → 16 < length xs → few xs ≡ Err (Refusal.Overflow Size)
few_past xs past = ap (λ b. if b then Err (Refusal.Overflow Size) else Ok xs) (lt-ltb 16 (length xs) past)

pub few_twice : (xs ys : List Mono) → few (xs ++ ys) ≡ (few xs >>= (λ zs. few (zs ++ ys)))
few_twice xs ys = by (ltb 16 (length xs)) refl
  where
    by : (b : Bool) → ltb 16 (length xs) ≡ b →
        few (xs ++ ys) ≡ (◌>>=◌ {E = Refusal} (if b then Err (Refusal.Overflow Size) else Ok xs) (λ zs. few (zs ++ ys)))
    by true more = few_past (xs ++ ys) (omega (arith, ltb-true 16 (length xs) more, length-append xs ys))
    by false most = refl

-- ---- one monomial

pub kept_alone : (ds xs : List Mono) (m : Mono) → is_left ds m ≡ true → xs ++ filter (is_left ds) (m ∷ []) ≡ xs ++ m ∷ []
kept_alone ds xs m left = ap (λ b. xs ++ cond b (m ∷ []) []) left

pub dropped_alone : (ds xs : List Mono) (m : Mono) → is_left ds m ≡ false → xs ++ filter (is_left ds) (m ∷ []) ≡ xs
dropped_alone ds xs m other = ap (λ b. xs ++ cond b (m ∷ []) []) other ∙ append-nil xs

-- ---- those of a total

-- what the recursion appends
abbrev pub left_of : List Mono → Mono → List ℕ → ℕ → List Mono
left_of ds part names t = filter (is_left ds) (map (λ m. part · m) (of_total names t))

pub left_alone : (ds : List Mono) (part : Mono) (names : List ℕ) (t : ℕ) → t ≡ 0 → left_of ds part names t ≡ filter (is_left ds) (part ∷ [])
left_alone ds part [] zero none = ap (λ m. filter (is_left ds) (m ∷ [])) (·-unit part)
left_alone ds part (i ∷ names) zero none = ap (λ m. filter (is_left ds) (m ∷ [])) (·-unit part)
left_alone ds part names (suc t) none = cc

pub left_none : (ds : List Mono) (part : Mono) (t : ℕ) → 0 < t → left_of ds part [] t ≡ []
left_none ds part zero some = absurd (omega (arith, some))
left_none ds part (suc t) some = refl

pub left_parts :
    (ds : List Mono) (part x y : Mono) (i : ℕ) (others names : List ℕ) (t : ℕ) → 0 < t → names ≡ i ∷ others → x ≡ symbol (name_with i) →
    y ≡ part · x → left_of ds part names t ≡ left_of ds part others t ++ left_of ds y names (t - 1)
left_parts ds part x y i others names t some whole name product =
    ap (filter (is_left ds)) (sym
    (both_parts_on_ok {E = Refusal} (Ok tt) part x y [] without (without ++ with_it) i others names t some whole name product refl refl))
    ∙ filter-append (is_left ds) without with_it
  where
    without : List Mono
    without = map (λ m. part · m) (of_total others t)

    with_it : List Mono
    with_it = map (λ m. y · m) (of_total names (t - 1))

-- both parts, behind what is found
pub few_parts :
    (ds found : List Mono) (part x y : Mono) (i : ℕ) (others names : List ℕ) (t : ℕ) → 0 < t → names ≡ i ∷ others → x ≡ symbol (name_with i) →
    y ≡ part · x →
    few (found ++ left_of ds part names t) ≡ (few (found ++ left_of ds part others t) >>= (λ v. few (v ++ left_of ds y names (t - 1))))
few_parts ds found part x y i others names t some whole name product =
    ap (λ l. few (found ++ l)) (left_parts ds part x y i others names t some whole name product)
    ∙ ap few (sym (append_assoc found (left_of ds part others t) (left_of ds y names (t - 1))))
    ∙ few_twice (found ++ left_of ds part others t) (left_of ds y names (t - 1))

-- ---- those below a total

pub left_more :
    (ds : List Mono) (one : Mono) (names : List ℕ) (t : ℕ) → one ≡ unit →
    filter (is_left ds) (below names t) ++ left_of ds one names t ≡ filter (is_left ds) (below names (t + 1))
left_more ds one names t is =
    sym (filter-append (is_left ds) (below names t) (map (λ m. one · m) (of_total names t)))
    ∙ ap (filter (is_left ds)) (more_below names t one (below names t) (below names t ++ map (λ m. one · m) (of_total names t)) is refl refl)

-- more totals leave no fewer
pub refused_below :
    (ds : List Mono) (names : List ℕ) (r : Refusal) (s n : ℕ) → s ≤ n → few (filter (is_left ds) (below names s)) ≡ Err r →
    few (filter (is_left ds) (below names n)) ≡ Err r
refused_below ds names r s zero most refused =
    let same : 0 ≡ s = omega (arith, most) in ap (λ k. few (filter (is_left ds) (below names k))) same ∙ refused
refused_below ds names r s (suc n) most refused = by (nearer s n most) (λ before. refused_below ds names r s n before refused)
  where
    nearer : (s n : ℕ) → s ≤ suc n → (s ≡ suc n) ⊎ (s ≤ n)
    nearer s n most = grind arith

    by : (s ≡ suc n) ⊎ (s ≤ n) → (s ≤ n → few (filter (is_left ds) (below names n)) ≡ Err r) →
        few (filter (is_left ds) (below names (suc n))) ≡ Err r
    by (inl same) rest = ap (λ k. few (filter (is_left ds) (below names k))) (sym same) ∙ refused
    by (inr before) rest =
        ap few (filter-append (is_left ds) (below names n) (of_total names n))
        ∙ few_twice (filter (is_left ds) (below names n)) (filter (is_left ds) (of_total names n))
        ∙ ap (λ c. c >>= (λ zs. few (zs ++ filter (is_left ds) (of_total names n)))) (rest before)

-- ---- answers to the same computation

pub answers_same :
    {B : Type 0} (r : Result B StairFault) (f : B → List Mono) (c d : Result (List Mono) Refusal) → c ≡ d → AnswersAs refusal_of f d r →
    AnswersAs refusal_of f c r
answers_same r f c d same holds = subst (λ c. AnswersAs refusal_of f c r) (sym same) holds
