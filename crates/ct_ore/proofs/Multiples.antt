-- A polynomial's terms times the terms of a list, in written form: one row, and two halves whose products are merged.
-- Main lemmas `sum_of_row`, `sum_of_column`, `sum_of_left_halves`, `sum_of_right_halves`. Cited by the product.
-- A term keeps the order of names, and the product is additive on either side.
use Rattle.ct_ore.proofs.Base.{◌≡◌, refl, ℕ, ◌+◌, ◌*◌, ◌<◌, ◌≤◌, ℤ, ◌*ℤ◌, nat_abs, List, [], ◌∷◌, ◌++◌, length, sym, ◌∙◌, ap, ap₂, subst, arith}
use Rattle.ct_ore.proofs.Base.{mul-pos, length-append, append-nil, T, cond, true, false, ordering_then, flat_map-append, unsigned_abs-mul}
use Rattle.ct_ore.proofs.Base.{sum_by-cons, sum_by-append, swap_sum, EachTerm, AllBelow, IsCanonical, is_less, int_group, int_is_zero, Mono}
use Rattle.ct_ore.proofs.Base.{monomials, mono_cmp, mono_same, mono_ordered, total, ◌·◌, ·_comm, norm_of, Operator, operator_group, front_canonical}
use Rattle.ct_ore.proofs.Base.{back_canonical, sums_are, largest_degree, largest_norm}
use Rattle.std.proofs.lemmas.List.{map-append}
use Rattle.ct_ore.specs.declared.coefficient_term.CoefficientTerm.{CoefficientTerm}
use Rattle.ct_ore.specs.CoefficientTerms.{by_parts, pair_cmp, pair_cmp_is, keyed, size_of, sum_of_parts, IsWritten}
use Rattle.ct_ore.specs.PairTerms.{times_term, multiplied, multiplied_by}
use Rattle.ct_ore.specs.Bounds.{EachWithin, CanScale}
use Rattle.ct_ore.specs.Lists.{IsSum, IsMerged, CanMerge}
use Rattle.ct_ore.proofs.CoefficientSums.{keyed-append, sum_of_parts-append}
use Rattle.ct_ore.proofs.PairCounts.{scaled-sum}
use Rattle.ct_ore.proofs.ProductMeasures.{length-multiplied, size_of-multiplied_by}
use Rattle.ct_ore.proofs.SortedSums.{told_some, some_number, within_parts, sum_of_itself, sum_of_same, sum_of_both, halves_small}

abbrev size : CoefficientTerm → ℕ
size t = nat_abs t.number

-- ---- what may be multiplied, in parts

pub each_parts :
    {M A : Type 0} (P : M → A → Type 0) (xs ys : List (M × A)) → EachTerm P (xs ++ ys) → EachTerm P xs × EachTerm P ys
each_parts P [] ys h = (tt, h)
each_parts P (x ∷ xs) ys h = let parts = each_parts P xs ys h.1 in ((h.0, parts.0), parts.1)

pub scale_left :
    {us : List (Mono × ℤ)} {ts : List CoefficientTerm} (xs ys : List (Mono × ℤ)) → us ≡ xs ++ ys → CanScale us ts →
    CanScale xs ts × CanScale ys ts
scale_left {us} {ts} xs ys whole can =
    let rooms = each_parts (λ n x. total n + can.names ≤ largest_degree) xs ys
    (subst (EachTerm (λ n x. total n + can.names ≤ largest_degree)) whole can.rooms) in
    let falls : IsCanonical monomials int_group (xs ++ ys) = subst (IsCanonical monomials int_group) whole can.falls in
    let both : norm_of us * size_of ts ≡ (norm_of xs + norm_of ys) * size_of ts =
    ap (λ n. n * size_of ts) (ap norm_of whole ∙ sum_by-append (λ (u : Mono × ℤ). nat_abs u.1) xs ys) in (
      record {
        names = can.names;
        order = can.order;
        rooms = rooms.0;
        falls = front_canonical monomials int_group xs ys falls;
        each = can.each;
        written = can.written;
        small = omega (arith, can.small, both);
      },
      record {
        names = can.names;
        order = can.order;
        rooms = rooms.1;
        falls = back_canonical monomials int_group xs ys falls;
        each = can.each;
        written = can.written;
        small = omega (arith, can.small, both);
      },
    )

pub scale_right :
    {us : List (Mono × ℤ)} {ts : List CoefficientTerm} (xs ys : List CoefficientTerm) → ts ≡ xs ++ ys → CanScale us ts →
    CanScale us xs × CanScale us ys
scale_right {us} {ts} xs ys whole can =
    let each = within_parts can.order can.names xs ys (subst (λ us. EachWithin can.order can.names us) whole can.each) in
    let written : IsCanonical by_parts int_group (keyed xs ++ keyed ys) =
    subst (IsCanonical by_parts int_group) (ap keyed whole ∙ keyed-append xs ys) can.written in
    let both : norm_of us * size_of ts ≡ norm_of us * (size_of xs + size_of ys) =
    ap (λ n. norm_of us * n) (ap size_of whole ∙ sum_by-append size xs ys) in (
      record {
        names = can.names;
        order = can.order;
        rooms = can.rooms;
        falls = can.falls;
        each = each.0;
        written = front_canonical by_parts int_group (keyed xs) (keyed ys) written;
        small = omega (arith, can.small, both);
      },
      record {
        names = can.names;
        order = can.order;
        rooms = can.rooms;
        falls = can.falls;
        each = each.1;
        written = back_canonical by_parts int_group (keyed xs) (keyed ys) written;
        small = omega (arith, can.small, both);
      },
    )

-- the first term of each
pub scale_heads :
    {us vs : List (Mono × ℤ)} {ts ws : List CoefficientTerm} (u : Mono × ℤ) (t : CoefficientTerm) → us ≡ u ∷ vs → ts ≡ t ∷ ws →
    CanScale us ts → (total u.0 + total t.names ≤ largest_degree) × (nat_abs u.1 * nat_abs t.number ≤ largest_norm)
scale_heads {us} {vs} {ts} {ws} u t eu et can =
    let room = (subst (EachTerm (λ n x. total n + can.names ≤ largest_degree)) eu can.rooms).0 in
    let each = (subst (λ us. EachWithin can.order can.names us) et can.each).0 in
    let both : norm_of us * size_of ts ≡ (nat_abs u.1 + norm_of vs) * (nat_abs t.number + size_of ws) =
    ap₂ ◌*◌ (ap norm_of eu ∙ sum_by-cons (λ (u : Mono × ℤ). nat_abs u.1) u vs) (ap size_of et ∙ sum_by-cons size t ws) in
    (omega (arith, room, each.names), omega (arith, can.small, both))

-- ---- order

times_some : (x y : ℤ) → 0 < nat_abs x → 0 < nat_abs y → T (cond (int_is_zero (x *ℤ y)) false true)
times_some x y p q =
    told_some (x *ℤ y) (subst (λ n. 0 < n) (sym (unsigned_abs-mul x y)) (mul-pos p q))

same_order : (n a b s r : Mono) → pair_cmp (s, n · a) (r, n · b) ≡ pair_cmp (s, a) (r, b)
same_order n a b s r =
    pair_cmp_is (s, n · a) (r, n · b)
    ∙ ap (ordering_then (mono_cmp s r)) (ap₂ mono_cmp (·_comm n a) (·_comm n b) ∙ mono_ordered.shifted n a b)
    ∙ sym (pair_cmp_is (s, a) (r, b))

multiplied_below :
    (n : Mono) (x : ℤ) (s r : Mono) (ts : List CoefficientTerm) → AllBelow by_parts int_group (s, r) (keyed ts) →
    AllBelow by_parts int_group (s, n · r) (keyed (multiplied n x ts))
multiplied_below n x s r [] h = tt
multiplied_below n x s r (t ∷ ts) h =
    (subst (λ o. T (is_less o)) (sym (same_order n t.names r t.symbols s)) h.0, multiplied_below n x s r ts h.1)

multiplied_written : (n : Mono) (x : ℤ) (ts : List CoefficientTerm) → 0 < nat_abs x → IsWritten ts → IsWritten (multiplied n x ts)
multiplied_written n x [] some h = tt
multiplied_written n x (t ∷ ts) some h =
    (times_some x t.number some (some_number t.number h.0), multiplied_below n x t.symbols t.names ts h.1, multiplied_written n x ts some h.2)

column_below :
    (t : CoefficientTerm) (m : Mono) (us : List (Mono × ℤ)) → AllBelow monomials int_group m us →
    AllBelow by_parts int_group (t.symbols, m · t.names) (keyed (multiplied_by us (t ∷ [])))
column_below t m [] h = tt
column_below t m (u ∷ us) h =
    let same : pair_cmp (t.symbols, u.0 · t.names) (t.symbols, m · t.names) ≡ mono_cmp u.0 m =
    pair_cmp_is (t.symbols, u.0 · t.names) (t.symbols, m · t.names)
    ∙ ap (λ r. ordering_then r (mono_cmp (u.0 · t.names) (m · t.names))) (mono_same t.symbols) ∙ mono_ordered.shifted t.names u.0 m in
    (subst (λ o. T (is_less o)) (sym same) h.0, column_below t m us h.1)

column_written :
    (t : CoefficientTerm) (us : List (Mono × ℤ)) → 0 < nat_abs t.number → IsCanonical monomials int_group us →
    IsWritten (multiplied_by us (t ∷ []))
column_written t [] some h = tt
column_written t (u ∷ us) some h =
    (times_some u.1 t.number (some_number u.1 h.0) some, column_below t u.0 us h.1, column_written t us some h.2)

-- ---- rows

pub sum_of_row :
    {us : List (Mono × ℤ)} {ts vs : List CoefficientTerm} (u : Mono × ℤ) → us ≡ u ∷ [] → CanScale us ts →
    vs ≡ multiplied u.0 u.1 ts → IsSum (multiplied_by us ts) vs
sum_of_row {us} {ts} u one can made =
    let whole : multiplied_by us ts ≡ multiplied u.0 u.1 ts = ap (λ us. multiplied_by us ts) one ∙ append-nil (multiplied u.0 u.1 ts) in
    let some : 0 < nat_abs u.1 = some_number u.1 (subst (IsCanonical monomials int_group) one can.falls).0 in
    sum_of_itself (subst IsWritten (sym whole) (multiplied_written u.0 u.1 ts some can.written)) (made ∙ sym whole)

pub sum_of_column :
    {us : List (Mono × ℤ)} {ts vs : List CoefficientTerm} (t : CoefficientTerm) → ts ≡ t ∷ [] → CanScale us ts →
    vs ≡ multiplied_by us (t ∷ []) → IsSum (multiplied_by us ts) vs
sum_of_column {us} {ts} t one can made =
    let whole : multiplied_by us ts ≡ multiplied_by us (t ∷ []) = ap (multiplied_by us) one in
    let some : 0 < nat_abs t.number = some_number t.number (subst IsWritten one can.written).0 in
    sum_of_itself (subst IsWritten (sym whole) (column_written t us some can.falls)) (made ∙ sym whole)

-- ---- halves

pub size_scaled : (us : List (Mono × ℤ)) (ts : List CoefficientTerm) → size_of (multiplied_by us ts) ≡ norm_of us * size_of ts
size_scaled us ts = size_of-multiplied_by us ts ∙ scaled-sum (λ (u : Mono × ℤ). nat_abs u.1) (size_of ts) us

pub length_scaled : (us : List (Mono × ℤ)) (ts : List CoefficientTerm) → length (multiplied_by us ts) ≡ length us * length ts
length_scaled [] ts = omega arith
length_scaled (u ∷ us) ts =
    omega (arith, length-append (multiplied u.0 u.1 ts) (multiplied_by us ts), length-multiplied u.0 u.1 ts, length_scaled us ts)

pub multiplied_by-none : (us : List (Mono × ℤ)) → multiplied_by us [] ≡ []
multiplied_by-none [] = refl
multiplied_by-none (u ∷ us) = multiplied_by-none us

left_parts :
    {us : List (Mono × ℤ)} (ts : List CoefficientTerm) (xs ys : List (Mono × ℤ)) → us ≡ xs ++ ys →
    multiplied_by us ts ≡ multiplied_by xs ts ++ multiplied_by ys ts
left_parts ts xs ys whole =
    ap (λ us. multiplied_by us ts) whole ∙ flat_map-append (λ (u : Mono × ℤ). multiplied u.0 u.1 ts) xs ys

right_sum :
    (us : List (Mono × ℤ)) (xs ys : List CoefficientTerm) →
    sum_of_parts (multiplied_by us xs ++ multiplied_by us ys) ≡ sum_of_parts (multiplied_by us (xs ++ ys))
right_sum [] xs ys = refl
right_sum (u ∷ us) xs ys =
    both (multiplied u.0 u.1 xs ++ multiplied_by us xs) (multiplied u.0 u.1 ys ++ multiplied_by us ys)
    ∙ ap₂ plus (both (multiplied u.0 u.1 xs) (multiplied_by us xs)) (both (multiplied u.0 u.1 ys) (multiplied_by us ys))
    ∙ swap_sum operator_group _ _ _ _
    ∙ sym (both (multiplied u.0 u.1 (xs ++ ys)) (multiplied_by us (xs ++ ys))
    ∙ ap₂ plus (ap sum_of_parts (map-append (times_term u.0 u.1) xs ys) ∙ both (multiplied u.0 u.1 xs) (multiplied u.0 u.1 ys))
    (sym (right_sum us xs ys) ∙ both (multiplied_by us xs) (multiplied_by us ys)))
  where
    plus : Operator → Operator → Operator
    plus = operator_group.◌+◌

    both : (xs ys : List CoefficientTerm) → sum_of_parts (xs ++ ys) ≡ operator_group.◌+◌ (sum_of_parts xs) (sum_of_parts ys)
    both xs ys = sum_of_parts-append xs ys ∙ sums_are _ _

pub merge_left :
    {us : List (Mono × ℤ)} {ts ls rs : List CoefficientTerm} (xs ys : List (Mono × ℤ)) → us ≡ xs ++ ys → CanScale us ts →
    IsSum (multiplied_by xs ts) ls → IsSum (multiplied_by ys ts) rs → CanMerge ls rs
merge_left {us} {ts} {ls} {rs} xs ys whole can l r =
    halves_small (multiplied_by us ts) (multiplied_by xs ts) (multiplied_by ys ts) ls rs (left_parts ts xs ys whole)
    (omega (arith, can.small, size_scaled us ts)) l r

pub sum_of_left_halves :
    {us : List (Mono × ℤ)} (ts : List CoefficientTerm) {ls rs vs : List CoefficientTerm} (xs ys : List (Mono × ℤ)) → us ≡ xs ++ ys →
    IsSum (multiplied_by xs ts) ls → IsSum (multiplied_by ys ts) rs → IsMerged ls rs vs → IsSum (multiplied_by us ts) vs
sum_of_left_halves {us} ts {ls} {rs} {vs} xs ys whole l r merged =
    sum_of_both (multiplied_by us ts) (multiplied_by xs ts) (multiplied_by ys ts) ls rs vs (left_parts ts xs ys whole) l r merged

module _ (us : List (Mono × ℤ)) {ts : List CoefficientTerm} (xs ys : List CoefficientTerm) (whole : ts ≡ xs ++ ys) where
  right_size : size_of (multiplied_by us xs ++ multiplied_by us ys) ≡ size_of (multiplied_by us ts)
  right_size =
      omega (
        arith,
        sum_by-append size (multiplied_by us xs) (multiplied_by us ys),
        size_scaled us xs,
        size_scaled us ys,
        size_scaled us ts,
        ap (λ n. norm_of us * n) (ap size_of whole ∙ sum_by-append size xs ys),
      )

  right_length : length (multiplied_by us xs ++ multiplied_by us ys) ≡ length (multiplied_by us ts)
  right_length =
      omega (
        arith,
        length-append (multiplied_by us xs) (multiplied_by us ys),
        length_scaled us xs,
        length_scaled us ys,
        length_scaled us ts,
        ap (λ n. length us * n) (ap length whole ∙ length-append xs ys),
      )

  pub merge_right : {ls rs : List CoefficientTerm} → CanScale us ts → IsSum (multiplied_by us xs) ls → IsSum (multiplied_by us ys) rs → CanMerge ls rs
  merge_right {ls} {rs} can l r =
      halves_small (multiplied_by us xs ++ multiplied_by us ys) (multiplied_by us xs) (multiplied_by us ys) ls rs refl
      (omega (arith, can.small, size_scaled us ts, right_size)) l r

  pub sum_of_right_halves :
      {ls rs vs : List CoefficientTerm} → IsSum (multiplied_by us xs) ls → IsSum (multiplied_by us ys) rs → IsMerged ls rs vs →
      IsSum (multiplied_by us ts) vs
  sum_of_right_halves {ls} {rs} {vs} l r merged =
      sum_of_same (right_sum us xs ys ∙ ap (λ ws. sum_of_parts (multiplied_by us ws)) (sym whole)) (omega (arith, right_length))
      (omega (arith, right_size))
      (sum_of_both (multiplied_by us xs ++ multiplied_by us ys) (multiplied_by us xs) (multiplied_by us ys) ls rs vs refl l r merged)
