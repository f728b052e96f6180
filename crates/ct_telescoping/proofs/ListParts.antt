-- What is in lists made of others, and lists without repetition.
-- Main lemma `once_at`: in a list without repetition equal elements stand at one place.
use Rattle.ct_telescoping.proofs.Base.{◌≡◌, ℕ, zero, suc, ◌<◌, Bool, true, false, cond, List, [], ◌∷◌, ◌++◌, length, map, get_or, ◌⊎◌, Contains}
use Rattle.ct_telescoping.proofs.Base.{filter, flat_map, refl, sym, ◌∙◌, ap, subst, arith, inl, inr, Contains-append_left, Contains-append_right}
use Rattle.ct_telescoping.proofs.Base.{Contains-append_cases, Contains-get_or}
use Rattle.ct_telescoping.specs.Rising.{IsOnce}

pub contains_first : {X : Type 0} (x : X) (xs : List X) → Contains (x ∷ xs) x
contains_first x xs = (0, omega arith, refl)

pub contains_later : {X : Type 0} (x y : X) (xs : List X) → Contains xs y → Contains (x ∷ xs) y
contains_later x y xs found = (suc found.0, omega (arith, found.1), found.2)

pub contains_cases : {X : Type 0} (x y : X) (xs : List X) → Contains (x ∷ xs) y → (x ≡ y) ⊎ Contains xs y
contains_cases x y xs (zero, within, is) = inl is
contains_cases x y xs (suc k, within, is) = inr (k, omega (arith, within), is)

pub contains_none : {X : Type 0} (y : X) → Contains [] y → ⊥
contains_none y found = absurd (omega (arith, found.1))

module _ {X Y : Type 0} (f : X → Y) where
  pub contains_map : (xs : List X) (x : X) → Contains xs x → Contains (map f xs) (f x)
  contains_map [] x found = absurd (contains_none x found)
  contains_map (y ∷ ys) x found = by (contains_cases y x ys found) (contains_map ys x)
    where
      by : (y ≡ x) ⊎ Contains ys x → (Contains ys x → Contains (map f ys) (f x)) → Contains (map f (y ∷ ys)) (f x)
      by (inl same) rest = subst (Contains (map f (y ∷ ys))) (ap f same) (contains_first (f y) (map f ys))
      by (inr later) rest = contains_later (f y) (f x) (map f ys) (rest later)

  pub record IsImage (xs : List X) (y : Y) : Type 0 where
    pub of : X
    pub found : Contains xs of
    pub is : f of ≡ y

  pub contains_map_cases : (xs : List X) (y : Y) → Contains (map f xs) y → IsImage xs y
  contains_map_cases [] y found = absurd (contains_none y found)
  contains_map_cases (x ∷ xs) y found = by (contains_cases (f x) y (map f xs) found) (contains_map_cases xs y)
    where
      by : (f x ≡ y) ⊎ Contains (map f xs) y → (Contains (map f xs) y → IsImage xs y) → IsImage (x ∷ xs) y
      by (inl same) rest = record { of = x; found = contains_first x xs; is = same }
      by (inr later) rest =
          let image = rest later in
          record { of = image.of; found = contains_later x image.of xs image.found; is = image.is }

module _ {X Y : Type 0} (f : X → List Y) where
  pub contains_flat_map : (xs : List X) (x : X) (y : Y) → Contains xs x → Contains (f x) y → Contains (flat_map f xs) y
  contains_flat_map [] x y found inside = absurd (contains_none x found)
  contains_flat_map (z ∷ zs) x y found inside = by (contains_cases z x zs found) (λ later. contains_flat_map zs x y later inside)
    where
      by : (z ≡ x) ⊎ Contains zs x → (Contains zs x → Contains (flat_map f zs) y) → Contains (flat_map f (z ∷ zs)) y
      by (inl same) rest = Contains-append_left (f z) (flat_map f zs) y (subst (λ w. Contains (f w) y) (sym same) inside)
      by (inr later) rest = Contains-append_right (f z) (flat_map f zs) y (rest later)

  pub record IsInside (xs : List X) (y : Y) : Type 0 where
    pub of : X
    pub found : Contains xs of
    pub inside : Contains (f of) y

  pub contains_flat_map_cases : (xs : List X) (y : Y) → Contains (flat_map f xs) y → IsInside xs y
  contains_flat_map_cases [] y found = absurd (contains_none y found)
  contains_flat_map_cases (x ∷ xs) y found = by (Contains-append_cases (f x) (flat_map f xs) y found) (contains_flat_map_cases xs y)
    where
      by : Contains (f x) y ⊎ Contains (flat_map f xs) y → (Contains (flat_map f xs) y → IsInside xs y) → IsInside (x ∷ xs) y
      by (inl here) rest = record { of = x; found = contains_first x xs; inside = here }
      by (inr later) rest =
          let part = rest later in
          record { of = part.of; found = contains_later x part.of xs part.found; inside = part.inside }

module _ {X : Type 0} (test : X → Bool) where
  pub contains_filter : (xs : List X) (x : X) → Contains xs x → test x ≡ true → Contains (filter test xs) x
  contains_filter [] x found passes = absurd (contains_none x found)
  contains_filter (y ∷ ys) x found passes = by (test y) refl (contains_cases y x ys found) (λ later. contains_filter ys x later passes)
    where
      by : (b : Bool) → test y ≡ b → (y ≡ x) ⊎ Contains ys x → (Contains ys x → Contains (filter test ys) x) →
          Contains (cond b (y ∷ filter test ys) (filter test ys)) x
      by true e (inl same) rest = subst (Contains (y ∷ filter test ys)) same (contains_first y (filter test ys))
      by true e (inr later) rest = contains_later y x (filter test ys) (rest later)
      by false e (inl same) rest = absurd (clash (sym e ∙ ap test same ∙ passes))
        where
          clash : false ≡ true → ⊥
          clash f = cc
      by false e (inr later) rest = rest later

  pub contains_filter_cases : (xs : List X) (x : X) → Contains (filter test xs) x → Contains xs x × (test x ≡ true)
  contains_filter_cases [] x found = absurd (contains_none x found)
  contains_filter_cases (y ∷ ys) x found = by (test y) refl (contains_filter_cases ys x) found
    where
      by : (b : Bool) → test y ≡ b → (Contains (filter test ys) x → Contains ys x × (test x ≡ true)) →
          Contains (cond b (y ∷ filter test ys) (filter test ys)) x → Contains (y ∷ ys) x × (test x ≡ true)
      by true e rest found = first (contains_cases y x (filter test ys) found)
        where
          first : (y ≡ x) ⊎ Contains (filter test ys) x → Contains (y ∷ ys) x × (test x ≡ true)
          first (inl same) = (subst (Contains (y ∷ ys)) same (contains_first y ys), ap test (sym same) ∙ e)
          first (inr later) = (contains_later y x ys (rest later).0, (rest later).1)
      by false e rest found = (contains_later y x ys (rest found).0, (rest found).1)

-- ---- lists without repetition

pub once_append :
    {X : Type 0} (xs ys : List X) → IsOnce xs → IsOnce ys → ((x : X) → Contains xs x → Contains ys x → ⊥) → IsOnce (xs ++ ys)
once_append [] ys once other apart = other
once_append (x ∷ xs) ys once other apart = (
  λ found. by (Contains-append_cases xs ys x found),
  once_append xs ys once.1 other (λ y found also. apart y (contains_later x y xs found) also),
)
  where
    by : Contains xs x ⊎ Contains ys x → ⊥
    by (inl found) = once.0 found
    by (inr found) = apart x (contains_first x xs) found

pub once_map :
    {X Y : Type 0} (f : X → Y) → ((x y : X) → f x ≡ f y → x ≡ y) → (xs : List X) → IsOnce xs → IsOnce (map f xs)
once_map f injective [] once = tt
once_map f injective (x ∷ xs) once = (
  λ found. let image = contains_map_cases f xs (f x) found in
      once.0 (subst (Contains xs) (injective image.of x image.is) image.found),
  once_map f injective xs once.1,
)

-- parts of different elements have nothing in common
pub once_flat_map :
    {X Y : Type 0} (f : X → List Y) → ((x : X) → IsOnce (f x)) →
    ((x y : X) (z : Y) → Contains (f x) z → Contains (f y) z → x ≡ y) → (xs : List X) → IsOnce xs → IsOnce (flat_map f xs)
once_flat_map f each apart [] once = tt
once_flat_map f each apart (x ∷ xs) once =
    once_append (f x) (flat_map f xs) (each x) (once_flat_map f each apart xs once.1)
    (λ z here later. let part = contains_flat_map_cases f xs z later in
    once.0 (subst (Contains xs) (sym (apart x part.of z here part.inside)) part.found))

pub once_at :
    {X : Type 0} (xs : List X) (past : X) → IsOnce xs → (i j : ℕ) → i < length xs → j < length xs →
    get_or xs i past ≡ get_or xs j past → i ≡ j
once_at [] past once i j l m same = absurd (omega (arith, l))
once_at (x ∷ xs) past once zero zero l m same = refl
once_at (x ∷ xs) past once zero (suc j) l m same =
    absurd (once.0 (subst (Contains xs) (sym same) (Contains-get_or xs j past (omega (arith, m)))))
once_at (x ∷ xs) past once (suc i) zero l m same =
    absurd (once.0 (subst (Contains xs) same (Contains-get_or xs i past (omega (arith, l)))))
once_at (x ∷ xs) past once (suc i) (suc j) l m same =
    ap suc (once_at xs past once.1 i j (omega (arith, l)) (omega (arith, m)) same)
