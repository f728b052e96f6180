-- How many terms symbols of one name make of a list, and how large these are: main lemmas `raised-count`, `raised-size`.
-- Both are for sums over the terms that weigh each by what its other names say, so that one name after the other may be taken.
-- No name makes a list smaller: `raised-larger`.
use Rattle.ct_ore.proofs.Base.{◌≡◌, refl, ℕ, zero, suc, ◌+◌, ◌*◌, ◌≤◌, pos, nat_abs, List, [], ◌∷◌, length, sum_by, sym, ◌∙◌, ap, ap₂, arith}
use Rattle.ct_ore.proofs.Base.{mul-le-mul_left, mul-one, mul-zero, flat_map, unsigned_abs-mul, sum_by-cons, sum_by-append, sum_by_push}
use Rattle.ct_ore.proofs.Base.{sum_by-le-sum_by, Mono, exp, Action, with_exponent}
use Rattle.ct_ore.specs.declared.coefficient_term.CoefficientTerm.{CoefficientTerm}
use Rattle.ct_ore.specs.CoefficientTerms.{size_of}
use Rattle.ct_ore.specs.PairTerms.{listed, lowered_term, raised_term, raised}
use Rattle.ct_ore.specs.Kinds.{how_many, ways, weight}
use Rattle.ct_ore.proofs.PairWeightLaws.{ways_in_all, ways_in_all-is, weight-positive}

-- ---- sums over lists

pub sum_by-same : {X : Type 0} (f g : X → ℕ) → ((x : X) → f x ≡ g x) → (xs : List X) → sum_by f xs ≡ sum_by g xs
sum_by-same f g same xs = λ i. sum_by (λ x. same x i) xs

pub sum_by-flat_map :
    {X Y : Type 0} (f : Y → ℕ) (g : X → List Y) (xs : List X) → sum_by f (flat_map g xs) ≡ sum_by (λ x. sum_by f (g x)) xs
sum_by-flat_map f g [] = refl
sum_by-flat_map f g (x ∷ xs) =
    sum_by-append f (g x) (flat_map g xs) ∙ ap (λ n. sum_by f (g x) + n) (sum_by-flat_map f g xs)
    ∙ sym (sum_by-cons (λ x. sum_by f (g x)) x xs)

pub sum_by-scaled : {X : Type 0} (c : ℕ) (f : X → ℕ) (xs : List X) → sum_by (λ x. c * f x) xs ≡ c * sum_by f xs
sum_by-scaled c f [] = sym (mul-zero c)
sum_by-scaled c f (x ∷ xs) =
    sum_by-cons (λ x. c * f x) x xs ∙ ap (λ n. c * f x + n) (sum_by-scaled c f xs)
    ∙ sym (ap (λ n. c * n) (sum_by-cons f x xs) ∙ parted c (f x) (sum_by f xs))
  where
    parted : (c m n : ℕ) → c * (m + n) ≡ c * m + c * n
    parted c m n = omega arith

pub scaled-sum : {X : Type 0} (f : X → ℕ) (r : ℕ) (xs : List X) → sum_by (λ x. f x * r) xs ≡ sum_by f xs * r
scaled-sum f r [] = omega arith
scaled-sum f r (x ∷ xs) =
    sum_by-cons (λ x. f x * r) x xs ∙ omega (arith, scaled-sum f r xs, ap (λ n. n * r) (sum_by-cons f x xs))

-- a list whose terms all count the same
sum_by-listed_same :
    {X : Type 0} (f : X → ℕ) (c : ℕ) (g : ℕ → X) → ((j : ℕ) → f (g j) ≡ c) → (n : ℕ) → sum_by f (listed n g) ≡ c * n
sum_by-listed_same f c g same zero = sym (mul-zero c)
sum_by-listed_same f c g same (suc n) =
    sum_by_push f (listed n g) (g n) ∙ ap₂ ◌+◌ (sum_by-listed_same f c g same n) (same n) ∙ one_more c n
  where
    one_more : (c n : ℕ) → c * n + c ≡ c * suc n
    one_more c n = omega arith

-- a list whose terms have the numbers of a row
sum_by-listed_ways :
    {X : Type 0} (f : X → ℕ) (c : ℕ) (t : Action) (k e : ℕ) (g : ℕ → X) → ((j : ℕ) → f (g j) ≡ c * ways t k e j) → (n : ℕ) →
    sum_by f (listed n g) ≡ c * ways_in_all t n k e
sum_by-listed_ways f c t k e g same zero = sym (mul-zero c)
sum_by-listed_ways f c t k e g same (suc n) =
    sum_by_push f (listed n g) (g n) ∙ ap₂ ◌+◌ (sum_by-listed_ways f c t k e g same n) (same n)
    ∙ added c (ways_in_all t n k e) (ways t k e n)
  where
    added : (c m n : ℕ) → c * m + c * n ≡ c * (m + n)
    added c m n = omega arith

-- ---- one name

module _ (t : Action) (i k : ℕ) (f : Mono → ℕ) (other : (e : ℕ) (m : Mono) → f (with_exponent i e m) ≡ f m) where
  pub raised-count :
      (ts : List CoefficientTerm) →
      sum_by (λ u. f u.names) (raised t i k ts) ≡ sum_by (λ u. f u.names * how_many t k (exp u.names i)) ts
  raised-count ts =
      sum_by-flat_map (λ u. f u.names) (raised_term t i k) ts
      ∙ sum_by-same _ _
      (λ u. sum_by-listed_same (λ v. f v.names) (f u.names) (lowered_term t i k u) (λ j. other _ u.names) (how_many t k (exp u.names i))) ts

  pub raised-size :
      (ts : List CoefficientTerm) →
      sum_by (λ u. nat_abs u.number * f u.names) (raised t i k ts) ≡
      sum_by (λ u. nat_abs u.number * (f u.names * weight t k (exp u.names i))) ts
  raised-size ts =
      sum_by-flat_map (λ u. nat_abs u.number * f u.names) (raised_term t i k) ts ∙ sum_by-same _ _ each ts
    where
      turned : (x w y : ℕ) → (x * w) * y ≡ (x * y) * w
      turned x w y = omega arith

      turned_back : (x y w : ℕ) → (x * y) * w ≡ x * (y * w)
      turned_back x y w = omega arith

      lowered :
          (u : CoefficientTerm) (j : ℕ) →
          nat_abs (lowered_term t i k u j).number * f (lowered_term t i k u j).names ≡
          (nat_abs u.number * f u.names) * ways t k (exp u.names i) j
      lowered u j =
          ap₂ ◌*◌ (unsigned_abs-mul u.number (pos (ways t k (exp u.names i) j))) (other _ u.names)
          ∙ turned (nat_abs u.number) (ways t k (exp u.names i) j) (f u.names)

      each :
          (u : CoefficientTerm) →
          sum_by (λ v. nat_abs v.number * f v.names) (raised_term t i k u) ≡
          nat_abs u.number * (f u.names * weight t k (exp u.names i))
      each u =
          sum_by-listed_ways (λ v. nat_abs v.number * f v.names) (nat_abs u.number * f u.names) t k (exp u.names i)
          (lowered_term t i k u) (lowered u) (how_many t k (exp u.names i))
          ∙ ap (λ n. (nat_abs u.number * f u.names) * n) (ways_in_all-is t k (exp u.names i))
          ∙ turned_back (nat_abs u.number) (f u.names) (weight t k (exp u.names i))

-- ---- lengths and sizes

pub length-is : {X : Type 0} (xs : List X) → length xs ≡ sum_by (λ x. 1) xs
length-is [] = refl
length-is (x ∷ xs) = ap (λ n. suc n) (length-is xs) ∙ one_more (sum_by (λ y. 1) xs) ∙ sym (sum_by-cons (λ y. 1) x xs)
  where
    one_more : (n : ℕ) → suc n ≡ 1 + n
    one_more n = omega arith

pub size_of-is : (ts : List CoefficientTerm) → size_of ts ≡ sum_by (λ u. nat_abs u.number * 1) ts
size_of-is ts = sum_by-same _ _ (λ u. sym (mul-one (nat_abs u.number))) ts

module _ (t : Action) (i k : ℕ) (ts : List CoefficientTerm) where
  pub length-raised : length (raised t i k ts) ≡ sum_by (λ u. how_many t k (exp u.names i)) ts
  length-raised =
      length-is (raised t i k ts) ∙ raised-count t i k (λ m. 1) (λ e m. refl) ts
      ∙ sum_by-same _ _ (λ u. once (how_many t k (exp u.names i))) ts
    where
      once : (n : ℕ) → 1 * n ≡ n
      once n = omega arith

  pub size_of-raised : size_of (raised t i k ts) ≡ sum_by (λ u. nat_abs u.number * weight t k (exp u.names i)) ts
  size_of-raised =
      size_of-is (raised t i k ts) ∙ raised-size t i k (λ m. 1) (λ e m. refl) ts
      ∙ sum_by-same _ _ (λ u. once (nat_abs u.number) (weight t k (exp u.names i))) ts
    where
      once : (x n : ℕ) → x * (1 * n) ≡ x * n
      once x n = omega arith

  pub raised-larger : size_of ts ≤ size_of (raised t i k ts)
  raised-larger =
      omega (
        arith,
        size_of-is ts,
        size_of-raised,
        sum_by-le-sum_by (λ u. nat_abs u.number * 1) (λ u. nat_abs u.number * weight t k (exp u.names i)) ts
            (λ u. mul-le-mul_left (nat_abs u.number) (weight-positive t k (exp u.names i))),
      )
