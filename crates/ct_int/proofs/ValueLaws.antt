-- The laws of values: sums, products, differences, quotients and the order.
-- Main lemmas: one for each law of `RationalLaws`, cited by the function of the law.
-- Both sides of a law are scaled to one denominator (`scaled_comm`, `scaled_twice`), where they are the same whole number.
use Rattle.ct_int.proofs.Base.{◌≡◌, ◌≢◌, ℕ, suc, ◌*◌, ◌<◌, ℤ, pos, negsuc, ◌+ℤ◌, ◌-ℤ◌, ◌*ℤ◌, ◌<ℤ◌, neg_ℤ, unsigned_abs, ◌↔◌, int_cmp}
use Rattle.ct_int.proofs.Base.{ordering_reverse, MatchOrdering, int_ranks, Ordering, sym, ◌∙◌, ap, ap₂, subst, arith, Less, Equal, Greater, ints}
use Rattle.ct_int.proofs.Base.{mul_comm}
use Rattle.std.proofs.lemmas.Cmp.{int_cmp_total, tied_itself}
use Rattle.ct_int.proofs.Scaling.{scaled_comm, scaled_twice, scaled_sum, scaled_product, scaled_negated, int_cmp-scaled, both_negated}
use Rattle.ct_int.proofs.GcdLaws.{Cofactors, gcd-exists}
use Rattle.ct_int.proofs.LowestTerms.{lowest-cancelled}
use Rattle.ct_int.proofs.OperationLaws.{product_of_ratios-reciprocal}
use Rattle.ct_int.specs.Rational.{Ratio, ratio, SameValue, IsLowestTerms, sum_of_ratios, difference_of_ratios, product_of_ratios, quotient_of_ratios}
use Rattle.ct_int.specs.Rational.{order_of_ratios}
use lib.IntN.{*ℤ_comm}

-- a scale of two factors and one more, in another order
scaled_thrice : (x : ℤ) (i j k : ℕ) → (x *ℤ pos i) *ℤ pos (j * k) ≡ (x *ℤ pos j) *ℤ pos (i * k)
scaled_thrice x i j k = scaled_twice x i (j * k) ∙ ap (λ n. x *ℤ pos n) (moved i j k) ∙ sym (scaled_twice x j (i * k))
  where
    moved : (i j k : ℕ) → i * (j * k) ≡ j * (i * k)
    moved i j k = omega arith

-- one summand over two denominators
same_summand : (x y : ℤ) (b c e f : ℕ) → x *ℤ pos c ≡ y *ℤ pos b → (x *ℤ pos e) *ℤ pos (c * f) ≡ (y *ℤ pos f) *ℤ pos (b * e)
same_summand x y b c e f same =
    scaled_thrice x e c f ∙ ap (λ z. z *ℤ pos (e * f)) same ∙ ap (λ n. (y *ℤ pos b) *ℤ pos n) (mul_comm e f) ∙ scaled_thrice y b f e

pub sums_by_value : (p q r s : Ratio) → SameValue p q → SameValue r s → SameValue (sum_of_ratios p r) (sum_of_ratios q s)
sums_by_value p q r s first second =
    scaled_sum (p.num *ℤ pos r.den) (r.num *ℤ pos p.den) (q.den * s.den)
    ∙ ap₂ (λ m n. m +ℤ n) (same_summand p.num q.num p.den q.den r.den s.den first)
    (ap (λ n. (r.num *ℤ pos p.den) *ℤ pos n) (mul_comm q.den s.den) ∙ same_summand r.num s.num r.den s.den p.den q.den second
    ∙ ap (λ n. (s.num *ℤ pos q.den) *ℤ pos n) (mul_comm r.den p.den)) ∙ sym (scaled_sum (q.num *ℤ pos s.den) (s.num *ℤ pos q.den) (p.den * r.den))

-- a scale is split over two factors
split : (x y : ℤ) (j k : ℕ) → (x *ℤ y) *ℤ pos (j * k) ≡ (x *ℤ pos j) *ℤ (y *ℤ pos k)
split x y j k =
    sym (scaled_twice (x *ℤ y) j k) ∙ ap (λ z. z *ℤ pos k) (scaled_product x y j) ∙ ap (λ z. z *ℤ pos k) (*ℤ_comm (x *ℤ pos j) y)
    ∙ scaled_product y (x *ℤ pos j) k ∙ *ℤ_comm (y *ℤ pos k) (x *ℤ pos j)

pub products_by_value : (p q r s : Ratio) → SameValue p q → SameValue r s → SameValue (product_of_ratios p r) (product_of_ratios q s)
products_by_value p q r s first second =
    split p.num r.num q.den s.den ∙ ap₂ (λ m n. m *ℤ n) first second ∙ sym (split q.num s.num p.den r.den)

pub difference_and_sum : (p q : Ratio) → SameValue (sum_of_ratios (difference_of_ratios p q) q) p
difference_and_sum p q =
    ap (λ z. z *ℤ pos p.den) (sum ∙ whole) ∙ scaled_twice p.num (q.den * q.den) p.den ∙ ap (λ n. p.num *ℤ pos n) (moved p.den q.den)
  where
    moved : (b d : ℕ) → (d * d) * b ≡ (b * d) * d
    moved b d = omega arith

    -- the subtrahend is added again
    sum : (p.num *ℤ pos q.den -ℤ q.num *ℤ pos p.den) *ℤ pos q.den +ℤ q.num *ℤ pos (p.den * q.den) ≡ (p.num *ℤ pos q.den) *ℤ pos q.den
    sum = omega (
      arith,
      ints,
      scaled_sum (p.num *ℤ pos q.den) (neg_ℤ (q.num *ℤ pos p.den)) q.den,
      scaled_negated (q.num *ℤ pos p.den) q.den,
      scaled_twice q.num p.den q.den,
    )

    whole : (p.num *ℤ pos q.den) *ℤ pos q.den ≡ p.num *ℤ pos (q.den * q.den)
    whole = scaled_twice p.num q.den q.den

-- dividing both parts by their greatest common divisor
pub lowest_terms-exist : (p : Ratio) → 0 < p.den → (r : Ratio) × IsLowestTerms p r
lowest_terms-exist p some = by p.num p.den some (gcd-exists (unsigned_abs p.num) p.den)
  where
    by : (n : ℤ) (d : ℕ) → 0 < d → Cofactors (unsigned_abs n) d → (r : Ratio) × IsLowestTerms (ratio n (pos d)) r
    by (pos n) d some found =
        let r = ratio (pos found.first) (pos found.second) in (
          r,
          lowest-cancelled (ratio (pos n) (pos d)) r some
              (record { divisor = found.divisor; greatest = found.greatest; num = ap pos found.first_whole; den = found.second_whole }),
        )
    by (negsuc n) d some found =
        let r = ratio (neg_ℤ (pos found.first)) (pos found.second) in
        let num : neg_ℤ (pos found.first) *ℤ pos found.divisor ≡ negsuc n = scaled_negated (pos found.first) found.divisor
        ∙ ap (λ m. neg_ℤ (pos m)) found.first_whole in (
          r,
          lowest-cancelled (ratio (negsuc n) (pos d)) r some
              (record { divisor = found.divisor; greatest = found.greatest; num = num; den = found.second_whole }),
        )

-- a number times a reciprocal of its own sign
pub quotient_and_product : (p q : Ratio) → 0 < p.den → q.num ≢ pos 0 → SameValue (product_of_ratios (quotient_of_ratios p q) q) p
quotient_and_product p q first other =
    subst (λ s. SameValue (product_of_ratios s q) p) (product_of_ratios-reciprocal p q first) (by q.num other)
  where
    moved : (b d n : ℕ) → (d * n) * b ≡ b * n * d
    moved b d n = omega arith

    -- the quotient as a product with the reciprocal
    by : (n : ℤ) → n ≢ pos 0 → SameValue (product_of_ratios (product_of_ratios p (ratio (pos q.den) n)) (record { num = n; den = q.den })) p
    by (pos n) other =
        ap (λ z. z *ℤ pos p.den) (scaled_twice p.num q.den n) ∙ scaled_twice p.num (q.den * n) p.den ∙ ap (λ m. p.num *ℤ pos m) (moved p.den q.den n)
    by (negsuc n) other =
        ap (λ z. z *ℤ pos p.den) (both_negated p.num q.den (suc n) ∙ scaled_twice p.num q.den (suc n)) ∙ scaled_twice p.num (q.den * suc n) p.den
        ∙ ap (λ m. p.num *ℤ pos m) (moved p.den q.den (suc n))

-- ---- the order

pub order_of_ratios-turned : (p q : Ratio) → order_of_ratios p q ≡ ordering_reverse (order_of_ratios q p)
order_of_ratios-turned p q = int_cmp_total.antisymm (p.num *ℤ pos q.den) (q.num *ℤ pos p.den)

-- three ratios are compared as whole numbers over their common denominator
abbrev common : Ratio → Ratio → Ratio → ℤ
common p q r = (p.num *ℤ pos q.den) *ℤ pos r.den

order_of_ratios-common : (p q r : Ratio) → 0 < r.den → order_of_ratios p q ≡ int_cmp (common p q r) (common q p r)
order_of_ratios-common p q r some = int_cmp-scaled (p.num *ℤ pos q.den) (q.num *ℤ pos p.den) r.den some

common-swap : (p q r : Ratio) → common p q r ≡ common p r q
common-swap p q r = scaled_comm p.num q.den r.den

pub order_of_ratios-passed_on : (p q r : Ratio) → 0 < p.den → 0 < q.den → 0 < r.den → order_of_ratios p q ≡ Less → order_of_ratios q r ≡ Less →
    order_of_ratios p r ≡ Less
order_of_ratios-passed_on p q r first second third less below =
    order_of_ratios-common p r q second ∙ int_cmp_total.trans (common p r q) (common q p r) (common r p q) left right
  where
    left : int_cmp (common p r q) (common q p r) ≡ Less
    left = ap (λ z. int_cmp z (common q p r)) (common-swap p r q) ∙ sym (order_of_ratios-common p q r third) ∙ less

    right : int_cmp (common q p r) (common r p q) ≡ Less
    right = ap₂ int_cmp (common-swap q p r) (common-swap r p q) ∙ sym (order_of_ratios-common q r p first) ∙ below

pub Equal-by_value : (p q : Ratio) → (order_of_ratios p q ≡ Equal) ↔ SameValue p q
Equal-by_value p q = (
  λ e. only (order_of_ratios p q) (int_ranks (p.num *ℤ pos q.den) (q.num *ℤ pos p.den)) e,
  λ same. ap (λ z. int_cmp z (q.num *ℤ pos p.den)) same ∙ tied_itself int_cmp_total (q.num *ℤ pos p.den),
)
  where
    only : (o : Ordering) → MatchOrdering o ((p.num *ℤ pos q.den) <ℤ (q.num *ℤ pos p.den)) (SameValue p q)
        ((q.num *ℤ pos p.den) <ℤ (p.num *ℤ pos q.den)) → o ≡ Equal → SameValue p q
    only Less h e = cc
    only Equal h e = h
    only Greater h e = cc

pub order_of_ratios-same : (p q r : Ratio) → 0 < p.den → 0 < q.den → 0 < r.den → SameValue p q → order_of_ratios p r ≡ order_of_ratios q r
order_of_ratios-same p q r first second third same =
    order_of_ratios-common p r q second ∙ ap₂ int_cmp places (common-swap r p q) ∙ sym (order_of_ratios-common q r p first)
  where
    places : common p r q ≡ common q r p
    places = common-swap p r q ∙ over ∙ common-swap q p r
      where
        over : common p q r ≡ common q p r
        over = ap (λ z. z *ℤ pos r.den) same
