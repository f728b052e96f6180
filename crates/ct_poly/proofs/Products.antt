-- The lists that the code makes of products: main lemmas `multiple_is` for one term times a list, `product_of_none`,
-- `product_of_one` and `product_of_halves` for a list that is halved. Cited by product.rt.
-- Products keep the order of monomials, and the product distributes over the halves.
use Rattle.ct_poly.proofs.Base.{◌≡◌, refl, ℕ, ◌+◌, ◌*◌, ◌≤◌, max, ◌*ℤ◌, nat_abs, List, [], ◌∷◌, ◌++◌, length, get_or, sym, ◌∙◌, ap, ap₂, subst}
use Rattle.ct_poly.proofs.Base.{subst₂, arith, length-append, sum_by-cons, sum_by-append, monomials, ◌·◌, int_group, IsCanonical, front_canonical}
use Rattle.ct_poly.proofs.Base.{back_canonical, polys, poly_of, norm_of, plus, times, times_is, poly_of-none, poly_of-row, times-append}
use Rattle.ct_poly.proofs.Base.{row_canonical, row_of, largest_norm}
use Rattle.ct_poly.specs.declared.term.Term.{Term}
use Rattle.ct_poly.specs.Terms.{entries, entry, size_of, greatest_total, IsListOf, CanMultiply, poly_of_terms}
use Rattle.ct_poly.proofs.TermLists.{no_length, entries-append, length-entries, norm_of-entries, norm_of-row, length-row}
use Rattle.ct_poly.proofs.Termwise.{made_of}

abbrev size : Term → ℕ
size t = nat_abs t.coef

-- ---- one term

abbrev pub product : Term → Term → List Term
product t u = record { mono = t.mono · u.mono; coef = t.coef *ℤ u.coef } ∷ []

abbrev multiples : Term → List Term → List Term
multiples t us = made_of (product t) us

entries-multiples : (t : Term) (us : List Term) → entries (multiples t us) ≡ row_of (entry t) (entries us)
entries-multiples t [] = refl
entries-multiples t (u ∷ us) = ap (λ es. (t.mono · u.mono, t.coef *ℤ u.coef) ∷ es) (entries-multiples t us)

size-multiples : (t : Term) (us : List Term) → size_of (multiples t us) ≡ nat_abs t.coef * size_of us
size-multiples t us =
    sym (norm_of-entries (multiples t us)) ∙ ap norm_of (entries-multiples t us) ∙ norm_of-row (entry t) (entries us)
    ∙ ap (λ n. nat_abs t.coef * n) (norm_of-entries us)

length-multiples : (t : Term) (us : List Term) → length (multiples t us) ≡ length us
length-multiples t us =
    sym (length-entries (multiples t us)) ∙ ap length (entries-multiples t us) ∙ length-row (entry t) (entries us) ∙ length-entries us

pub multiple_is :
    (t : Term) (us v : List Term) → CanMultiply (t ∷ []) us → v ≡ made_of (product t) us →
    IsListOf (times (poly_of_terms (t ∷ [])) (poly_of_terms us)) (length us) (nat_abs t.coef * size_of us) v
unfolding poly_of_terms
multiple_is t us v can made = subst (IsListOf (times (poly_of_terms (t ∷ [])) (poly_of_terms us)) (length us) (nat_abs t.coef * size_of us))
    (sym made) (record {
      falling = subst (IsCanonical monomials int_group) (sym (entries-multiples t us)) (row_canonical (entry t) (entries us) can.first.0 can.second);
      value = ap poly_of (entries-multiples t us) ∙ poly_of-row (entry t) (entries us);
      few = omega (arith, length-multiples t us);
      small = omega (arith, size-multiples t us);
    })

pub size_of-one : (t : Term) → size_of (t ∷ []) ≡ nat_abs t.coef
size_of-one t = omega (arith, sum_by-cons size t [])

-- ---- a list in halves

pub product_of_none :
    (ps qs v : List Term) → length ps ≡ 0 → v ≡ [] →
    IsListOf (times (poly_of_terms ps) (poly_of_terms qs)) (length ps * length qs) (size_of ps * size_of qs) v
unfolding poly_of_terms
product_of_none ps qs v none empty =
    subst₂ (λ p w. IsListOf (times (poly_of_terms p) (poly_of_terms qs)) (length p * length qs) (size_of p * size_of qs) w) (sym (no_length ps none))
    (sym empty)
    (record { falling = tt; value = poly_of-none (poly_of_terms qs); few = omega arith; small = omega arith })

pub only_one : (ps : List Term) (t : Term) → length ps ≡ 1 → t ≡ get_or ps 0 t → ps ≡ t ∷ []
only_one [] t one first = absurd (omega arith)
only_one (p ∷ []) t one first = ap (λ u. u ∷ []) (sym first)
only_one (p ∷ q ∷ ps) t one first = absurd (omega arith)

pub product_of_one :
    (ps qs v : List Term) (t : Term) → ps ≡ t ∷ [] →
    IsListOf (times (poly_of_terms (t ∷ [])) (poly_of_terms qs)) (length qs) (nat_abs t.coef * size_of qs) v →
    IsListOf (times (poly_of_terms ps) (poly_of_terms qs)) (length ps * length qs) (size_of ps * size_of qs) v
product_of_one ps qs v t one l =
    subst (λ p. IsListOf (times (poly_of_terms p) (poly_of_terms qs)) (length p * length qs) (size_of p * size_of qs) v) (sym one) (record {
      falling = l.falling;
      value = l.value;
      few = omega (arith, l.few);
      small = omega (arith, l.small, ap (λ n. n * size_of qs) (size_of-one t));
    })

pub greatest_total-append : (ps qs : List Term) → greatest_total (ps ++ qs) ≡ max (greatest_total ps) (greatest_total qs)
greatest_total-append [] qs = omega arith
greatest_total-append (p ∷ ps) qs = omega (arith, greatest_total-append ps qs)

module _ (ps front back qs : List Term) (parts : ps ≡ front ++ back) (can : CanMultiply ps qs) where
  falling_parts : IsCanonical monomials int_group (entries front ++ entries back)
  falling_parts = subst (IsCanonical monomials int_group) (ap entries parts ∙ entries-append front back) can.first

  sizes_of_parts : size_of ps * size_of qs ≡ size_of front * size_of qs + size_of back * size_of qs
  sizes_of_parts = ap (λ w. size_of w * size_of qs) parts ∙ ap (λ n. n * size_of qs) (sum_by-append size front back) ∙ omega arith

  pub can_front : CanMultiply front qs
  can_front = record {
    first = front_canonical monomials int_group (entries front) (entries back) falling_parts;
    second = can.second;
    degrees = omega (arith, can.degrees, ap greatest_total parts, greatest_total-append front back);
    sizes = omega (arith, can.sizes, sizes_of_parts);
  }

  pub can_back : CanMultiply back qs
  can_back = record {
    first = back_canonical monomials int_group (entries front) (entries back) falling_parts;
    second = can.second;
    degrees = omega (arith, can.degrees, ap greatest_total parts, greatest_total-append front back);
    sizes = omega (arith, can.sizes, sizes_of_parts);
  }

  module _ (u v : List Term)
      (left : IsListOf (times (poly_of_terms front) (poly_of_terms qs)) (length front * length qs) (size_of front * size_of qs) u)
      (right : IsListOf (times (poly_of_terms back) (poly_of_terms qs)) (length back * length qs) (size_of back * size_of qs) v) where
    pub halves_small : size_of u + size_of v ≤ largest_norm
    halves_small = omega (arith, can.sizes, sizes_of_parts, left.small, right.small)

    pub product_of_halves :
        (w : List Term) → IsListOf (plus (poly_of_terms u) (poly_of_terms v)) (length u + length v) (size_of u + size_of v) w →
        IsListOf (times (poly_of_terms ps) (poly_of_terms qs)) (length ps * length qs) (size_of ps * size_of qs) w
    unfolding poly_of_terms
    product_of_halves w sum = record {
      falling = sum.falling;
      value = sum.value ∙ ap₂ plus left.value right.value
          ∙ sym (ap (λ es. times (poly_of es) (poly_of_terms qs)) (ap entries parts ∙ entries-append front back)
          ∙ times-append (entries front) (entries back) _);
      few = omega (arith, sum.few, left.few, right.few, ap (λ p. length p * length qs) parts, ap (λ n. n * length qs) (length-append front back));
      small = omega (arith, sum.small, left.small, right.small, sizes_of_parts);
    }

pub product_turned :
    (ps qs v : List Term) → IsListOf (times (poly_of_terms qs) (poly_of_terms ps)) (length qs * length ps) (size_of qs * size_of ps) v →
    IsListOf (times (poly_of_terms ps) (poly_of_terms qs)) (length ps * length qs) (size_of ps * size_of qs) v
product_turned ps qs v l = record {
  falling = l.falling;
  value = l.value ∙ times_is _ _ ∙ polys.mul_comm _ _ ∙ sym (times_is _ _);
  few = omega (arith, l.few);
  small = omega (arith, l.small);
}
