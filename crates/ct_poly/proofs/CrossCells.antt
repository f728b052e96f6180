-- The table of a cross difference: main lemmas `multiplying_start`, `multiplying_more`, `multiplied`, `crossed_is` and
-- `cross_answer`, which the functions of `crossing` cite.
-- Multiples of one list by the terms of another are added to a table; after all terms it holds the product more. The second
-- product is that of the negative of its first factor.
use Rattle.ct_poly.proofs.Base.{◌≡◌, ◌≢◌, refl, ℕ, ◌+◌, ◌*◌, ◌≤◌, ◌<◌, ℤ, nat_abs, List, [], ◌∷◌, All, length, sym, ◌∙◌, ap, ap₂, subst, arith}
use Rattle.ct_poly.proofs.Base.{mul-le-mul_right, sum_by-cons, zero_add, Mono, ◌·◌, ·_comm, ·_assoc, Polynomial, polys, plus, times, count, norm}
use Rattle.ct_poly.proofs.Base.{degree, zero_mul, neg_mul, ring4, reify, term, EachTerm-weaker, Divides, largest_norm}
use Rattle.ct_algebra.specs.Polynomial.{degree_of as list_degree}
use Rattle.ct_poly.specs.declared.cells.Spot.{Spot}
use Rattle.ct_poly.specs.declared.term.Term.{Term}
use Rattle.ct_poly.specs.Cells.{IsTable, IsQuotient, IsMultiplied, AreInBox, AreProductsInBox, cells_of, cell_of, spots, added, size_of_cells}
use Rattle.ct_poly.specs.Cells.{size_of_spots}
use Rattle.ct_poly.specs.declared.division.Measure.{Measure}
use Rattle.ct_poly.specs.Crossing.{cross, cross_count, cross_norm, CrossHasRoom, IsCrossQuotient, IsRoomForCross}
use Rattle.ct_poly.specs.Measures.{minus}
use Rattle.ct_poly.specs.Terms.{entries, poly_of_terms, size_of, IsListOf}
use Rattle.ct_poly.proofs.BoundingBoxes.{divides_trans}
use Rattle.ct_poly.proofs.CellSteps.{size-spots, spots_inside, zeros_size}
use Rattle.ct_poly.proofs.Crossings.{cross_quotients_fit}
use Rattle.ct_poly.proofs.Tables.{AreZero, table_of_zeros, table_added}
use Rattle.ct_poly.proofs.TermLists.{poly_of-cons, poly_of-none, no_length, terms_of, count_of-terms, norm_of-terms}
use Rattle.ct_poly.proofs.Values.{IsKept}

-- ---- the loop over the terms of the first factor

-- a table that holds what n and the multiples so far make
pub record HoldsSoFar (tops : Mono) (n whole q : Polynomial) (rest : List Term) (cells : List ℤ) : Type 0 where
  pub so_far : Polynomial
  pub table : IsTable tops so_far cells
  pub all : plus so_far (times (poly_of_terms rest) q) ≡ plus n whole

pub record IsMultiplying (tops : Mono) (start : List ℤ) (ps qs : List Term) (cells : List ℤ) (rest : List Term) : Type 0 where
  pub inside : AreInBox tops rest
  pub products : AreProductsInBox tops rest qs
  pub whole : length cells ≡ cells_of tops
  pub small : size_of_cells cells + size_of rest * size_of qs ≤ size_of_cells start + size_of ps * size_of qs
  pub holds :
      (n : Polynomial) → IsTable tops n start →
      HoldsSoFar tops n (times (poly_of_terms ps) (poly_of_terms qs)) (poly_of_terms qs) rest cells

pub multiplying_start :
    {tops : Mono} {start : List ℤ} {ps qs : List Term} → AreInBox tops ps → AreProductsInBox tops ps qs →
    length start ≡ cells_of tops → IsMultiplying tops start ps qs start ps
multiplying_start {tops} {start} {ps} {qs} inside products whole = record {
  inside = inside;
  products = products;
  whole = whole;
  small = omega arith;
  holds = λ n table. record { so_far = n; table = table; all = refl };
}

more_product : (w m r q : Polynomial) → plus (plus w (times m q)) (times r q) ≡ plus w (times (polys.◌+◌ m r) q)
unfolding plus times
more_product w m r q = ring4 polys w m r q (λ w m r q. (search reify depth 12, search reify depth 12)) refl

module _ {tops : Mono} {start : List ℤ} {ps qs rest more : List Term} {t : Term} {cells : List ℤ} {ss : List Spot} {cell : ℕ}
    (rest_is : rest ≡ t ∷ more) (cell_is : cell ≡ cell_of tops t.mono) (ss_are : ss ≡ spots tops qs)
    (multiplying : IsMultiplying tops start ps qs cells rest) where
  at : IsMultiplying tops start ps qs cells (t ∷ more)
  at = subst (IsMultiplying tops start ps qs cells) rest_is multiplying

  pub term_inside : Divides t.mono tops
  term_inside = at.inside.0

  pub multiple_inside : All (λ s. cell + s.cell < length cells) ss
  multiple_inside =
      subst (All (λ s. cell + s.cell < length cells)) (sym ss_are) (spots_inside tops t.mono (length cells) cell qs at.whole cell_is at.products.0)

  sizes : size_of (t ∷ more) ≡ nat_abs t.coef + size_of more
  sizes = sum_by-cons (λ t. nat_abs t.coef) t more

  spot_sizes : nat_abs t.coef * size_of_spots ss ≡ nat_abs t.coef * size_of qs
  spot_sizes = ap (λ n. nat_abs t.coef * n) (ap size_of_spots ss_are ∙ size-spots tops qs)

  pub multiple_small : size_of_cells start + size_of ps * size_of qs ≤ largest_norm →
      size_of_cells cells + nat_abs t.coef * size_of_spots ss ≤ largest_norm
  multiple_small most = omega (arith, most, at.small, ap (λ n. n * size_of qs) sizes, spot_sizes)

  pub multiplying_more :
      (c : ℤ) {next : List ℤ} → c ≡ t.coef → next ≡ added cell c cells ss → size_of_cells next ≤ size_of_cells cells + nat_abs c * size_of_spots ss →
      length next ≡ length cells → IsMultiplying tops start ps qs next more
  multiplying_more c {next} c_is next_is small long = record {
    inside = at.inside.1;
    products = at.products.1;
    whole = long ∙ at.whole;
    small = omega (arith, small, at.small, ap (λ n. n * size_of qs) sizes, spot_sizes, ap (λ n. nat_abs n * size_of_spots ss) c_is);
    holds = λ n begins. let h = at.holds n begins in record {
      so_far = plus h.so_far (times (term t.mono t.coef) (poly_of_terms qs));
      table = subst (IsTable tops (plus h.so_far (times (term t.mono t.coef) (poly_of_terms qs)))) (sym (next_is ∙ cells_are))
          (table_added t.mono t.coef qs h.table at.products.0);
      all = more_product h.so_far (term t.mono t.coef) (poly_of_terms more) (poly_of_terms qs)
          ∙ ap (λ w. plus h.so_far (times w (poly_of_terms qs))) (sym (poly_of-cons t more)) ∙ h.all;
    };
  }
    where
      cells_are : added cell c cells ss ≡ added (cell_of tops t.mono) t.coef cells (spots tops qs)
      cells_are = λ i. added (cell_is i) (c_is i) cells (ss_are i)

pub no_product : (w q : Polynomial) → plus w (times (poly_of_terms []) q) ≡ w
unfolding plus times
no_product w q = ap (λ v. polys.◌+◌ w (polys.◌*◌ v q)) poly_of-none ∙ ap (polys.◌+◌ w) (zero_mul polys q) ∙ polys.add_zero w

-- all terms are done
pub multiplied :
    {tops : Mono} {start : List ℤ} {ps qs rest : List Term} {cells : List ℤ} → length rest ≡ 0 →
    IsMultiplying tops start ps qs cells rest → IsMultiplied tops start ps qs cells
multiplied {tops} {start} {ps} {qs} {rest} {cells} empty multiplying =
    let end : IsMultiplying tops start ps qs cells [] = subst (IsMultiplying tops start ps qs cells) (no_length rest empty) multiplying in
    record {
      whole = end.whole;
      small = omega (arith, end.small);
      table = λ n begins. let h = end.holds n begins in
          subst (λ w. IsTable tops w cells) (sym (no_product h.so_far (poly_of_terms qs)) ∙ h.all) h.table;
    }

-- ---- the box of both products

products_in : (m n tops : Mono) (ps qs : List Term) → AreInBox m ps → AreInBox n qs → Divides (m · n) tops → AreProductsInBox tops ps qs
products_in m n tops ps qs first second inside =
    EachTerm-weaker (λ k c mine. EachTerm-weaker (λ l d its. divides_trans (k · l) (m · n) tops (product_divides k m l n mine its) inside)
    (entries qs) second) (entries ps) first
  where
    product_divides : (k m l n : Mono) → Divides k m → Divides l n → Divides (k · l) (m · n)
    product_divides k m l n (u, left) (v, right) = (u · v, turned u v k l ∙ ap₂ ◌·◌ left right)
      where
        turned : (u v k l : Mono) → (u · v) · (k · l) ≡ (u · k) · (v · l)
        turned u v k l =
            ·_assoc u v (k · l) ∙ ap (λ w. u · w) (sym (·_assoc v k l) ∙ ap (λ w. w · l) (·_comm v k) ∙ ·_assoc k v l) ∙ sym (·_assoc u k (v · l))

pub products_inside : (m n w tops : Mono) (ps qs : List Term) → AreInBox m ps → AreInBox n qs → w ≡ m · n → Divides w tops →
    AreInBox tops ps × AreInBox tops qs × AreProductsInBox tops ps qs
products_inside m n w tops ps qs first second product inside =
    let whole : Divides (m · n) tops = subst (λ v. Divides v tops) product inside in (
      EachTerm-weaker (λ k c mine. divides_trans k (m · n) tops (divides_trans k m (m · n) mine (n, ·_comm n m)) whole) (entries ps) first,
      EachTerm-weaker (λ k c its. divides_trans k (m · n) tops (divides_trans k n (m · n) its (m, refl)) whole) (entries qs) second,
      products_in m n tops ps qs first second whole,
    )

-- ---- from zeros to the cross difference

pub zeros_small : (cells : List ℤ) → AreZero cells → size_of_cells cells ≡ 0
zeros_small cells zeros = zeros_size cells zeros

pub crossed_table :
    {tops : Mono} {zeros between end : List ℤ} {ps xs ns ys : List Term} → AreZero zeros → length zeros ≡ cells_of tops →
    IsMultiplied tops zeros ps xs between → IsMultiplied tops between ns ys end →
    IsTable tops (plus (times (poly_of_terms ps) (poly_of_terms xs)) (times (poly_of_terms ns) (poly_of_terms ys))) end
unfolding plus
crossed_table {tops} {zeros} {between} {end} {ps} {xs} {ns} {ys} empty whole first second =
    subst (λ w. IsTable tops (polys.◌+◌ w (times (poly_of_terms ns) (poly_of_terms ys))) end) (zero_add polys.group _)
    (second.table _ (first.table _ (table_of_zeros tops zeros whole empty)))

-- ---- the answer

cross_is : (p a x y n : Polynomial) → n ≡ polys.neg a → plus (times p x) (times n y) ≡ cross p a x y
unfolding plus times cross minus
cross_is p a x y n n_is = ap (λ w. polys.◌+◌ (polys.◌*◌ p x) w) (ap (λ w. polys.◌*◌ w y) n_is ∙ neg_mul polys a y)

module _ {p a x y f : Polynomial} {ps bs ns xs ys fs qs v : List Term} (first : IsKept p ps) (second : IsKept a bs) (third : IsKept x xs)
    (fourth : IsKept y ys) (divisor : IsKept f fs)
    (negative : IsListOf (polys.neg (poly_of_terms bs)) (length bs) (size_of bs) ns) (some : f ≢ polys.zero) (room : CrossHasRoom p a x y) where
  pub cross_answer :
      {c n : ℕ} → c ≡ cross_count p a x y → n ≡ cross_norm p a x y →
      IsQuotient (plus (times (poly_of_terms ps) (poly_of_terms xs)) (times (poly_of_terms ns) (poly_of_terms ys))) c n fs qs →
      IsListOf (poly_of_terms qs) (length qs) (size_of qs) v → IsCrossQuotient p a x y f (poly_of_terms qs)
  cross_answer {c} {n} c_is n_is found list =
      cross_quotients_fit p a x y f q some room (record {
        few = omega (arith, found.room.few, c_is, mul-le-mul_right (count f) counts, ap (λ n. length qs * n) by_count);
        small = omega (arith, found.room.small, n_is, mul-le-mul_right (norm f) norms, ap (λ n. size_of qs * n) by_norm);
        fits = omega (arith, norms, found.room.fits);
      }) (ap (times q) (sym divisor.value) ∙ found.value ∙ value)
    where
      q : Polynomial
      q = poly_of_terms qs

      counts : count q ≤ length qs
      counts = omega (arith, count_of-terms v list.falling list.value, list.few)

      norms : norm q ≤ size_of qs
      norms = omega (arith, norm_of-terms v list.falling list.value, list.small)

      by_count : count f ≡ length fs
      by_count = count_of-terms fs divisor.falling divisor.value

      by_norm : norm f ≡ size_of fs
      by_norm = norm_of-terms fs divisor.falling divisor.value

      value : plus (times (poly_of_terms ps) (poly_of_terms xs)) (times (poly_of_terms ns) (poly_of_terms ys)) ≡ cross p a x y
      value =
          ap₂ plus (ap₂ times first.value third.value) (ap (times (poly_of_terms ns)) fourth.value)
          ∙ cross_is p a x y (poly_of_terms ns) (negative.value ∙ ap polys.neg second.value)

-- ---- from lists to polynomials

module _ {p a x y : Polynomial} {ps bs xs ys : List Term} (first : IsKept p ps) (second : IsKept a bs) (third : IsKept x xs)
    (fourth : IsKept y ys) {m : Measure} (room : IsRoomForCross ps bs xs ys m) where
  low : {p : Polynomial} (ps : List Term) → IsKept p ps → degree p ≡ list_degree (entries ps)
  unfolding degree
  low ps list = ap list_degree (sym (terms_of ps list.falling list.value))

  counted : {p : Polynomial} (ps : List Term) → IsKept p ps → count p ≡ length ps
  counted ps list = count_of-terms ps list.falling list.value

  measured : {p : Polynomial} (ps : List Term) → IsKept p ps → norm p ≡ size_of ps
  measured ps list = norm_of-terms ps list.falling list.value

  pub counts_are : m.count ≡ cross_count p a x y
  counts_are = room.count_is ∙ sym (ap₂ ◌+◌ (ap₂ ◌*◌ (counted ps first) (counted xs third)) (ap₂ ◌*◌ (counted bs second) (counted ys fourth)))

  pub norms_are : m.norm ≡ cross_norm p a x y
  norms_are = room.norm_is ∙ sym (ap₂ ◌+◌ (ap₂ ◌*◌ (measured ps first) (measured xs third)) (ap₂ ◌*◌ (measured bs second) (measured ys fourth)))

  pub has_room : CrossHasRoom p a x y
  has_room = record {
    first_low = omega (arith, room.first_low, low ps first, low xs third);
    second_low = omega (arith, room.second_low, low bs second, low ys fourth);
    few = omega (arith, room.few, counts_are);
    small = omega (arith, room.small, norms_are);
  }

  -- the products of the lists, with the negative of a in place of a, are no larger
  pub products_small :
      (ns : List Term) → size_of ns ≤ size_of bs → size_of ps * size_of xs + size_of ns * size_of ys ≤ m.norm
  products_small ns smaller = omega (arith, room.norm_is, mul-le-mul_right (size_of ys) smaller)

-- ---- the order of two factors

pub turned_factors : (ps qs : List Term) → times (poly_of_terms qs) (poly_of_terms ps) ≡ times (poly_of_terms ps) (poly_of_terms qs)
unfolding times
turned_factors ps qs = polys.mul_comm (poly_of_terms qs) (poly_of_terms ps)

pub no_first : (ps qs : List Term) → length ps ≡ 0 → times (poly_of_terms ps) (poly_of_terms ps) ≡ times (poly_of_terms ps) (poly_of_terms qs)
unfolding times
no_first ps qs empty =
    let none : poly_of_terms ps ≡ polys.zero = ap poly_of_terms (no_length ps empty) ∙ poly_of-none in
    ap (λ w. polys.◌*◌ w (poly_of_terms ps)) none ∙ zero_mul polys _ ∙ sym (ap (λ w. polys.◌*◌ w (poly_of_terms qs)) none ∙ zero_mul polys _)

pub no_second : (ps qs : List Term) → length qs ≡ 0 → times (poly_of_terms qs) (poly_of_terms qs) ≡ times (poly_of_terms ps) (poly_of_terms qs)
no_second ps qs empty = no_first qs ps empty ∙ turned_factors ps qs

no_size : (ps : List Term) → length ps ≡ 0 → size_of ps ≡ 0
no_size ps empty = ap size_of (no_length ps empty)

pub no_first_small : (ps qs : List Term) → length ps ≡ 0 → size_of ps * size_of ps ≤ size_of ps * size_of qs
no_first_small ps qs empty = omega (arith, ap (λ n. n * size_of ps) (no_size ps empty))

pub no_second_small : (ps qs : List Term) → length qs ≡ 0 → size_of qs * size_of qs ≤ size_of ps * size_of qs
no_second_small ps qs empty = omega (arith, ap (λ n. n * size_of qs) (no_size qs empty))

pub turned_small : (ps qs : List Term) → size_of qs * size_of ps ≤ size_of ps * size_of qs
turned_small ps qs = omega arith
