-- The loop that adds spots to cells: main lemmas `sum_fits` and `one_added`, which `add_multiple` cites.
-- The size of the cells grows by no more than the size of what is added, so no cell passes the limit.
use Rattle.ct_poly.proofs.Base.{rules, arith, ◌≡◌, ℕ, ℤ, pos, suc, ◌+◌, ◌*◌, ◌+ℤ◌, ◌*ℤ◌, ◌<◌, ◌≤◌, All, length, nat_abs, List, ◌∷◌, slice_index_or}
use Rattle.ct_poly.proofs.Base.{slice_set, subst, sym, ap, ◌∙◌, sum_by-set, sum_by-cons, get_or-le-sum_by, unsigned_abs-mul, ints, largest_norm}
use Rattle.std.proofs.Math.Seq.{lt-length-set}
use Rattle.ct_poly.specs.Cells.{added, size_of_cells, size_of_spots}
use Rattle.ct_poly.specs.declared.cells.Spot.{Spot}

pub record IsAdding (before : List ℤ) (base : ℕ) (c : ℤ) (row : List Spot) (cells : List ℤ) (left : List Spot) : Type 0 where
  pub same : added base c cells left ≡ added base c before row
  pub inside : All (λ s. base + s.cell < length cells) left
  pub small : size_of_cells cells + nat_abs c * size_of_spots left ≤ size_of_cells before + nat_abs c * size_of_spots row

module _ {before cells : List ℤ} {base : ℕ} {c : ℤ} {row left rest : List Spot} {s : Spot} (left_is : left ≡ s ∷ rest)
    (adding : IsAdding before base c row cells left) where
  all : All (λ s. base + s.cell < length cells) (s ∷ rest)
  all = subst (λ l. All (λ s. base + s.cell < length cells) l) left_is adding.inside

  pub here : base + s.cell < length cells
  here = all 0 s (search rules)

  sizes : size_of_spots left ≡ nat_abs s.coef + size_of_spots rest
  sizes = ap size_of_spots left_is ∙ sum_by-cons (λ s. nat_abs s.coef) s rest

  pub sum_fits : (d : ℤ) → d ≡ c *ℤ s.coef → size_of_cells before + nat_abs c * size_of_spots row ≤ largest_norm
      → nat_abs (slice_index_or cells (base + s.cell) (pos 0)) + nat_abs d ≤ largest_norm
  sum_fits d d_is most =
      omega (
        arith,
        most,
        adding.small,
        get_or-le-sum_by nat_abs cells (base + s.cell) (pos 0) here,
        ap (λ n. nat_abs c * n) sizes,
        ap nat_abs d_is,
        unsigned_abs-mul c s.coef,
      )

  pub one_added : (z : ℤ) → z ≡ slice_index_or cells (base + s.cell) (pos 0) +ℤ c *ℤ s.coef →
      IsAdding before base c row (slice_set cells (base + s.cell) z) rest
  one_added z z_is =
      let old = slice_index_or cells (base + s.cell) (pos 0) in
      let abs : nat_abs z ≤ nat_abs old + nat_abs c * nat_abs s.coef = omega (arith, ints, ap nat_abs z_is, unsigned_abs-mul c s.coef) in
      record {
        same = ap (λ y. added base c (slice_set cells (base + s.cell) y) rest) z_is ∙ sym (ap (added base c cells) left_is) ∙ adding.same;
        inside = λ k d small. lt-length-set cells (base + s.cell) z (all (suc k) d (omega (arith, small)));
        small = omega (arith, adding.small, abs, sum_by-set nat_abs cells (base + s.cell) z (pos 0) here, ap (λ n. nat_abs c * n) sizes);
      }
