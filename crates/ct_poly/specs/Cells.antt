-- Cells for the monomials of a box, whose exponents are at most those of a greatest one.
--     cells_below n tops      how many monomials the box has in the first n names
--     cell_below n tops m     the number of the cell of one of them: the first name counts most
--     cells_of, cell_of       the same of all six names;  most_cells  how many are taken at most
--     IsTable tops p cells    each monomial of the box has its coefficient in p in its cell, and p has no others
--     Spot, spots tops ts     the coefficients of terms at their cells
--     added base c cells ss   c times each of the spots added, base cells above its own
--     size_of_cells, size_of_spots       the sum of the absolute values
--     AreInBox, AreMultiplesInBox        the monomials of a list are in the box; so are their products with a monomial
--     IsTableOf ts tops cells            a table of the terms ts, in a box that is small enough
--     IsDivisor tops fs ss lead room     what a division by the terms fs knows: their spots, and how large a quotient is
--     HasRoom                            the measures of a dividend, a divisor and a quotient leave room for all steps
--     IsQuotient n count norm fs qs      the terms qs times fs are n, and there is room for all steps
--     AreProductsInBox tops ps qs        the products of all monomials of two lists are in the box
--     IsMultiplied tops start ps qs cells    the product of two lists is added to a table
-- Different monomials have different cells, and that alone makes a table true.
use Rattle.std.specs.Prelude.{◌≡◌, ◌≢◌, ℕ, zero, suc, ◌+◌, ◌*◌, ◌≤◌, ℤ, ◌+ℤ◌, ◌*ℤ◌, pos, nat_abs, List, [], ◌∷◌, length, map, sum_by, slice_index_or, slice_set}
use Rattle.ct_algebra.specs.Monomial.{Mono, exp, ◌·◌}
use Rattle.ct_algebra.specs.Polynomial.{Polynomial, coefficient, plus, times}
use Rattle.ct_algebra.specs.Terms.{EachTerm}
use Rattle.ct_mono.specs.Division.{Divides}
use Rattle.ct_checked.specs.Limits.{most_terms, largest_norm}
use Rattle.ct_poly.specs.declared.cells.Spot.{Spot}
use Rattle.ct_poly.specs.declared.term.Term.{Term}
use Rattle.ct_poly.specs.Terms.{entries, poly_of_terms, size_of}

abbrev pub most_cells : ℕ
most_cells = 1048576

abbrev pub cells_below : ℕ → Mono → ℕ
cells_below zero tops = 1
cells_below (suc n) tops = cells_below n tops * suc (exp tops n)

abbrev pub cell_below : ℕ → Mono → Mono → ℕ
cell_below zero tops m = 0
cell_below (suc n) tops m = cell_below n tops m * suc (exp tops n) + exp m n

unfoldable pub cells_of : Mono → ℕ
cells_of tops = cells_below 6 tops

unfoldable pub cell_of : Mono → Mono → ℕ
cell_of tops m = cell_below 6 tops m

-- the coefficients of a polynomial, by monomials
pub record IsTable (tops : Mono) (p : Polynomial) (cells : List ℤ) : Type 0 where
  pub whole : length cells ≡ cells_of tops
  pub each : (m : Mono) → Divides m tops → slice_index_or cells (cell_of tops m) (pos 0) ≡ coefficient p m
  pub inside : (m : Mono) → (Divides m tops → ⊥) → coefficient p m ≡ pos 0

abbrev pub spot : Mono → Term → Spot
spot tops t = record { cell = cell_of tops t.mono; coef = t.coef }

abbrev pub spots : Mono → List Term → List Spot
spots tops ts = map (λ t. spot tops t) ts

-- all monomials are in the box
abbrev pub AreInBox : Mono → List Term → Type 0
AreInBox tops ts = EachTerm (λ m c. Divides m tops) (entries ts)

abbrev pub added : ℕ → ℤ → List ℤ → List Spot → List ℤ
added base c cells [] = cells
added base c cells (s ∷ ss) =
    added base c (slice_set cells (base + s.cell) (slice_index_or cells (base + s.cell) (pos 0) +ℤ c *ℤ s.coef)) ss

abbrev pub size_of_cells : List ℤ → ℕ
size_of_cells cells = sum_by nat_abs cells

abbrev pub size_of_spots : List Spot → ℕ
size_of_spots ss = sum_by (λ s. nat_abs s.coef) ss

-- the products of a monomial with all are in the box
abbrev pub AreMultiplesInBox : Mono → Mono → List Term → Type 0
AreMultiplesInBox tops u ts = EachTerm (λ m c. Divides (u · m) tops) (entries ts)

-- a table that takes the place of a list
pub record IsTableOf (ts : List Term) (tops : Mono) (cells : List ℤ) : Type 0 where
  pub table : IsTable tops (poly_of_terms ts) cells
  pub small : size_of_cells cells ≤ size_of ts
  pub few : cells_of tops ≤ most_cells

-- what a division by fs in the box knows of it
pub record IsDivisor (tops : Mono) (fs : List Term) (ss : List Spot) (lead : Spot) (room : Mono) : Type 0 where
  pub same : ss ≡ spots tops fs
  pub some : length fs ≢ 0
  pub nonzero : lead.coef ≢ pos 0
  pub room_in : Divides room tops
  pub products_in : AreMultiplesInBox tops room fs

-- the measures of a dividend, a divisor and a quotient are within the limits of all steps together
pub record HasRoom (count norm by_count by_norm quotient_count quotient_norm : ℕ) : Type 0 where
  pub few : count + quotient_count * by_count ≤ most_terms
  pub small : norm + quotient_norm * by_norm ≤ largest_norm
  pub fits : quotient_norm ≤ largest_norm

-- an exact quotient of n, which leaves room for all steps; of n is known how many terms and how large a norm it has at most
pub record IsQuotient (n : Polynomial) (count norm : ℕ) (fs qs : List Term) : Type 0 where
  pub some : length fs ≢ 0
  pub room : HasRoom count norm (length fs) (size_of fs) (length qs) (size_of qs)
  pub value : times (poly_of_terms qs) (poly_of_terms fs) ≡ n

-- the products of all monomials of two lists are in the box
abbrev pub AreProductsInBox : Mono → List Term → List Term → Type 0
AreProductsInBox tops ps qs = EachTerm (λ m c. AreMultiplesInBox tops m qs) (entries ps)

-- from a table of n, one of n and the product of two lists
pub record IsMultiplied (tops : Mono) (start : List ℤ) (ps qs : List Term) (cells : List ℤ) : Type 0 where
  pub whole : length cells ≡ cells_of tops
  pub small : size_of_cells cells ≤ size_of_cells start + size_of ps * size_of qs
  pub table :
      (n : Polynomial) → IsTable tops n start → IsTable tops (plus n (times (poly_of_terms ps) (poly_of_terms qs))) cells
