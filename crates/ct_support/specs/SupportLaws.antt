-- What the laws of supports and their columns say; the functions of src/laws.rt prove them.
--     IsNumber r n             n is a number of the range r
--     ComesBefore p q          the order of p is below that of q, or they are the same and its degree is
--     SupportsAreNumbered      the list of supports has the orders and degrees of the ranges and no others, and each comes before
--                              all later ones: so each has one number
--     MonomialsAreCounted      the monomials in some names up to a total are as many as `monomial_count` says
--     ColumnsAreCounted        the columns of a support are as many as `column_count` says
use Rattle.std.specs.Prelude.{◌≡◌, ℕ, ◌<◌, ◌≤◌, List, length}
use Rattle.std.specs.List.{All, AllPairs, Contains}
use Rattle.std.proofs.Common.{◌⊎◌}
use Rattle.ct_algebra.specs.Monomial.{Mono}
use Rattle.ct_algebra.specs.Names.{Name}
use Rattle.ct_algebra.specs.Actions.{Action}
use Rattle.ct_telescoping.specs.Rising.{IsOnce}
use Rattle.ct_telescoping.specs.Columns.{columns_of_support, free_names, monomials_in}
use Rattle.ct_support.specs.declared.shape.Range.{Range}
use Rattle.ct_support.specs.declared.shape.Support.{Support}
use Rattle.ct_support.specs.Supports.{supports_of}
use Rattle.ct_support.specs.ColumnCount.{monomial_count, column_count}

abbrev pub IsNumber : Range → ℕ → Type 0
IsNumber r n = (r.low ≤ n) × (n ≤ r.high)

abbrev pub ComesBefore : ℕ × ℕ → ℕ × ℕ → Type 0
ComesBefore p q = (p.0 < q.0) ⊎ ((p.0 ≡ q.0) × (p.1 < q.1))

pub record AreNumbered (orders degrees : Range) : Type 0 where
  pub sound : All (λ p. IsNumber orders p.0 × IsNumber degrees p.1) (supports_of orders degrees)
  pub complete :
      (order degree : ℕ) → IsNumber orders order → IsNumber degrees degree →
      Contains (supports_of orders degrees) (order, degree)
  pub rises : AllPairs ComesBefore (supports_of orders degrees)

abbrev pub SupportsAreNumbered : Type 0
SupportsAreNumbered = (orders degrees : Range) → AreNumbered orders degrees

-- as long as no name is listed twice
abbrev pub MonomialsAreCounted : Type 0
MonomialsAreCounted = (names : List Name) (k : ℕ) → IsOnce names → length (monomials_in names k) ≡ monomial_count (length names) k

abbrev pub ColumnsAreCounted : Type 0
ColumnsAreCounted =
    (a : Name → Action) (summed : List Name) (elements : List Mono) (s : Support) → IsOnce summed →
    length (columns_of_support a summed elements s.order s.degree) ≡
    column_count (length (free_names a summed)) (length summed) (length elements) s
