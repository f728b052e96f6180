-- Supports: the orders and degrees of two ranges, in a list. (This project's own.)
--     numbers_of r                the numbers of a range, rising
--     supports_of orders degrees  each order with each degree: orders rise, and at each order degrees rise
--     with_index i p              the pair p of an order and a degree, as the support with the number i
--     AreRanges orders degrees    both have a number, orders are at most 8 and degrees at most 12
-- The number of a support is its place in the list, counted from 0. Law `supports_are_numbered` says what the list is.
use Rattle.std.specs.Prelude.{ℕ, ◌+◌, ◌-◌, ◌≤◌, List, map}
use Rattle.std.specs.List.{flat_map, range_with_len}
use Rattle.ct_support.specs.declared.shape.Range.{Range}
use Rattle.ct_support.specs.declared.shape.Support.{Support}

-- how many numbers a range has; none where it is empty
abbrev pub size_of : Range → ℕ
size_of r = r.high + 1 - r.low

abbrev pub numbers_of : Range → List ℕ
numbers_of r = range_with_len r.low (size_of r)

-- an order with each degree
abbrev pub row_of : List ℕ → ℕ → List (ℕ × ℕ)
row_of degrees order = map (λ degree. (order, degree)) degrees

abbrev pub supports_of : Range → Range → List (ℕ × ℕ)
supports_of orders degrees = flat_map (row_of (numbers_of degrees)) (numbers_of orders)

abbrev pub with_index : ℕ → ℕ × ℕ → Support
with_index i p = record { index = i; order = p.0; degree = p.1 }

pub record AreRanges (orders degrees : Range) : Type 0 where
  pub some_orders : orders.low ≤ orders.high
  pub few_orders : orders.high ≤ 8
  pub some_degrees : degrees.low ≤ degrees.high
  pub few_degrees : degrees.high ≤ 12
