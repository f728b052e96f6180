-- The powers of a name plus a number, and the tables of their terms from which shifts are made.
--     binomial i a          the name with the place i plus the number a
--     power_of i a e        its power e
--     IsPower i a e row     the list of the terms of that power
--     IsPowerTable table    the rows of a table are the powers from 0 on, and its number is positive
--     CanShift table ts     what the shift of a list by a table asks
use Rattle.std.specs.Prelude.{◌≡◌, ℕ, zero, suc, ◌+◌, ◌^◌, ◌<◌, ◌≤◌, pos, List, length, slice_index_or}
use Rattle.std.specs.Global.{Vec}
use Rattle.ct_algebra.specs.Names.{name_with}
use Rattle.ct_algebra.specs.Polynomial.{Polynomial, polys, plus, times}
use Rattle.ct_algebra.specs.Substitution.{name, number}
use Rattle.ct_checked.specs.Limits.{largest_degree, largest_norm}
use Rattle.ct_poly.specs.declared.term.Term.{Term}
use Rattle.ct_poly.specs.declared.shift.Powers.{Powers}
use Rattle.ct_poly.specs.Terms.{IsFalling, poly_of_terms, size_of, greatest_total, shift_size, greatest_exp}

abbrev pub binomial : ℕ → ℕ → Polynomial
binomial i a = plus (name (name_with i)) (number (pos a))

abbrev pub power_of : ℕ → ℕ → ℕ → Polynomial
power_of i a zero = polys.one
power_of i a (suc e) = times (binomial i a) (power_of i a e)

pub record IsPower (i a e : ℕ) (row : List Term) : Type 0 where
  pub falling : IsFalling row
  pub value : poly_of_terms row ≡ power_of i a e
  pub small : size_of row ≤ (1 + a) ^ e

pub record IsPowerTable (table : Powers) : Type 0 where
  pub known : table.name < 6
  pub positive : 0 < table.by
  pub rows : (e : ℕ) (d : Vec Term) → e < length table.rows.items → IsPower table.name table.by e (slice_index_or table.rows.items e d).items

-- a table can shift a list
pub record CanShift (table : Powers) (ts : List Term) : Type 0 where
  pub falling : IsFalling ts
  pub low : greatest_total ts ≤ largest_degree
  pub small : shift_size table.name table.by ts ≤ largest_norm
  pub reaches : greatest_exp table.name ts < length table.rows.items
