-- What the symbol of a name makes of a vector of written fractions, in checked arithmetic (this project's own rules).
--     checked_sigma_by t i w, checked_delta_by t i w     σ and δ of the name i, where its action is t
--     checked_share t i sum (x, y)     a sum with σ(x)·y added
--     checked_entry t i rows v c       at the element c the sum, from zero over the elements b in order, of σ(v_b)·M[b, c], plus δ(v_c)
--     checked_action t i rows v        all entries, elements rising
--     checked_act ns m i v             the same with the rows and the action of the name in a module
-- σ is formed at its turn in the sum, also where the row's entry is zero, and δ behind the sum. σ of a derivation and δ of a shift
-- take no step of their own. δ of a shift is zero, and is added as any other fraction is, which may write the sum anew.
-- The first step that overflows decides the kind. By value this is `action` of ct_telescoping: clause `means` of `act`.
use Rattle.std.specs.Prelude.{ℕ, Ok, List, length, map}
use Rattle.std.specs.List.{zip, range_with_len}
use Rattle.ct_algebra.specs.Actions.{Action, by_action}
use Rattle.ct_algebra.specs.Names.{Name}
use Rattle.ct_checked.specs.Checked.{Checked, ◌>>=◌}
use Rattle.ct_checked.specs.Traversal.{checked_fold, checked_each}
use Rattle.ct_frac.specs.Arithmetic.{checked_fraction_sum, checked_fraction_product}
use Rattle.ct_frac.specs.Symbols.{checked_sigma, checked_delta}
use Rattle.ct_frac.specs.Written.{Written}
use Rattle.ct_ore.specs.Naming.{Naming, actions_of}
use Rattle.ct_module.specs.Modules.{WrittenModule, rows_of, entry, written_zero}

abbrev pub checked_sigma_by : Action → Name → Written → Checked Written
checked_sigma_by t i w = by_action t (checked_sigma i w) (Ok w) (Ok w)

abbrev pub checked_delta_by : Action → Name → Written → Checked Written
checked_delta_by t i w = by_action t (Ok written_zero) (checked_delta i w) (Ok written_zero)

abbrev pub checked_moved_product : Action → Name → Written → Written → Checked Written
checked_moved_product t i x y = checked_sigma_by t i x >>= (λ s. checked_fraction_product s y)

abbrev pub checked_share : Action → Name → Written → Written × Written → Checked Written
checked_share t i sum p = checked_moved_product t i p.0 p.1 >>= (λ product. checked_fraction_sum sum product)

-- the entries of all rows at an element
abbrev pub entries_at : ℕ → List (List Written) → List Written
entries_at c rows = map (λ row. entry row c) rows

unfoldable pub checked_entry : Action → Name → List (List Written) → List Written → ℕ → Checked Written
checked_entry t i rows v c = do
  sum ← checked_fold (checked_share t i) written_zero (zip v (entries_at c rows))
  derivative ← checked_delta_by t i (entry v c)
  checked_fraction_sum sum derivative

abbrev pub checked_action : Action → Name → List (List Written) → List Written → Checked (List Written)
checked_action t i rows v = checked_each (checked_entry t i rows v) (range_with_len 0 (length v))

abbrev pub checked_act : List Naming → WrittenModule → Name → List Written → Checked (List Written)
checked_act ns m i v = checked_action (actions_of ns i) i (rows_of m i) v
