-- What a listed staircase tells by number: main lemmas `staircase_of` (the elements of the list are the staircase), `grows_of` (they grow
-- from 1) and `small_totals` (each total is at most the number of the element).
use Rattle.ct_border.proofs.Base.{ℕ, zero, suc, ◌<◌, ◌≤◌, ◌∙◌, ap, arith, List, length, All}
use Rattle.ct_border.proofs.Base.{Mono, unit, total, total-·, total_unit, total-symbol, symbol, Name, Action, Operator, IsIrreducible}
use Rattle.ct_mono.proofs.LowerMonomials.{no_total}
use Rattle.ct_telescoping.proofs.StaircaseGrows.{IsStaircaseOf-listing, GrowsFromOne-staircase}
use Rattle.ct_telescoping.specs.Staircase.{IsStaircaseOf, GrowsFromOne}
use Rattle.ct_border.specs.BuildMeans.{element_at}
use Rattle.ct_border.specs.StaircaseMeans.{IsProper, HasStaircase}
use Rattle.ct_border.proofs.LeadingMonomials.{one_lead}

-- no leading monomial divides 1
pub unit_remains : (gs : List Operator) → All IsProper gs → IsIrreducible gs unit
unit_remains gs proper k g below divides =
    let leads = proper k g below in
    leads.proper (one_lead _ leads.mono divides.mono leads.coef divides.coef leads.leads divides.leads
    ∙ no_total divides.mono (omega (arith, ap total divides.product, total-· divides.quotient divides.mono, total_unit)))

module _ (a : Name → Action) (gs : List Operator) (ms : List Mono) (has : HasStaircase a gs ms) where
  pub staircase_of : IsStaircaseOf (length ms) (element_at ms) a gs
  staircase_of = IsStaircaseOf-listing a gs ms has.listing

  pub grows_of : GrowsFromOne (length ms) (element_at ms)
  grows_of = GrowsFromOne-staircase a gs (length ms) (element_at ms) staircase_of (unit_remains gs has.proper)

  pub small_totals : (k : ℕ) → k < length ms → total (element_at ms k) ≤ k
  small_totals k below = up_to (suc k) k (omega arith) below
    where
      up_to : (n k : ℕ) → k < n → k < length ms → total (element_at ms k) ≤ k
      up_to zero k less below = absurd (omega (arith, less))
      up_to (suc n) zero less below = omega (arith, ap total grows_of.first, total_unit)
      up_to (suc n) (suc k) less below =
          let step = grows_of.steps (suc k) (omega arith) below in
          omega (
            arith,
            step.earlier,
            ap total step.product,
            total-· (symbol step.name) (element_at ms step.before),
            total-symbol step.name,
            up_to n step.before (omega (arith, less, step.earlier)) (omega (arith, below, step.earlier)),
          )
