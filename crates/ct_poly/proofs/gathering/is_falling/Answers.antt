use Rattle.ct_poly.proofs.Base.{◌≡◌, ◌≢◌, ◌∙◌, sym, pos, is_gt, true, rules}
use Rattle.ct_poly.proofs.GatheredTerms.{comparing_more}
use Rattle.ct_poly.proofs.MergedMultiples.{greater_is}
use Rattle.ct_poly.proofs.gathering.is_falling.Goals as goal

pub comparing-preserved : goal.comparing-preserved
comparing-preserved c =
    let told : is_gt c.cmp.result ≡ true = search rules in
    let some : c.comparing.last.coef ≢ pos 0 = search rules in
    comparing_more c.in-Some-split_first.ensures.cases.0 some (sym c.cmp.ensures ∙ greater_is c.cmp.result told) c.comparing.invariant
