use Rattle.std.proofs.Common.{◌≡◌, suc, sym, ◌∙◌, ap, subst, arith}
use Rattle.ct_algebra.specs.Monomial.{total}
use Rattle.ct_mono.specs.Listing.{IsListing, below}
use Rattle.ct_mono.proofs.ListingLaws.{up_to-listing}
use Rattle.ct_mono.proofs.ExponentLaws.{total-unit}
use Rattle.ct_mono.proofs.ListingSteps.{more_below}
use Rattle.ct_mono.proofs.listing.up_to.Goals as goal

pub append_of_total-requires-clause-fits : goal.append_of_total-requires-clause-fits
append_of_total-requires-clause-fits c = omega (arith, ap total c.one.ensures, total-unit, c.requires.small)

pub loop-t-preserved : goal.loop-t-preserved
loop-t-preserved c =
    more_below c.args.names.now c.loop-t.t c.one.result c.loop-t.all.items c.append_of_total.new.all.items
    c.one.ensures c.loop-t.invariant (c.in_ok-append_of_total.ensures)

pub returns-clause-value : goal.returns-clause-value
returns-clause-value c =
    let ended : c.loop-t.t ≡ suc c.args.degree = omega (arith, c.loop-t.auto.t-end) in
    c.loop-t.invariant ∙ ap (below c.args.names.now) ended

pub returns-clause-listing : goal.returns-clause-listing
returns-clause-listing c =
    let ended : c.loop-t.t ≡ suc c.args.degree = omega (arith, c.loop-t.auto.t-end) in
    subst (IsListing c.args.names.now c.args.degree) (sym (c.loop-t.invariant ∙ ap (below c.args.names.now) ended))
    (up_to-listing c.args.names.now c.args.degree c.requires.rise c.requires.names)
