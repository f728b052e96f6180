use Rattle.std.proofs.Common.{◌<◌, ap, arith, subst, length}
use Rattle.std.specs.List.{All}
use Rattle.std.proofs.lemmas.List.Elements.{All-tail}
use Rattle.ct_algebra.specs.Monomial.{total, total-·}
use Rattle.ct_algebra.specs.Names.{name_with}
use Rattle.ct_mono.proofs.LowerMonomials.{total-symbol}
use Rattle.ct_mono.proofs.ListingSteps.{one_of_no_total, both_parts_on_ok}
use Rattle.ct_mono.proofs.listing.+append_of_total.Goals as goal

pub returns-then-t-eq0 : goal.returns-then-t-eq0
returns-then-t-eq0 t c =
    one_of_no_total c.args.part.now c.args.all.now.items c.push.new.self.items c.args.names.now c.args.t
    c.if-t-eq0.true c.in_ok-push.ensures.items

pub append_of_total-requires : goal.append_of_total-requires
append_of_total-requires t c = (
  omega (arith, c.decreases, ap length c.in-Some.ensures.cases.0),
  (
    All-tail (λ i. i < 6) c.in-Some.first.now c.in-Some.others.now
        (subst (All (λ i. i < 6)) c.in-Some.ensures.cases.0 c.requires.names),
    c.requires.fits,
  ),
)

pub product-requires : goal.product-requires
product-requires t c =
    omega (arith, c.requires.fits, ap total c.name.ensures, total-symbol (name_with c.in-Some.first.now))

pub append_of_total-requires-2 : goal.append_of_total-requires-2
append_of_total-requires-2 t c = (
  omega (arith, c.decreases, c.if-t-eq0.false),
  (
    c.requires.names,
    omega (
      arith,
      c.requires.fits,
      c.if-t-eq0.false,
      ap total c.product.ensures,
      total-· c.args.part.now c.name.result,
      ap total c.name.ensures,
      total-symbol (name_with c.in-Some.first.now),
    ),
  ),
)

pub returns : goal.returns
returns t c =
    both_parts_on_ok c.append_of_total-2.result c.args.part.now c.name.result c.product.result c.args.all.now.items
    c.append_of_total.new.all.items c.append_of_total-2.new.all.items c.in-Some.first.now c.in-Some.others.now
    c.args.names.now c.args.t
    (omega (arith, c.if-t-eq0.false)) c.in-Some.ensures.cases.0 c.name.ensures c.product.ensures
    c.in_ok-append_of_total.ensures c.append_of_total-2.ensures
