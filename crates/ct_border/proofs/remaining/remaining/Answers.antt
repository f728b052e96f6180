use Rattle.ct_border.proofs.Base.{◌≡◌, ◌+◌, ◌++◌, ◌∙◌, ap, arith, sym, length, filter, below, total, total_unit, IfSome_then, err_from_is_err_and}
use Rattle.ct_border.specs.Staircase.{few, is_left, refusal_of}
use Rattle.ct_border.proofs.FewMonomials.{few_ok, left_of, left_more, refused_below}
use Rattle.ct_border.proofs.remaining.remaining.Goals as goal

pub with_total-requires-clause-fits : goal.with_total-requires-clause-fits
with_total-requires-clause-fits c = omega (arith, ap total c.one.ensures, total_unit, c.loop-t-test.true)

pub returns-in_err-found : goal.returns-in_err-found
returns-in_err-found c =
    let exit = err_from_is_err_and c.from_residual.result c.from_residual.ensures.1 in
    let ds = c.args.leading.now in
    let names = c.args.names.now in
    let one = c.one.result in
    let t = c.loop-t.t in
    let more : c.loop-t.found.items ++ left_of ds one names t ≡ filter (is_left ds) (below names (t + 1)) =
    ap (λ l. l ++ left_of ds one names t) c.loop-t.invariant.0 ∙ left_more ds one names t c.one.ensures in
    rw (exit.1, exit.2) (IfSome_then (refusal_of c.in_err-found.field-0.0) c.in_err-found.ensures
    (λ r refused. refused_below ds names r (t + 1) 17 (omega (arith, c.loop-t-test.true)) (ap few (sym more) ∙ refused)))

pub loop-t-preserved : goal.loop-t-preserved
loop-t-preserved c =
    let ds = c.args.leading.now in
    let names = c.args.names.now in
    let one = c.one.result in
    let t = c.loop-t.t in
    let small = few_ok _ _ c.in_ok-found.ensures in (
      sym small.is ∙ ap (λ l. l ++ left_of ds one names t) c.loop-t.invariant.0 ∙ left_more ds one names t c.one.ensures,
      omega (arith, ap length small.is, small.within),
    )
