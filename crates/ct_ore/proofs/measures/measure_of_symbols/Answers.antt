use Rattle.ct_ore.proofs.Base.{◌≡◌, ◌∙◌, sym, ap, arith, sum_by-cons, total}
use Rattle.ct_ore.specs.Naming.{actions_of}
use Rattle.ct_ore.specs.PairMeasures.{term_measure, symbols_measure}
use Rattle.ct_ore.proofs.PairMeasureLaws.{summing_more}
use Rattle.ct_ore.proofs.PairSums.{no_symbols-weight, no_symbols-count}
use Rattle.ct_ore.proofs.measures.measure_of_symbols.Goals as goal

pub measuring-preserved : goal.measuring-preserved
measuring-preserved c =
    let f = term_measure (actions_of c.args.algebra.now) c.args.weigh c.args.m.now in
    summing_more c.measure_of_term.result (f c.in-Some.t.now)
    (symbols_measure (actions_of c.args.algebra.now) c.args.weigh c.args.m.now c.in-Some.more.now)
    (ap (symbols_measure (actions_of c.args.algebra.now) c.args.weigh c.args.m.now) c.in-Some.ensures.cases.0
    ∙ sum_by-cons f c.in-Some.t.now c.in-Some.more.now)
    c.measuring.invariant c.measure_of_term.ensures c.capped_sum-sum.ensures

pub returns-then-weigh : goal.returns-then-weigh
returns-then-weigh c =
    let none : total c.args.m.now ≡ 0 = sym c.total.ensures.value ∙ c.if-total-eq0.true in (
      c.size_of_parts.ensures ∙ no_symbols-weight (actions_of c.args.algebra.now) c.args.m.now none c.args.qs.now
          ∙ ap (λ w. symbols_measure (actions_of c.args.algebra.now) w c.args.m.now c.args.qs.now) (sym c.if-weigh.true),
      omega (arith, c.size_of_parts.ensures, c.requires.small),
    )

pub returns-else-weigh : goal.returns-else-weigh
returns-else-weigh c =
    let none : total c.args.m.now ≡ 0 = sym c.total.ensures.value ∙ c.if-total-eq0.true in (
      no_symbols-count (actions_of c.args.algebra.now) c.args.m.now none c.args.qs.now
          ∙ ap (λ w. symbols_measure (actions_of c.args.algebra.now) w c.args.m.now c.args.qs.now) (sym c.if-weigh.false),
      omega (arith, c.requires.few),
    )
