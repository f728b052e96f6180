use Rattle.ct_support.proofs.Base.{◌<◌, ◌%◌, arith, mod-lt}
use Rattle.ct_support.proofs.SupportsListed.{none_past, some_at}
use Rattle.ct_support.proofs.calls.support.Goals as goal

pub returns-then-row-len : goal.returns-then-row-len
returns-then-row-len c =
    none_past c.args.orders.now c.args.degrees.now c.args.index c.len-width.result c.len.result c.len-width.ensures c.len.ensures c.if-row-len.true

pub overflow_cast-result : goal.overflow_cast-result
overflow_cast-result c = omega (arith, c.if-row-len.false, c.len.ensures, c.requires.few_orders)

pub overflow_add-result : goal.overflow_add-result
overflow_add-result c = omega (arith, c.if-row-len.false, c.len.ensures, c.requires.few_orders, c.requires.some_orders)

pub overflow_cast-result-2 : goal.overflow_cast-result-2
overflow_cast-result-2 c =
    let small : c.args.index % c.len-width.result < c.len-width.result =
    mod-lt c.args.index (omega (arith, c.len-width.ensures, c.requires.some_degrees)) in
    omega (arith, small, c.len-width.ensures, c.requires.few_degrees)

pub overflow_add-result-2 : goal.overflow_add-result-2
overflow_add-result-2 c =
    let small : c.args.index % c.len-width.result < c.len-width.result =
    mod-lt c.args.index (omega (arith, c.len-width.ensures, c.requires.some_degrees)) in
    omega (arith, small, c.len-width.ensures, c.requires.few_degrees, c.requires.some_degrees)

pub returns : goal.returns
returns c =
    some_at c.args.orders.now c.args.degrees.now c.args.index c.len-width.result c.len.result c.len-width.ensures c.len.ensures
    (omega (arith, c.len-width.ensures, c.requires.some_degrees)) c.if-row-len.false
