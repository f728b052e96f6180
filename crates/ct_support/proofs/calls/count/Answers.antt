use Rattle.ct_support.proofs.Base.{◌*◌, ◌≤◌, ◌∙◌, ap₂, arith, sym, mul-le-mul}
use Rattle.ct_support.proofs.SupportsListed.{count_is}
use Rattle.ct_support.proofs.calls.count.Goals as goal

pub overflow_mul-result : goal.overflow_mul-result
overflow_mul-result c =
    let few : c.len.result * c.len-2.result ≤ 9 * 13 =
    mul-le-mul {n₂ = 9} {m₂ = 13} (omega (arith, c.len.ensures, c.requires.few_orders)) (omega (arith, c.len-2.ensures, c.requires.few_degrees)) in
    omega (arith, few)

pub returns : goal.returns
returns c = ap₂ ◌*◌ c.len.ensures c.len-2.ensures ∙ sym (count_is c.args.orders.now c.args.degrees.now)
