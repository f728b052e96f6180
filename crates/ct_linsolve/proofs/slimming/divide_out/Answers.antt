use Rattle.ct_linsolve.proofs.Base.{◌≡◌, Ok, Err, rules}
use Rattle.ct_linsolve.specs.Rows.{quotients}
use Rattle.ct_linsolve.proofs.DividedOut.{has_degree, out_start, out_more, out_done}
use Rattle.ct_linsolve.proofs.slimming.divide_out.Goals as goal

pub dividing-init : goal.dividing-init
dividing-init c = out_start c.args.by.now c.args.row.items c.requires.nonzero

pub quotients-requires : goal.quotients-requires
quotients-requires c = has_degree c.args.by.now c.requires.some

pub returns-in-None-clause-value : goal.returns-in-None-clause-value
returns-in-None-clause-value c =
    let none : quotients c.args.by.now c.dividing.row.items ≡ Err tt = search rules in
    out_done c.args.by.now c.args.row.items c.dividing.row.items none c.dividing.invariant

pub dividing-smaller : goal.dividing-smaller
dividing-smaller c =
    let found : quotients c.args.by.now c.dividing.row.items ≡ Ok c.in-Some.divided.items = search rules in
    (out_more c.args.by.now c.args.row.items c.dividing.row.items c.in-Some.divided.items c.requires.some found c.dividing.invariant).1

pub dividing-preserved : goal.dividing-preserved
dividing-preserved c =
    let found : quotients c.args.by.now c.dividing.row.items ≡ Ok c.in-Some.divided.items = search rules in
    (out_more c.args.by.now c.args.row.items c.dividing.row.items c.in-Some.divided.items c.requires.some found c.dividing.invariant).0
