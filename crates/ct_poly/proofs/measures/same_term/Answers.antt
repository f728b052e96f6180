use Rattle.ct_poly.proofs.Base.{◌≡◌, rules}
use Rattle.ct_poly.proofs.TermLists.{same_entry}
use Rattle.ct_poly.proofs.measures.same_term.Goals as goal

pub returns-then-a-b : goal.returns-then-a-b
returns-then-a-b c =
    let coefs : c.args.a.now.coef ≡ c.args.b.now.coef = search rules in
    rw c.is_eq.ensures (same_entry c.args.a.now c.args.b.now c.cmp.result coefs c.cmp.ensures)
