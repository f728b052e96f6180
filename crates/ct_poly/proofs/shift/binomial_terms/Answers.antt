use Rattle.ct_poly.proofs.Base.{◌≡◌, [], ◌∷◌, rules, pos}
use Rattle.ct_poly.specs.declared.term.Term.{Term}
use Rattle.ct_poly.proofs.PowerTables.{binomial_listed, binomial_low}
use Rattle.ct_poly.proofs.shift.binomial_terms.Goals as goal

pub returns-clause-list : goal.returns-clause-list
returns-clause-list c =
    let first : Term = record { mono = c.name.result; coef = pos 1 } in
    let second : Term = record { mono = c.one.result; coef = c.from.result } in
    let both : c.push-2.new.self.items ≡ first ∷ second ∷ [] = search rules in
    binomial_listed c.args.i c.requires.known c.args.by c.requires.positive first second c.push-2.new.self.items c.name.ensures
    (search rules) c.one.ensures c.from.ensures both

pub returns-clause-low : goal.returns-clause-low
returns-clause-low c =
    let first : Term = record { mono = c.name.result; coef = pos 1 } in
    let second : Term = record { mono = c.one.result; coef = c.from.result } in
    let both : c.push-2.new.self.items ≡ first ∷ second ∷ [] = search rules in
    binomial_low c.args.i c.requires.known c.args.by c.requires.positive first second c.push-2.new.self.items c.name.ensures
    (search rules) c.one.ensures c.from.ensures both
