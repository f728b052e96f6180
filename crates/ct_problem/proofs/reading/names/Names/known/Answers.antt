use Rattle.ct_problem.proofs.Base.{◌≡◌, length-map, naming_of, names_of, known}
use Rattle.ct_problem.proofs.KnownTexts.{known-texts, known-within}
use Rattle.ct_problem.proofs.reading.names.Names.known.Goals as goal

pub returns-clause-value : goal.returns-clause-value
returns-clause-value c =
    let seen : c.args.self.now ≡ names_of c.self.inside = cc in
    rw (seen, known-texts c.args.text.now (names_of c.self.inside), length-map c.self.inside.variables.items naming_of, ← c.self.invariant.same_texts)
    (cc)

pub returns-clause-within : goal.returns-clause-within
returns-clause-within c =
    let seen : c.args.self.now ≡ names_of c.self.inside = cc in
    let value : c.known_at.result ≡ known c.args.text.now (names_of c.self.inside) =
    rw (known-texts c.args.text.now (names_of c.self.inside), length-map c.self.inside.variables.items naming_of, ← c.self.invariant.same_texts)
    (cc) in
    rw (seen, value) (known-within c.args.text.now (names_of c.self.inside) c.self.invariant.few)
